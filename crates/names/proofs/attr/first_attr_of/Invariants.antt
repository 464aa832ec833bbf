-- What is left decides.
use Rattle.std.proofs.Common.{◌≡◌, drop}
use Rattle.page.specs.Forest.{find, attrs_of}
use Rattle.names.specs.Attrs.{first_index}
use Rattle.names.proofs.Attributes.{from}
use Rattle.names.proofs.attr.first_attr_of.Given as goal

abbrev pub invariant-loop-j : goal.invariant-loop-j
invariant-loop-j g l =
    let t = g.P.Page.tree l.p in
    let a = attrs_of (find t l.n) in
    from l.j (first_index (drop l.j a) l.name) ≡ first_index a l.name
