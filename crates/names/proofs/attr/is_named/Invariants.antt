-- What is left decides.
use Rattle.std.proofs.Common.{◌≡◌, true, drop, is_some}
use Rattle.page.specs.Forest.{find, part_of}
use Rattle.page.specs.declared.kind.Part.TheVariants.{Name}
use Rattle.text.specs.Held.{held}
use Rattle.names.specs.Names.{same}
use Rattle.names.proofs.attr.is_named.Given as goal

abbrev pub invariant-loop-k : goal.invariant-loop-k
invariant-loop-k g l =
    let t = g.P.Page.tree l.p in
    let xs = held t l.n (Name l.j) in
    is_some (part_of (find t l.n) (Name l.j)) ≡ true → same (drop l.k l.name) (drop l.k xs) ≡ same l.name xs
