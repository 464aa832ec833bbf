use Rattle.std.proofs.Common.{◌≡◌, ◌++◌, drop, vec_items}
use Rattle.page.specs.Forest.{attrs_of}
use Rattle.render.specs.Render.{attrs_text}
use Rattle.render.proofs.line.push_attrs.Given as goal

abbrev pub invariant-loop-j : goal.invariant-loop-j
invariant-loop-j g l =
    let all = attrs_of l.node in
    vec_items l.out ++ attrs_text (drop l.j all) ≡ vec_items l.initial.out ++ attrs_text all
