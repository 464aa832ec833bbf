use Rattle.std.proofs.Common.{◌<◌, ◌≤◌, [], length, vec_items, refl, arith}
use Rattle.page.specs.Forest.{attrs_of}
use Rattle.render.specs.Render.{attr_text, attrs_text}
use Rattle.render.proofs.Emit.{piece-more, pieces-all}
use Rattle.render.proofs.line.push_attrs.Goals as goal

pub push_attr-requires : goal.push_attr-requires
push_attr-requires g c =
    omega (arith, c.loop-j-test.true, c.attrs-j-end.ensures)

pub loop-j-preserved : goal.loop-j-preserved
loop-j-preserved g c =
    let all = attrs_of c.args.node.now in
    let j = c.loop-j.j in
    let l : j < length all = omega (arith, c.loop-j-test.true, c.attrs-j-end.ensures) in
    piece-more attrs_text attr_text (λ x xs. refl) refl (vec_items c.args.out.now) (vec_items c.loop-j.out) (vec_items c.push_attr.new.out) all j ([], []) l c.loop-j.invariant c.in_ok-push_attr.ensures

pub returns : goal.returns
returns g c =
    let all = attrs_of c.args.node.now in
    let l : length all ≤ c.loop-j.j = omega (arith, c.loop-j-test.false, c.attrs-j-end.ensures) in
    pieces-all attrs_text attr_text (λ x xs. refl) refl (vec_items c.args.out.now) (vec_items c.loop-j.out) all c.loop-j.j l c.loop-j.invariant
