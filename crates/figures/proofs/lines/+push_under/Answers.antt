-- A turn writes the lines of one child, with all under it.
use Rattle.std.proofs.Common.{◌≡◌, ◌<◌, ◌++◌, vec_items, sym, ap, ◌∙◌, subst, append_assoc, append-nil, arith}
use Rattle.page.specs.Forest.{size, kids_of, rest_of}
use Rattle.page.specs.Kept.{Below}
use Rattle.page.proofs.Nodes.{taken, all_taken}
use Rattle.figures.specs.Points.{element_line, point_lines}
use Rattle.figures.specs.Listed.{Listed}
use Rattle.figures.proofs.Elements.{line-parts}
use Rattle.figures.proofs.Lists.{first, first_below, below-kids}
use Rattle.figures.proofs.lines.+push_under.Goals as goal

pub loop-child-init : goal.loop-child-init
loop-child-init g t c =
    let e : c.into_iter-child-iterator.result ≡ kids_of c.args.node.now = c.into_iter-child-iterator.ensures.into_iter_gives ∙ c.children-child-items.ensures.children in
    record {
      left = ap (λ f. vec_items c.args.out.now ++ point_lines f) e;
      fewer = omega (arith, ap size e);
      below = subst (Below 8192) (sym e) (below-kids 8192 c.args.node.now c.children-child-items.ensures.kept.below);
      listed = subst (Listed c.args.table.now) (sym e) c.requires;
    }

pub offset_bounds-table-number : goal.offset_bounds-table-number
offset_bounds-table-number g t c =
    let s = taken c.loop-child.child-iterator c.in-Some.child c.next.new.self c.in-Some.ensures.steps in
    omega (arith, (first_below 8192 c.in-Some.child c.number.result (sym c.number.ensures) (subst (Below 8192) s.is c.loop-child.invariant.below)).0)

pub bounds-table-number : goal.bounds-table-number
bounds-table-number g t c =
    let s = taken c.loop-child.child-iterator c.in-Some.child c.next.new.self c.in-Some.ensures.steps in
    (first c.args.table.now c.in-Some.child c.number.result (sym c.number.ensures) (subst (Listed c.args.table.now) s.is c.loop-child.invariant.listed)).inside

pub push_line-requires : goal.push_line-requires
push_line-requires g t c =
    let s = taken c.loop-child.child-iterator c.in-Some.child c.next.new.self c.in-Some.ensures.steps in
    (first c.args.table.now c.in-Some.child c.number.result (sym c.number.ensures) (subst (Listed c.args.table.now) s.is c.loop-child.invariant.listed)).figures _

pub push_under-requires : goal.push_under-requires
push_under-requires g t c κs within =
    let s = taken c.loop-child.child-iterator c.in-Some.child c.next.new.self c.in-Some.ensures.steps in
    let less : size (kids_of c.in-Some.child) < t = omega (arith, c.decreases, s.size, c.loop-child.invariant.fewer) in
    let one = first c.args.table.now c.in-Some.child c.number.result (sym c.number.ensures) (subst (Listed c.args.table.now) s.is c.loop-child.invariant.listed) in
    (less, (within, one.kids))

pub loop-child-preserved : goal.loop-child-preserved
loop-child-preserved g t c =
    let f = c.in-Some.child in
    let O = vec_items c.loop-child.out in
    let s = taken c.loop-child.child-iterator f c.next.new.self c.in-Some.ensures.steps in
    let n = c.number.result in
    let head = sym c.number.ensures in
    let one = c.in_ok-push_line.ensures in
    let two = c.in_ok-push_under.ensures in
    let L = element_line f in
    let K = point_lines (kids_of f) in
    let R = point_lines (rest_of f) in
    record {
      left =
          (let back = sym s.rest in λ q. two q ++ point_lines (back q))
          ∙ (ap (λ l. (l ++ K) ++ R) one
          ∙ (append_assoc (O ++ L) K R
          ∙ (append_assoc O L (K ++ R) ∙ (ap (λ l. O ++ l) (sym (line-parts f) ∙ ap point_lines (sym s.is)) ∙ c.loop-child.invariant.left))));
      fewer = omega (arith, s.size, c.loop-child.invariant.fewer);
      below = subst (Below 8192) s.rest (first_below 8192 f n head (subst (Below 8192) s.is c.loop-child.invariant.below)).1;
      listed = subst (Listed c.args.table.now) s.rest (first c.args.table.now f n head (subst (Listed c.args.table.now) s.is c.loop-child.invariant.listed)).rest;
    }

pub returns : goal.returns
returns g t c =
    let O = vec_items c.loop-child.out in
    sym (append-nil O) ∙ (ap (λ f. O ++ point_lines f) (sym (all_taken c.loop-child.child-iterator c.in-None.ensures.steps.0)) ∙ c.loop-child.invariant.left)
