-- A turn takes one child, with all under it.
use Rattle.std.proofs.Common.{◌≡◌, ◌<◌, set, sym, ap, ◌∙◌, subst, arith}
use Rattle.page.specs.Forest.{size, kids_of, rest_of}
use Rattle.page.proofs.Nodes.{taken, all_taken}
use Rattle.names.specs.Tags.{tag_of}
use Rattle.dom.specs.Under.{under_of, plus, element_of, node_of}
use Rattle.dom.specs.Small.{Small}
use Rattle.dom.specs.Fill.{fill_all}
use Rattle.dom.proofs.Joins.{none-plus, plus_none, turn}
use Rattle.dom.proofs.Bounds.{Room, room_node, room-kids, room-rest, small, small-node, small-element, small-left}
use Rattle.dom.proofs.Fills.{fill-parts}
use Rattle.dom.proofs.walk.+fill.Goals as goal

pub loop-child-init : goal.loop-child-init
loop-child-init g t c =
    let f = kids_of c.args.node.now in
    let e : c.into_iter-child-iterator.result ≡ f = c.into_iter-child-iterator.ensures.into_iter_gives ∙ c.children-child-items.ensures.children in
    let whole : Room f = room-kids c.args.node.now (room_node c.args.node.now c.children-child-items.ensures.kept) in
    record {
      sum = (λ i. plus (c.none-sum.ensures i) (under_of (e i))) ∙ none-plus (under_of f);
      table = ap (λ f. fill_all f c.args.table.now) e;
      fewer = omega (arith, ap size e);
      room = subst Room (sym e) whole;
      whole = whole;
    }

pub fill-inner-requires : goal.fill-inner-requires
fill-inner-requires g t c κs within =
    let s = taken c.loop-child.child-iterator c.in-Some.child c.next.new.self c.in-Some.ensures.steps in
    let less : size (kids_of c.in-Some.child) < t = omega (arith, c.decreases, s.size, c.loop-child.invariant.fewer) in
    (less, within)

pub with_node-requires : goal.with_node-requires
with_node-requires g t c =
    let f = c.in-Some.child in
    let s = taken c.loop-child.child-iterator f c.next.new.self c.in-Some.ensures.steps in
    let room = subst Room s.is c.loop-child.invariant.room in
    record {
      element = subst (λ u. Small (element_of (tag_of f) u)) (sym c.fill-inner.ensures.value) (small-element (tag_of f) (kids_of f) (room-kids f room));
      small = subst (λ u. Small (node_of f u)) (sym c.fill-inner.ensures.value) (small-node f room);
    }

pub plus-sum-requires : goal.plus-sum-requires
plus-sum-requires g t c =
    let f = c.in-Some.child in
    let s = taken c.loop-child.child-iterator f c.next.new.self c.in-Some.ensures.steps in
    let all = kids_of c.args.node.now in
    let whole : under_of all ≡ plus (plus c.loop-child.sum c.with_node.result) (under_of (rest_of f)) =
    sym (turn c.loop-child.sum c.with_node.result c.fill-inner.result f c.number.result (sym c.number.ensures) c.fill-inner.ensures.value c.with_node.ensures
    ∙ (ap (λ x. plus c.loop-child.sum (under_of x)) (sym s.is) ∙ c.loop-child.invariant.sum)) in
    small-left (plus c.loop-child.sum c.with_node.result) (under_of (rest_of f)) (subst Small whole (small all c.loop-child.invariant.whole))

pub loop-child-preserved : goal.loop-child-preserved
loop-child-preserved g t c =
    let f = c.in-Some.child in
    let n = c.number.result in
    let first = sym c.number.ensures in
    let s = taken c.loop-child.child-iterator f c.next.new.self c.in-Some.ensures.steps in
    let e = sym s.rest in
    record {
      sum =
          ap (λ x. plus c.plus-sum.result (under_of x)) e
          ∙ (ap (λ u. plus u (under_of (rest_of f))) c.plus-sum.ensures
          ∙ (turn c.loop-child.sum c.with_node.result c.fill-inner.result f n first c.fill-inner.ensures.value c.with_node.ensures
          ∙ (ap (λ x. plus c.loop-child.sum (under_of x)) (sym s.is) ∙ c.loop-child.invariant.sum)));
      table =
          ap (λ x. fill_all x c.put.new.table) e
          ∙ (ap (fill_all (rest_of f)) (c.put.ensures ∙ (λ i. set (c.fill-inner.ensures.after i) n (c.fill-inner.ensures.value i)))
          ∙ (sym (fill-parts f n c.loop-child.table first) ∙ (ap (λ x. fill_all x c.loop-child.table) (sym s.is) ∙ c.loop-child.invariant.table)));
      fewer = omega (arith, s.size, c.loop-child.invariant.fewer);
      room = subst Room s.rest (room-rest f (subst Room s.is c.loop-child.invariant.room));
      whole = c.loop-child.invariant.whole;
    }

pub returns : goal.returns
returns g t c =
    let e = all_taken c.loop-child.child-iterator c.in-None.ensures.steps.0 in
    record {
      value = sym (plus_none c.loop-child.sum) ∙ (ap (λ f. plus c.loop-child.sum (under_of f)) (sym e) ∙ c.loop-child.invariant.sum);
      after = ap (λ f. fill_all f c.loop-child.table) (sym e) ∙ c.loop-child.invariant.table;
    }
