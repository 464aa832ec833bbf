use Rattle.std.proofs.Common.{◌<◌, ap, arith}
use Rattle.page.specs.Forest.{kids_of, levels, size}
use Rattle.page.proofs.Nodes.{taken, all_taken, levels-kids}
use Rattle.page.proofs.height.+levels_under.Goals as goal

pub levels_under-requires : goal.levels_under-requires
levels_under-requires g t c κs within =
    let s = taken c.loop-child.child-iterator c.in-Some.child c.next.new.self c.in-Some.ensures.steps in
    let less : size (kids_of c.in-Some.child) < t = omega (arith, c.decreases, s.size, c.loop-child.invariant.fewer) in
    (less, within)

pub overflow_add-levels_under : goal.overflow_add-levels_under
overflow_add-levels_under g t c =
    let s = taken c.loop-child.child-iterator c.in-Some.child c.next.new.self c.in-Some.ensures.steps in
    omega (arith, c.levels_under.ensures, s.levels, c.loop-child.invariant.left, levels-kids c.args.node.now, c.children-child-items.ensures.kept.flat)

pub loop-child-preserved : goal.loop-child-preserved
loop-child-preserved g t c =
    let s = taken c.loop-child.child-iterator c.in-Some.child c.next.new.self c.in-Some.ensures.steps in
    record {
      left = omega (arith, s.levels, c.loop-child.invariant.left, c.levels_under.ensures);
      fewer = omega (arith, s.size, c.loop-child.invariant.fewer);
    }

pub returns : goal.returns
returns g t c = omega (arith, ap levels (all_taken c.loop-child.child-iterator c.in-None.ensures.steps.0), c.loop-child.invariant.left)
