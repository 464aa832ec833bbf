use Rattle.std.proofs.Common.{◌≡◌, ◌+◌, ◌≤◌, ◌++◌, vec_items}
use Rattle.page.specs.Forest.{kids_of, size, levels}
use Rattle.render.specs.Render.{lines}
use Rattle.render.proofs.lines.+push_under.Given as goal

abbrev pub decreases-push_under : goal.decreases-push_under
decreases-push_under g l = size (kids_of l.node.now)

abbrev pub invariant-loop-child : goal.invariant-loop-child
invariant-loop-child g l = record {
  left : vec_items l.out ++ lines l.depth l.child-iterator ≡ vec_items l.initial.out ++ lines l.depth (kids_of l.node);
  fewer : size l.child-iterator ≤ size (kids_of l.node);
  flat : l.depth + levels l.child-iterator ≤ 64;
}
