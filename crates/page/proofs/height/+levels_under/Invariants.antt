use Rattle.std.proofs.Common.{◌≡◌, ◌≤◌, max}
use Rattle.page.specs.Forest.{kids_of, size, levels}
use Rattle.page.proofs.height.+levels_under.Given as goal

abbrev pub decreases-levels_under : goal.decreases-levels_under
decreases-levels_under g l = size (kids_of l.node.now)

abbrev pub invariant-loop-child : goal.invariant-loop-child
invariant-loop-child g l = record {
  left : max l.most (levels l.child-iterator) ≡ levels (kids_of l.node);
  fewer : size l.child-iterator ≤ size (kids_of l.node);
}
