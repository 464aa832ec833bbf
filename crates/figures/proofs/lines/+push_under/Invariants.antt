-- What is written and what is left are all.
use Rattle.std.proofs.Common.{◌≡◌, ◌≤◌, ◌++◌, vec_items}
use Rattle.page.specs.Forest.{kids_of, size}
use Rattle.page.specs.Kept.{Below}
use Rattle.figures.specs.Points.{point_lines}
use Rattle.figures.specs.Listed.{Listed}
use Rattle.figures.proofs.lines.+push_under.Given as goal

abbrev pub decreases-push_under : goal.decreases-push_under
decreases-push_under g l = size (kids_of l.node.now)

abbrev pub invariant-loop-child : goal.invariant-loop-child
invariant-loop-child g l = record {
  left : vec_items l.out ++ point_lines l.child-iterator ≡ vec_items l.initial.out ++ point_lines (kids_of l.node);
  fewer : size l.child-iterator ≤ size (kids_of l.node);
  below : Below 8192 l.child-iterator;
  listed : Listed l.table l.child-iterator;
}
