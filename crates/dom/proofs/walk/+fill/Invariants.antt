-- What is left of the children completes the sum and the table.
use Rattle.std.proofs.Common.{◌≡◌, ◌≤◌}
use Rattle.page.specs.Forest.{kids_of, size}
use Rattle.dom.specs.Under.{under_of, plus}
use Rattle.dom.specs.Fill.{fill_all}
use Rattle.dom.proofs.Bounds.{Room}
use Rattle.dom.proofs.walk.+fill.Given as goal

abbrev pub decreases-fill : goal.decreases-fill
decreases-fill g l = size (kids_of l.node.now)

abbrev pub invariant-loop-child : goal.invariant-loop-child
invariant-loop-child g l = record {
  sum : plus l.sum (under_of l.child-iterator) ≡ under_of (kids_of l.node);
  table : fill_all l.child-iterator l.table ≡ fill_all (kids_of l.node) l.initial.table;
  fewer : size l.child-iterator ≤ size (kids_of l.node);
  room : Room l.child-iterator;
  whole : Room (kids_of l.node);
}
