use Rattle.std.proofs.Common.{◌≡◌, ◌-◌, true}
use Rattle.table.specs.Checks.{each, first_no, of_nodes}
use Rattle.linked.specs.Records.{table_in, links_ok}
use Rattle.linked.specs.Opening.{answer}
use Rattle.linked.proofs.records.LinkedRecords.check.Given as goal

abbrev pub invariant-loop-i : goal.invariant-loop-i
invariant-loop-i l =
    let xs = l.self.nodes.now in
    let t = table_in l.self in
    (first_no (answer xs t) (of_nodes 0 l.n) ≡ first_no (answer xs t) (of_nodes l.i (l.n - l.i))) × (each l.i (links_ok xs t) ≡ true)
