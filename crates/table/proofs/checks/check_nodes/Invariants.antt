use Rattle.std.proofs.Common.{◌≡◌, ◌-◌}
use Rattle.table.specs.Checks.{answer, first_no, of_nodes}
use Rattle.table.proofs.checks.check_nodes.Given as goal

abbrev pub invariant-loop-i : goal.invariant-loop-i
invariant-loop-i g l =
    let ok = answer (g.R.Records.table l.t) in
    first_no ok (of_nodes 0 l.n) ≡ first_no ok (of_nodes l.i (l.n - l.i))
