use Rattle.std.proofs.Common.{◌≡◌, suc, ◌<◌}
use Rattle.linked.specs.Links.{last_above}
use Rattle.table.specs.Links.{depth_at}
use Rattle.linked.specs.Records.{table_in}
use Rattle.linked.proofs.records.LinkedRecords.parent_by_depth.Given as goal

abbrev pub invariant-loop-p : goal.invariant-loop-p
invariant-loop-p l =
    let t = table_in l.self in
    (l.p < l.i) × (last_above t (depth_at t l.i) l.i ≡ last_above t (depth_at t l.i) (suc l.p))

abbrev pub decreases-loop-p : goal.decreases-loop-p
decreases-loop-p l = l.p
