use Rattle.score.proofs.Ranges.{range-out}
use Rattle.rounded.specs.Settled.{settled-finite}
use Rattle.rounded.proofs.RoundedScoreKind.settle.Goals as goal

pub returns-clause-finite : goal.returns-clause-finite
returns-clause-finite c = let q = c.in_range_or_zero in rw c.rounded_value.ensures (settled-finite q.result (range-out q.result q.ensures.in_range))
