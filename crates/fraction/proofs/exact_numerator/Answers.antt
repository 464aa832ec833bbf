use Rattle.std.proofs.Common.{pos, ◌-ℤ◌, w64, SFits, arith, lit<}
use Rattle.std.proofs.lemmas.Grind.{common_steps}
use Rattle.std.proofs.lemmas.Int.{ints, fits_signed_mul}
use Rattle.score.specs.declared.points.Points.{Points}
use Rattle.score.specs.Exact.{exact}
use Rattle.score.proofs.Ranges.{InRange, range-out}
use Rattle.fraction.proofs.exact_numerator.Goals as goal

exact-fits : (p : Points) → InRange p → SFits w64 (exact p)
exact-fits p i = fits_signed_mul w64 p.h (pos p.t -ℤ pos p.l) 2097152 8388608 (omega arith) (omega (arith, ints)) (lit< tt)

pub overflow_mul-result : goal.overflow_mul-result
overflow_mul-result c = let f = exact-fits c.args.p (range-out c.args.p c.requires) in grind (arith, common_steps)

pub returns : goal.returns
returns c = let f = exact-fits c.args.p (range-out c.args.p c.requires) in grind (arith, common_steps)
