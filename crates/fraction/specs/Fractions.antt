-- The fraction kind.
use Rattle.std.specs.Prelude.{ℕ, ◌*◌, max, Bool, pos, ◌*ℤ◌, int_lt}
use Rattle.score.specs.declared.points.Points.{Points}
use Rattle.score.specs.Exact.{exact}
use Rattle.fraction.specs.declared.Fraction.{Fraction}

-- the exact score, h (t - l) / 2t
abbrev pub fraction : Points → Fraction
fraction p = record { numerator = exact p; denominator = 2 * p.t }

-- the denominator, where 0 is taken for 1
abbrev pub divisor : Fraction → ℕ
divisor a = max a.denominator 1

-- a is above b
abbrev pub greater : Fraction → Fraction → Bool
greater a b = int_lt (b.numerator *ℤ pos (divisor a)) (a.numerator *ℤ pos (divisor b))
