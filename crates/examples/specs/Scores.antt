-- Worked examples of scores.
use Rattle.std.specs.Prelude.{◌≡◌, ℕ, true, false, List, [], ◌∷◌, ℤ, pos, negsuc}
use Rattle.std.specs.List.{AllByRecursion}
use Rattle.score.specs.declared.points.Points.{Points}
use Rattle.score.specs.Exact.{Exactly}
use Rattle.rounded.specs.Roundeds as rounded
use Rattle.fraction.specs.Fractions as fraction

-- points, and the numerator and the denominator of their exact score
pub record Example : Type 0 where
  pub points : Points
  pub numerator : ℤ
  pub denominator : ℕ

-- the two candidates whose exact score is 6
abbrev pub linked : Points
linked = record { h = pos 30; t = 20; l = 12 }

abbrev pub plain : Points
plain = record { h = pos 12; t = 20; l = 0 }

abbrev pub table : List Example
table =
    record { points = record { h = pos 14; t = 30; l = 10 }; numerator = pos 14; denominator = 3 }
    ∷ record { points = record { h = negsuc 11; t = 20; l = 40 }; numerator = pos 6; denominator = 1 }
    ∷ record { points = linked; numerator = pos 6; denominator = 1 }
    ∷ record { points = plain; numerator = pos 6; denominator = 1 }
    ∷ []

abbrev pub ExactScores : Type 0
ExactScores = AllByRecursion (λ e. Exactly e.points e.numerator e.denominator) table

-- neither exceeds the other as a fraction, and rounded the one without links exceeds
abbrev pub RankedDifferently : Type 0
RankedDifferently =
    (fraction.greater (fraction.fraction linked) (fraction.fraction plain) ≡ false) × (fraction.greater (fraction.fraction plain) (fraction.fraction linked) ≡ false)
    × (rounded.greater (rounded.rounded linked) (rounded.rounded plain) ≡ false) × (rounded.greater (rounded.rounded plain) (rounded.rounded linked) ≡ true)
