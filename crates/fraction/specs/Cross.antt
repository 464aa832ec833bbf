-- The fraction kind compares by cross multiplication, and so keeps its order, and its distance with step 0. Assumes nothing.
use Rattle.std.specs.Prelude.{◌≡◌, ℕ, ◌+◌, ◌*◌, ◌^◌, ◌<◌, ◌≤◌, max, not, T, ℤ, pos, ◌*ℤ◌, int_lt}
use Rattle.std.proofs.Common.{arith}
use Rattle.std.proofs.lemmas.Int.{ints}
use borrow.Author.Differences.{up, down, product_is}
use Rattle.score.specs.declared.points.Points.{Points}
use Rattle.score.specs.Exact.{exact}
use Rattle.score.specs.Laws.{Order, Distance}
use Rattle.score.proofs.Ranges.{range-out}
use Rattle.score.proofs.Exact.{margin, Over, over}
use Rattle.score.proofs.Fractions.{Compares, exceeds-by, order-by}
use Rattle.fraction.specs.declared.Fraction.{Fraction}
use Rattle.fraction.specs.Fractions.{fraction, divisor, greater}

abbrev plus : Fraction → ℕ
plus a = up a.numerator

abbrev less : Fraction → ℕ
less a = down a.numerator

compares : Compares greater plus less divisor
compares = record {
  some = λ a. omega arith;
  above = λ a b t. above a.numerator b.numerator (divisor a) (divisor b) t;
  at_most = λ a b t. at_most a.numerator b.numerator (divisor a) (divisor b) t;
}
  where
    above : (x y : ℤ) (p q : ℕ) → T (int_lt (y *ℤ pos p) (x *ℤ pos q)) → up y * p + down x * q < up x * q + down y * p
    above x y p q t = grind (arith, ints, product_is y (pos p), product_is x (pos q))

    at_most : (x y : ℤ) (p q : ℕ) → T (not (int_lt (y *ℤ pos p) (x *ℤ pos q))) → up x * q + down y * p ≤ up y * p + down x * q
    at_most x y p q t = grind (arith, ints, product_is y (pos p), product_is x (pos q))

pub order : Order greater
order = order-by greater plus less divisor compares

-- ---- the distance
divisor-is : (t : ℕ) → 1 ≤ t → max (2 * t) 1 ≡ 2 * t
divisor-is t h = omega arith

-- without the factor 2 ^ 22 and the distances, which are 0, over 2t and 2u
doubled : (a b c d t u r s p q : ℕ) → p ≡ 2 * t → q ≡ 2 * u → a * 2 ^ 22 * t + r + b * 2 ^ 22 * u + s < c * 2 ^ 22 * u + d * 2 ^ 22 * t → a * p + b * q < c * q + d * p
doubled a b c d t u r s p q e f h = rw (e, f) (grind arith)

pub exceeds-over : (p q : Points) → 1 ≤ p.t → 1 ≤ q.t → Over 0 p q → T (greater (fraction p) (fraction q))
exceeds-over p q P Q h =
    exceeds-by greater plus less divisor compares (fraction p) (fraction q)
    (doubled (up (exact q)) (down (exact p)) (up (exact p)) (down (exact q)) p.t q.t (margin 0 q * p.t) (margin 0 p * q.t) _ _ (divisor-is p.t P) (divisor-is q.t Q) h)

pub distance : Distance 0 fraction greater
distance p q i j a = exceeds-over p q (range-out p i).some (range-out q j).some (over 0 p q a)
