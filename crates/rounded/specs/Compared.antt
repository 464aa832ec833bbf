-- The order of the rounded scores, by the fractions (plus - less) / den that their finite values equal. Assumes nothing.
use Rattle.std.specs.Prelude.{◌≡◌, ℕ, ◌+◌, ◌*◌, ◌<◌, ◌≤◌, Bool, true, false, cond, not, T, Float}
use Rattle.std.proofs.Common.{ap, mul-pos, mul-lt-mul_of_pos_right, lt_of_mul-lt-mul_right, arith}
use Rattle.std.proofs.lemmas.Bool.Decides.{nat_tests}
use Rattle.std.specs.Float.Ieee.{up, lt, of_bits}
use Rattle.std.specs.Float.Ieee.Exact.{HasValue}
use Rattle.std.specs.Float.Ieee.Positive.{den, den_pos}
use Rattle.std.specs.Float.{float_is_finite, nan, inf, fin}
use Rattle.score.specs.Laws.{Order}
use Rattle.score.proofs.Fractions.{Compares, exceeds-by, order-by}
use Rattle.rounded.specs.declared.Rounded.{Rounded}
use Rattle.rounded.specs.Roundeds.{finite_or_zero, greater, zero as nought}

abbrev pub plus-of : Bool → ℕ → ℕ
plus-of false g = g
plus-of true g = 0

abbrev pub less-of : Bool → ℕ → ℕ
less-of false g = 0
less-of true g = g

abbrev plus : Float → ℕ
plus nan = 0
plus (inf s) = 0
plus (fin s m e) = plus-of s (m * up e)

abbrev less : Float → ℕ
less nan = 0
less (inf s) = 0
less (fin s m e) = less-of s (m * up e)

-- ---- what the test of two finite floats says
above : (y x : Float) → T (float_is_finite y) → T (float_is_finite x) → T (lt y x) → plus y * den x + less x * den y < plus x * den y + less y * den x
unfolding lt float_is_finite
above nan x p q h = absurd p
above (inf s) x p q h = absurd p
above (fin s n d) nan p q h = absurd q
above (fin s n d) (inf t) p q h = absurd q
above (fin s n d) (fin t m e) p q h = grind (arith, nat_tests)

at_most : (y x : Float) → T (float_is_finite y) → T (float_is_finite x) → T (not (lt y x)) → plus x * den y + less y * den x ≤ plus y * den x + less x * den y
unfolding lt float_is_finite
at_most nan x p q h = absurd p
at_most (inf s) x p q h = absurd p
at_most (fin s n d) nan p q h = absurd q
at_most (fin s n d) (inf t) p q h = absurd q
at_most (fin s n d) (fin t m e) p q h = grind (arith, nat_tests)

-- ---- the scores, where one that is not finite is taken for 0
is_finite : (a : Rounded) → T (float_is_finite (finite_or_zero a))
unfolding float_is_finite of_bits
is_finite a = go a.value
  where
    go : (x : Float) → T (float_is_finite (cond (float_is_finite x) x nought))
    go nan = tt
    go (inf s) = tt
    go (fin s m e) = tt

compares : Compares greater (λ a. plus (finite_or_zero a)) (λ a. less (finite_or_zero a)) (λ a. den (finite_or_zero a))
compares = record {
  some = λ a. den_pos (finite_or_zero a);
  above = λ a b t. above (finite_or_zero b) (finite_or_zero a) (is_finite b) (is_finite a) t;
  at_most = λ a b t. at_most (finite_or_zero b) (finite_or_zero a) (is_finite b) (is_finite a) t;
}

pub order : Order greater
order = order-by greater (λ a. plus (finite_or_zero a)) (λ a. less (finite_or_zero a)) (λ a. den (finite_or_zero a)) compares

-- ---- by any fractions over one denominator
value-plus : (x : Float) (s : Bool) (g c : ℕ) → HasValue x s g c → plus x * c ≡ plus-of s g * den x
value-plus nan s g c h = absurd h
value-plus (inf t) s g c h = absurd h
value-plus (fin r m e) s g c h = grind arith

value-less : (x : Float) (s : Bool) (g c : ℕ) → HasValue x s g c → less x * c ≡ less-of s g * den x
value-less nan s g c h = absurd h
value-less (inf t) s g c h = absurd h
value-less (fin r m e) s g c h = grind arith

pub exceeds-values : (a b : Rounded) (s t : Bool) (g f c : ℕ) → 0 < c → HasValue (finite_or_zero a) s g c → HasValue (finite_or_zero b) t f c
    → plus-of t f + less-of s g < plus-of s g + less-of t f → T (greater a b)
exceeds-values a b s t g f c C k h l =
    let x = finite_or_zero a in
    let y = finite_or_zero b in
    exceeds-by greater (λ a. plus (finite_or_zero a)) (λ a. less (finite_or_zero a)) (λ a. den (finite_or_zero a)) compares a b
    (crossed (plus y) (less x) (plus x) (less y) (den x) (den y) (plus-of t f) (less-of s g) (plus-of s g) (less-of t f) c C (mul-pos (den_pos x) (den_pos y))
    (value-plus y t f c h) (value-less x s g c k) (value-plus x s g c k) (value-less y t f c h) l)
  where
    crossed : (py lx px ly dx dy a b d e c : ℕ) → 0 < c → 0 < dx * dy → py * c ≡ a * dy → lx * c ≡ b * dx → px * c ≡ d * dx → ly * c ≡ e * dy → a + b < d + e → py * dx + lx * dy < px * dy + ly * dx
    crossed py lx px ly dx dy a b d e c C D p q r s l =
        let p' = ap (λ (z : ℕ). z * dx) p in
        let q' = ap (λ (z : ℕ). z * dy) q in
        let r' = ap (λ (z : ℕ). z * dy) r in
        let s' = ap (λ (z : ℕ). z * dx) s in
        let m = mul-lt-mul_of_pos_right l D in
        let goal : (py * dx + lx * dy) * c < (px * dy + ly * dx) * c = grind arith in
        lt_of_mul-lt-mul_right c goal
