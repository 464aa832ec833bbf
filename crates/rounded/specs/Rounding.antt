-- How far `round binary32` is from the fraction that it is handed: at most 2 ^ -24 of it, and half of the smallest value. Assumes nothing.
use Rattle.std.specs.Prelude.{◌≡◌, ℕ, ◌+◌, ◌-◌, ◌*◌, ◌/◌, ◌%◌, ◌^◌, ◌<◌, ◌≤◌, not, T, ◌==◌}
use Rattle.std.proofs.Common.{ap, ◌∙◌, subst, inl, inr, mul-one, mul-le-mul_right, mul-pos, mod-lt, div-add-mod', le-div_iff_mul-le, eq-zero-or-pos, arith, leb→le, eqb→eq, pow-add, pow_pos}
use Prim.Native.Nat.{compare, Ordering}
use Rattle.std.proofs.Math.Dec.{is_le, compare_is_eq, nleb→lt, eqb_refl}
use Rattle.std.proofs.Math.Arith.{lt_of_le-ne}
use Rattle.std.specs.Float.Ieee.{nearest, size}
use Rattle.std.specs.Float.{binary32}
use Rattle.std.specs.Float.Ieee.Digits.{size_reaches}
use Rattle.std.specs.Float.Ieee.Nearest.{closest}
use Rattle.std.specs.Float.Ieee.Order.{drop}
use Rattle.std.specs.Float.Ieee.Scale.{grid}

abbrev Cmp : Ordering → ℕ → ℕ → Type 0
Cmp Ordering.lt a b = a < b
Cmp Ordering.eq a b = a ≡ b
Cmp Ordering.gt a b = b < a

cmp : (a b : ℕ) → Cmp (compare a b) a b
cmp a b = go (compare a b) (leb→le a b) (nleb→lt a b) (eqb→eq a b) (λ (e : a ≡ b). subst (λ (x : ℕ). T (a == x)) e (eqb_refl a))
  where
    go : (o : Ordering) → (T (is_le o) → a ≤ b) → (T (not (is_le o)) → b < a) → (T (compare_is_eq o) → a ≡ b) → (a ≡ b → T (compare_is_eq o)) → Cmp o a b
    go Ordering.lt h k e n = lt_of_le-ne (h tt) n
    go Ordering.eq h k e n = e tt
    go Ordering.gt h k e n = k tt

-- x is at most half of b off a / b, times b
abbrev pub Half : ℕ → ℕ → ℕ → Type 0
Half x a b = (x * b * 2 ≤ a * 2 + b) × (a * 2 ≤ x * b * 2 + b)

near-go : (q r b a : ℕ) (o : Ordering) → Cmp o (r * 2) b → q * b + r ≡ a → r < b → Half (nearest q o) a b
near-go q r b a Ordering.lt h e l = (omega arith, omega arith)
near-go q r b a Ordering.eq h e l =
    let m : q % 2 * b ≤ 1 * b = mul-le-mul_right b (omega arith) in
    (grind arith, grind arith)
near-go q r b a Ordering.gt h e l = (grind arith, grind arith)

pub closest-half : (a b : ℕ) → 0 < b → Half (closest a b) a b
closest-half a b B = near-go (a / b) (a % b) b a (compare (a % b * 2) b) (cmp (a % b * 2) b) (div-add-mod' a b) (mod-lt a B)

-- ---- the unit that is kept, 2 ^ k, is small beside the number, unless it is the smallest
unit-go : (n c z : ℕ) → 0 < c → 0 < z - 24 → (23 + (z - 24) < z → 2 ^ (23 + (z - 24)) ≤ n / c) → c * 2 ^ (z - 24) * 2 ^ 23 ≤ n
unit-go n c z C K r =
    let a = subst (λ (x : ℕ). x * c ≤ n) (pow-add 2 23 (z - 24)) ((le-div_iff_mul-le C).0 (r (omega arith))) in
    grind arith

unit-small : (n c : ℕ) → 0 < c → c * 2 ^ drop 24 n c * 2 ^ 23 ≤ n + c * 2 ^ 23
unit-small n c C =
    let z = size (n / c) in
    elim (eq-zero-or-pos (z - 24)) [
      | inl e ↦
          let f : c * 2 ^ (z - 24) ≡ c = ap (λ (x : ℕ). c * 2 ^ x) e ∙ mul-one c in
          omega arith
      | inr k ↦
          let u = unit-go n c z C k (size_reaches (n / c) (23 + (z - 24))) in
          omega arith
    ]

-- ---- a / c in units of 2 ^ -149, rounded to g: |g - a / c| is at most 2 ^ -24 of a / c, and half a unit
abbrev pub Near : ℕ → ℕ → ℕ → Type 0
Near g n c = (g * c * 2 ^ 24 ≤ n * 2 ^ 24 + n + c * 2 ^ 23) × (n * 2 ^ 24 ≤ g * c * 2 ^ 24 + n + c * 2 ^ 23)

near_of : (x n c k : ℕ) → Half x n (c * 2 ^ k) → c * 2 ^ k * 2 ^ 23 ≤ n + c * 2 ^ 23 → Near (x * 2 ^ k) n c
near_of x n c k h u = (grind arith, grind arith)

pub grid-near : (a c : ℕ) → 0 < c → Near (grid binary32 a c) (a * 2 ^ 149) c
grid-near a c C =
    let n = a * 2 ^ 149 in
    let k = drop 24 n c in
    near_of (closest n (c * 2 ^ k)) n c k (closest-half n (c * 2 ^ k) (mul-pos C (pow_pos k))) (unit-small n c C)
