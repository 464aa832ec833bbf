-- The error of H / 2 * (1 - L / T) with each step rounded, over naturals. N is how many of the smallest value make 1, and g1, g2, g3 are the three rounded results in
-- units of the smallest value, without their signs: the quotient, the difference and the product. Assumes nothing.
use Rattle.std.specs.Prelude.{◌≡◌, ℕ, zero, suc, ◌+◌, ◌*◌, ◌^◌, ◌<◌, ◌≤◌, Bool, true, false}
use Rattle.std.proofs.Common.{ap, mul-le-mul_right, mul-le-mul_left, le_of_mul-le-mul_right, arith}
use Rattle.rounded.specs.Rounding.{Near}

pub cancel : (g x c n : ℕ) → 0 < n → Near g (x * n) (c * n) → Near g x c
cancel g x c n N h =
    let up : g * c * 2 ^ 24 * n ≤ (x * 2 ^ 24 + x + c * 2 ^ 23) * n = grind (arith, h.0) in
    let low : x * 2 ^ 24 * n ≤ (g * c * 2 ^ 24 + x + c * 2 ^ 23) * n = grind (arith, h.1) in
    (le_of_mul-le-mul_right up N, le_of_mul-le-mul_right low N)

-- Near, times k
pub scale : (g x c k : ℕ) → Near g x c → (g * c * k * 2 ^ 24 ≤ x * k * 2 ^ 24 + x * k + c * k * 2 ^ 23) × (x * k * 2 ^ 24 ≤ g * c * k * 2 ^ 24 + x * k + c * k * 2 ^ 23)
scale g x c k h =
    let a = mul-le-mul_right k h.0 in
    let b = mul-le-mul_right k h.1 in
    (grind arith, grind arith)

-- ---- the sum of the three errors
abbrev Off : ℕ → ℕ → ℕ → ℕ → Type 0
Off g plus less all = ((g * 2 + less) * 2 ^ 24 ≤ plus * 2 ^ 24 + 4 * all) × (plus * 2 ^ 24 ≤ (g * 2 + less) * 2 ^ 24 + 4 * all)

pub record Steps (H T L N g1 g2 g3 M : ℕ) : Type 0 where
  pub first : Near g1 (L * N) T
  pub second : Near g2 M 1
  pub third : Near g3 (H * g2) 2

-- 1 - L / T is M / N, or -M / N where `over` holds
abbrev pub Rest : Bool → ℕ → ℕ → ℕ → Type 0
Rest false M g1 N = M + g1 ≡ N
Rest true M g1 N = M + N ≡ g1

abbrev pub OffBy : Bool → ℕ → ℕ → ℕ → Type 0
OffBy false g plus less = Off g plus less (plus + less)
OffBy true g plus less = Off g less plus (plus + less)

pub off-some : (over : Bool) (H T L N g1 g2 g3 M : ℕ) → 1 ≤ H → 2 ^ 60 ≤ N → Steps H T L N g1 g2 g3 M → Rest over M g1 N → OffBy over (g3 * T) (N * (T * H)) (L * N * H)
off-some false H T L N g1 g2 g3 M h big s r =
    let a = scale g1 (L * N) T H s.first in
    let b = scale g2 M 1 (T * H) s.second in
    let c = scale g3 (H * g2) 2 T s.third in
    let k = mul-le-mul_left T h in
    let n = mul-le-mul_right (T * H) big in
    let e = ap (λ (z : ℕ). z * (T * H)) r in
    (grind arith, grind arith)
off-some true H T L N g1 g2 g3 M h big s r =
    let a = scale g1 (L * N) T H s.first in
    let b = scale g2 M 1 (T * H) s.second in
    let c = scale g3 (H * g2) 2 T s.third in
    let k = mul-le-mul_left T h in
    let n = mul-le-mul_right (T * H) big in
    let e = ap (λ (z : ℕ). z * (T * H)) r in
    (grind arith, grind arith)

pub off : (over : Bool) (H T L N g1 g2 g3 M : ℕ) → 2 ^ 60 ≤ N → Steps H T L N g1 g2 g3 M → Rest over M g1 N → OffBy over (g3 * T) (N * (T * H)) (L * N * H)
off false zero T L N g1 g2 g3 M big s r = let c = s.third in (grind arith, grind arith)
off true zero T L N g1 g2 g3 M big s r = let c = s.third in (grind arith, grind arith)
off over (suc H) T L N g1 g2 g3 M big s r = off-some over (suc H) T L N g1 g2 g3 M (omega arith) big s r
