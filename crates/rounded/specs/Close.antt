-- The rounded score is off the exact one by at most |h| (t + l) / (2t * 2 ^ 22), and so one exceeds another whose exact score is below by more than both. Assumes nothing.
use Rattle.std.specs.Prelude.{◌≡◌, ℕ, suc, ◌+◌, ◌*◌, ◌^◌, ◌<◌, ◌≤◌, Bool, true, false, cond, T, ℤ, pos, negsuc, ◌-ℤ◌, ◌*ℤ◌, unsigned_abs, Float}
use Rattle.std.proofs.Common.{sym, ap, subst, mul-le-mul_right, mul-lt-mul_of_pos_right, lt_of_mul-lt-mul_right, arith, lit<}
use Rattle.std.proofs.lemmas.Int.{ints}
use borrow.Author.Differences.{up, down, product_is}
use Rattle.std.specs.Float.Ieee.{unlike}
use Rattle.std.specs.Float.Ieee.Exact.{HasValue}
use Rattle.std.specs.Float.{float_is_finite}
use Rattle.score.specs.declared.points.Points.{Points}
use Rattle.score.specs.Exact.{exact}
use Rattle.score.specs.Laws.{Distance}
use Rattle.score.proofs.Ranges.{InRange, range-out}
use Rattle.score.proofs.Exact.{margin, Over, over, over-less}
use Rattle.rounded.specs.Roundeds.{rounded, greater, zero as nought}
use Rattle.rounded.specs.Errors.{OffBy}
use Rattle.rounded.specs.ValuesLemmas.{below-zero}
use Rattle.rounded.specs.Settled.{N, settled, settled-finite}
use Rattle.rounded.specs.Compared.{plus-of, less-of, exceeds-values}

-- ---- the exact score as a difference: u - d is x - y, or y - x where h is below zero
abbrev Apart : Bool → ℕ → ℕ → ℕ → ℕ → Type 0
Apart false u d x y = u + y ≡ d + x
Apart true u d x y = u + x ≡ d + y

gap_is : (t l : ℕ) → up (pos t -ℤ pos l) + l ≡ down (pos t -ℤ pos l) + t
gap_is t l = omega (arith, ints)

exact-is : (h : ℤ) (t l : ℕ) → let e = h *ℤ (pos t -ℤ pos l) in Apart (below-zero h) (up e) (down e) (unsigned_abs h * t) (unsigned_abs h * l)
exact-is (pos n) t l = let f = ap (λ (z : ℕ). z * n) (gap_is t l) in grind (arith, product_is (pos n) (pos t -ℤ pos l))
exact-is (negsuc n) t l = let f = ap (λ (z : ℕ). z * suc n) (gap_is t l) in grind (arith, product_is (negsuc n) (pos t -ℤ pos l))

-- ---- within the margin. g is the size of the rounded value, and o is its sign against that of h
abbrev Close : Bool → ℕ → Points → Type 0
Close s g p =
    (plus-of s g * p.t * 2 ^ 23 + down (exact p) * N * 2 ^ 22 ≤ less-of s g * p.t * 2 ^ 23 + up (exact p) * N * 2 ^ 22 + margin 1 p * N)
    × (less-of s g * p.t * 2 ^ 23 + up (exact p) * N * 2 ^ 22 ≤ plus-of s g * p.t * 2 ^ 23 + down (exact p) * N * 2 ^ 22 + margin 1 p * N)

close : (p : Points) (g : ℕ) (o : Bool) → OffBy o (g * p.t) (N * (p.t * unsigned_abs p.h)) (p.l * N * unsigned_abs p.h) → Close (unlike (below-zero p.h) o) g p
close p g o f = let e = exact-is p.h p.t p.l in (grind arith, grind arith)

-- ---- two scores. J and K stand for 2 ^ 23 and 2 ^ 22, n for N, and the margins are sE and sF
apart : (px lx py ly t u u_e d_e s_e u_f d_f s_f n J K : ℕ) → 0 < n
    → u_f * K * t + s_f * t + d_e * K * u + s_e * u < u_e * K * u + d_f * K * t
    → lx * t * J + u_e * n * K ≤ px * t * J + d_e * n * K + s_e * n
    → py * u * J + d_f * n * K ≤ ly * u * J + u_f * n * K + s_f * n
    → py + lx < px + ly
apart px lx py ly t u u_e d_e s_e u_f d_f s_f n J K P b x y =
    let b' = mul-lt-mul_of_pos_right b P in
    let x' = mul-le-mul_right u x in
    let y' = mul-le-mul_right t y in
    let goal : (py + lx) * (t * u * J) < (px + ly) * (t * u * J) = grind arith in
    lt_of_mul-lt-mul_right (t * u * J) goal

chosen : (x : Float) → T (float_is_finite x) → cond (float_is_finite x) x nought ≡ x
chosen x h = grind arith

pub exceeds-over : (p q : Points) → InRange p → InRange q → Over 1 p q → T (greater (rounded p) (rounded q))
exceeds-over p q i j b =
    let x = settled p i in
    let y = settled q j in
    let xs = unlike (below-zero p.h) x.over in
    let ys = unlike (below-zero q.h) y.over in
    let fx = chosen (rounded p).value (settled-finite p i) in
    let fy = chosen (rounded q).value (settled-finite q j) in
    exceeds-values (rounded p) (rounded q) xs ys x.size y.size N (lit< tt)
    (subst (λ (z : Float). HasValue z xs x.size N) (sym fx) x.value) (subst (λ (z : Float). HasValue z ys y.size N) (sym fy) y.value)
    (apart (plus-of xs x.size) (less-of xs x.size) (plus-of ys y.size) (less-of ys y.size) p.t q.t
    (up (exact p)) (down (exact p)) (margin 1 p) (up (exact q)) (down (exact q)) (margin 1 q) N (2 ^ 23) (2 ^ 22) (lit< tt)
    b (close p x.size x.over x.off).1 (close q y.size y.over y.off).0)

-- with every step of at least 1
pub distance : (k : ℕ) → 1 ≤ k → Distance k rounded greater
distance k h p q i j a = exceeds-over p q (range-out p i) (range-out q j) (over-less 1 k p q h (over k p q a))
