-- What the rounded kind settles: a finite value, and how far it is from the exact score. N is 2 ^ 149, so that values are counted in units of 1 / N. Assumes nothing.
use Rattle.std.specs.Prelude.{◌≡◌, ℕ, ◌+◌, ◌*◌, ◌^◌, ◌<◌, ◌≤◌, Bool, false, T, ltb, pos, nat_lt, unsigned_abs, refl, Float}
use Rattle.std.proofs.Common.{mul-one, one-mul, mul-le-mul, mul-le-mul_left, arith, lit<, lit≤}
use Rattle.std.proofs.lemmas.Bool.Decides.{nat_tests}
use Rattle.std.specs.Float.Ieee.{unlike, of_int, of_bits, sub, mul, div}
use Rattle.std.specs.Float.Ieee.Exact.{HasValue}
use Rattle.std.specs.Float.Ieee.Scale.{grid}
use Rattle.std.specs.Float.{float_is_finite, nan, inf, fin, binary32}
use Rattle.score.specs.declared.points.Points.{Points}
use Rattle.rounded.specs.Roundeds as literal
use Rattle.rounded.specs.Roundeds.{rounded}
use Rattle.score.proofs.Ranges.{InRange}
use Rattle.rounded.specs.Rounding.{Near, grid-near}
use Rattle.rounded.specs.Errors.{Rest, OffBy, cancel, off}
use Rattle.rounded.specs.ValuesLemmas.{rounded-value, div_value, mul-value, sub-value, apart, below-zero, int-value, half-value, one, two}

abbrev pub N : ℕ
N = 2 ^ 149

-- ---- sizes
first_small : (g t l : ℕ) → 1 ≤ t → t ≤ 131072 → l < 2 ^ 23 → Near g (l * N) t → g < 2 ^ 174
first_small g t l T t' l' h =
    let a = h.0 in
    let b = mul-le-mul_left g T in
    grind arith

apart-le : (d b : ℕ) → apart d b ≤ d + b
apart-le d b = grind arith

second-small : (g M : ℕ) → M < 2 ^ 175 → Near g M 1 → g < 2 ^ 177
second-small g M m h = let a = h.0 in grind arith

third-small : (g H k : ℕ) → H < 2 ^ 21 → k < 2 ^ 177 → Near g (H * k) 2 → g < 2 ^ 277
third-small g H k a b h =
    let x = h.0 in
    let a' : H ≤ 2 ^ 21 = omega arith in
    let b' : k ≤ 2 ^ 177 = omega arith in
    let c = mul-le-mul a' b' in
    omega arith

rest_is : (d b : ℕ) → Rest (nat_lt d b) (apart d b) b d
rest_is d b = grind (arith, nat_tests)

-- ---- the literals
one-is : literal.one ≡ one
unfolding of_bits
one-is = refl

two_is : literal.two ≡ two
unfolding of_bits
two_is = refl

rounded-is : (p : Points)
    → (rounded p).value ≡ mul binary32 (div binary32 (of_int binary32 p.h) two) (sub binary32 one (div binary32 (of_int binary32 (pos p.l)) (of_int binary32 (pos p.t))))
rounded-is p = rw (two_is, one-is)

-- ---- the three steps
pub record Settled (p : Points) : Type 0 where
  pub over : Bool
  pub size : ℕ
  pub value : HasValue (rounded p).value (unlike (below-zero p.h) over) size N
  pub off : OffBy over (size * p.t) (N * (p.t * unsigned_abs p.h)) (p.l * N * unsigned_abs p.h)

pub settled : (p : Points) → InRange p → Settled p
settled p i =
    let h = p.h in
    let t = p.t in
    let l = p.l in
    let H = unsigned_abs h in
    let s = below-zero h in
    let T' : 0 < t = omega arith in
    let tf : t < 2 ^ 24 = omega arith in
    let lf : l < 2 ^ 24 = omega arith in
    let hf : H < 2 ^ 24 = omega arith in
    let q = div binary32 (of_int binary32 (pos l)) (of_int binary32 (pos t)) in
    let g1 = grid binary32 l t in
    let n1 : Near g1 (l * N) t = grid-near l t T' in
    let s1 : g1 < 2 ^ 174 = first_small g1 t l i.some i.text i.links n1 in
    let q-is = div_value (of_int binary32 (pos l)) (of_int binary32 (pos t)) false false l 1 t 1 (lit< tt) (lit< tt) T' (int-value (pos l) lf) (int-value (pos t) tf) in
    let q-value : HasValue q false g1 N = rw (q-is, mul-one l, one-mul t) (rounded-value false l t (omega arith)) in
    let o = ltb N g1 in
    let M = apart N g1 in
    let m : M < 2 ^ 175 = omega (arith, apart-le N g1) in
    let d = sub binary32 one q in
    let g2 = grid binary32 M N in
    let n2 : Near g2 M 1 = cancel g2 M 1 N (lit< tt) (grid-near M N (lit< tt)) in
    let s2 : g2 < 2 ^ 177 = second-small g2 M m n2 in
    let d-value : HasValue d o g2 N = rw (sub-value q g1 N (lit< tt) q-value) (rounded-value o M N (omega arith)) in
    let g3 = grid binary32 (H * g2) (2 * N) in
    let n3 : Near g3 (H * g2) 2 = cancel g3 (H * g2) 2 N (lit< tt) (grid-near (H * g2) (2 * N) (lit< tt)) in
    let r-is = mul-value (div binary32 (of_int binary32 h) two) d s o H 2 g2 N (lit< tt) (lit< tt) (half-value h hf) d-value in
    record {
      over = o;
      size = g3;
      value = rw (rounded-is p, r-is) (rounded-value (unlike s o) (H * g2) (2 * N) (third-small g3 H g2 i.size s2 n3));
      off = off o H t l N g1 g2 g3 M (lit≤ tt) (record { first = n1; second = n2; third = n3 }) (rest_is N g1);
    }

finite-of : (x : Float) (s : Bool) (a c : ℕ) → HasValue x s a c → T (float_is_finite x)
unfolding float_is_finite
finite-of nan s a c h = absurd h
finite-of (inf t) s a c h = absurd h
finite-of (fin t m e) s a c h = tt

pub settled-finite : (p : Points) → InRange p → T (float_is_finite (rounded p).value)
settled-finite p i = let x = settled p i in finite-of (rounded p).value (unlike (below-zero p.h) x.over) x.size N x.value
