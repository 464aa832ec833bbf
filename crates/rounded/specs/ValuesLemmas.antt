-- The operations on floats by the fractions that their operands equal. Assumes nothing.
use Rattle.std.specs.Prelude.{◌≡◌, ℕ, suc, ◌-◌, ◌*◌, ◌^◌, ◌<◌, Bool, true, false, cond, ℤ, pos, negsuc, nat_lt, unsigned_abs, refl, Float}
use Rattle.std.proofs.Common.{sym, ap, ◌∙◌, subst, true≢false, mul_comm, one-mul, mul-one, mul-pos, mul-lt-mul_of_pos_right, lt_of_mul-lt-mul_right, arith, lit<, pow_pos}
use Rattle.std.proofs.lemmas.Bool.{ne_eqb, ltb_from_iff, ltb-true, lt-ltb}
use Rattle.std.proofs.Math.Nat.{mul-sub}
use Rattle.std.specs.Float.{nan, inf, fin, binary32}
use Rattle.std.specs.Float.Ieee.{unlike, up, down, round, sum, sub, mul, div, of_int}
use Rattle.std.specs.Float.Ieee.Fits.{up_pos, down_pos, round_is}
use Rattle.std.specs.Float.Ieee.Exact.{HasValue, units_val, round_exact}
use Rattle.std.specs.Float.Ieee.Order.{drop, kept}
use Rattle.std.specs.Float.Ieee.Back.{round_whole}
use Rattle.std.specs.Float.Ieee.Scale.{grid, round_same}
use Rattle.std.specs.Float.Ieee.Positive.{first_pos}

-- 1 and 2 as floats
abbrev pub one : Float
one = fin false 1 (pos 0)

abbrev pub two : Float
two = fin false 1 (pos 1)

-- ---- what `round` gives
pub rounded-value : (s : Bool) (a c : ℕ) → grid binary32 a c < 2 ^ 277 → HasValue (round binary32 s a c) s (grid binary32 a c) (2 ^ 149)
rounded-value s a c h =
    subst (λ (z : Float). HasValue z s (grid binary32 a c) (2 ^ 149)) (sym (round_is binary32 s a c))
    (units_val binary32 s (kept 24 (a * 2 ^ 149) c) (drop 24 (a * 2 ^ 149) c) h)

-- ---- the quotient
some : (n u d b dg : ℕ) → 0 < b → 0 < dg → n * u * d ≡ b * dg → 0 < n
some n u d b dg B G e = first_pos n u (first_pos (n * u) d (subst (λ (z : ℕ). 0 < z) (sym e) (mul-pos B G)))

quotient-cross : (X Y de dg a b c d : ℕ) → X * c ≡ a * de → Y * d ≡ b * dg → X * dg * (c * b) ≡ a * d * (Y * de)
quotient-cross X Y de dg a b c d p q =
    let h : X * c * (dg * b) ≡ a * de * (Y * d) = ap (λ (z : ℕ). z * (dg * b)) p ∙ ap (λ (z : ℕ). a * de * z) (mul_comm dg b ∙ sym q) in
    grind arith

pub div_value : (x y : Float) (s t : Bool) (a c b d : ℕ) → 0 < c → 0 < d → 0 < b → HasValue x s a c → HasValue y t b d → div binary32 x y ≡ round binary32 (unlike s t) (a * d) (c * b)
unfolding div
div_value nan y s t a c b d C D B h k = absurd h
div_value (inf r) y s t a c b d C D B h k = absurd h
div_value (fin r m e) nan s t a c b d C D B h k = absurd k
div_value (fin r m e) (inf q) s t a c b d C D B h k = absurd k
div_value (fin r m e) (fin q n g) s t a c b d C D B h k =
    let N : 0 < n = some n (up g) d b (down g) B (down_pos g) k.1 in
    rw (ne_eqb n 0 (λ e. absurd (omega arith)), h.0, k.0)
    (round_same binary32 (unlike s t) (m * up e * down g) (n * up g * down e) (a * d) (c * b) (mul-pos (mul-pos N (up_pos g)) (down_pos e)) (mul-pos C B)
    (quotient-cross (m * up e) (n * up g) (down e) (down g) a b c d h.1 k.1))

-- ---- the product
product-cross : (X Y de dg a b c d : ℕ) → X * c ≡ a * de → Y * d ≡ b * dg → X * Y * (c * d) ≡ a * b * (de * dg)
product-cross X Y de dg a b c d p q =
    let h : X * c * (Y * d) ≡ a * de * (b * dg) = ap (λ (z : ℕ). z * (Y * d)) p ∙ ap (λ (z : ℕ). a * de * z) q in
    grind arith

pub mul-value : (x y : Float) (s t : Bool) (a c b d : ℕ) → 0 < c → 0 < d → HasValue x s a c → HasValue y t b d → mul binary32 x y ≡ round binary32 (unlike s t) (a * b) (c * d)
unfolding mul
mul-value nan y s t a c b d C D h k = absurd h
mul-value (inf r) y s t a c b d C D h k = absurd h
mul-value (fin r m e) nan s t a c b d C D h k = absurd k
mul-value (fin r m e) (inf q) s t a c b d C D h k = absurd k
mul-value (fin r m e) (fin q n g) s t a c b d C D h k =
    rw (h.0, k.0) (round_same binary32 (unlike s t) (m * up e * (n * up g)) (down e * down g) (a * b) (c * d) (mul-pos (down_pos e) (down_pos g)) (mul-pos C D)
    (product-cross (m * up e) (n * up g) (down e) (down g) a b c d h.1 k.1))

-- ---- 1 - y
abbrev pub apart : ℕ → ℕ → ℕ
apart d b = cond (nat_lt d b) (b - d) (d - b)

less-same : (A B C b d : ℕ) → 0 < C → 0 < d → A ≡ C → B * d ≡ b * C → nat_lt A B ≡ nat_lt d b
less-same A B C b d P D e f = ltb_from_iff ((λ t. forth (ltb-true A B t)), (λ h. lt-ltb A B (back h)))
  where
    forth : A < B → d < b
    forth h = let x : A * d < B * d = mul-lt-mul_of_pos_right h D in lt_of_mul-lt-mul_right C (grind arith)

    back : d < b → A < B
    back h = let x : d * C < b * C = mul-lt-mul_of_pos_right h P in lt_of_mul-lt-mul_right d (grind arith)

minus-cross : (X Y d C x y : ℕ) → X * d ≡ x * C → Y * d ≡ y * C → (X - Y) * d ≡ (x - y) * C
minus-cross X Y d C x y p q =
    let e : d * X - d * Y ≡ C * x - C * y = grind arith in
    mul_comm (X - Y) d ∙ mul-sub d X Y ∙ e ∙ sym (mul-sub C x y) ∙ mul_comm C (x - y)

sum-value : (A B C b d : ℕ) → 0 < C → 0 < d → A ≡ C → B * d ≡ b * C → sum binary32 false A true B C ≡ round binary32 (nat_lt d b) (apart d b) d
unfolding sum
sum-value A B C b d P D e f =
    ap (λ (z : Bool). cond z (round binary32 true (B - A) C) (round binary32 false (A - B) C)) (less-same A B C b d P D e f) ∙ go (nat_lt d b)
  where
    y : A * d ≡ d * C
    y = ap (λ (z : ℕ). z * d) e ∙ mul_comm C d

    go : (o : Bool) → cond o (round binary32 true (B - A) C) (round binary32 false (A - B) C) ≡ round binary32 o (cond o (b - d) (d - b)) d
    go true = round_same binary32 true (B - A) C (b - d) d P D (minus-cross B A d C b d f y)
    go false = round_same binary32 false (A - B) C (d - b) d P D (minus-cross A B d C d b y f)

opened : (n : ℕ) (g : ℤ) → sub binary32 one (fin false n g) ≡ sum binary32 false (1 * down g) true (n * up g * 1) (1 * down g)
unfolding sub
opened n g = refl

pub sub-value : (y : Float) (b d : ℕ) → 0 < d → HasValue y false b d → sub binary32 one y ≡ round binary32 (nat_lt d b) (apart d b) d
sub-value nan b d D k = absurd k
sub-value (inf q) b d D k = absurd k
sub-value (fin true n g) b d D k = absurd (true≢false k.0)
sub-value (fin false n g) b d D k =
    opened n g
    ∙ sum-value (1 * down g) (n * up g * 1) (1 * down g) b d (mul-pos (pow_pos 0) (down_pos g)) D refl
    (ap (λ (z : ℕ). z * d) (mul-one (n * up g)) ∙ k.1 ∙ ap (λ (z : ℕ). b * z) (sym (one-mul (down g))))

-- ---- integers
abbrev pub below-zero : ℤ → Bool
below-zero (pos n) = false
below-zero (negsuc n) = true

pub int-value : (z : ℤ) → unsigned_abs z < 2 ^ 24 → HasValue (of_int binary32 z) (below-zero z) (unsigned_abs z) 1
unfolding of_int
int-value (pos n) h = round_whole binary32 false n (omega arith)
int-value (negsuc n) h = round_whole binary32 true (suc n) (omega arith)

two-value : HasValue two false 2 1
two-value = (refl, refl)

unlike-false : (s : Bool) → unlike s false ≡ s
unlike-false true = refl
unlike-false false = refl

pub half-value : (z : ℤ) → unsigned_abs z < 2 ^ 24 → HasValue (div binary32 (of_int binary32 z) two) (below-zero z) (unsigned_abs z) 2
half-value z h =
    let n = unsigned_abs z in
    let s = below-zero z in
    rw (div_value (of_int binary32 z) two s false n 1 2 1 (lit< tt) (lit< tt) (lit< tt) (int-value z h) two-value, unlike-false s, mul-one n)
    (round_exact binary32 s n 2 n 148 (lit< tt) h (omega arith) (omega arith))
