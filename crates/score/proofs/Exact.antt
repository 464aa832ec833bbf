-- One exact score above another by more than both distances: over naturals, which is what a kind's arithmetic starts from, and its negation. Assumes nothing.
use Rattle.std.proofs.Common.{◌≡◌, ℕ, ◌+◌, ◌*◌, ◌^◌, ◌<◌, ◌≤◌, ℤ, pos, ◌+ℤ◌, ◌-ℤ◌, ◌*ℤ◌, nat_abs, ◌≤ℤ◌, ap, ◌∙◌, subst, mul-le-mul_right, zero-mul, arith}
use borrow.Author.Differences.{up, down, lt_out, product_is}
use Rattle.std.proofs.lemmas.Int.{ints, by_lt_z}
use Rattle.score.specs.declared.points.Points.{Points}
use Rattle.score.specs.Ranges.{integer}
use Rattle.score.specs.Exact.{exact, distance, lowest, highest, Above, AtMost, AtMostOwn}

-- ---- over naturals
-- k |h| (t + l), written out: a kind's arithmetic speaks of this number, and does not depend on how the distance is defined
abbrev pub margin : ℕ → Points → ℕ
margin k p = k * nat_abs p.h * (p.t + p.l)

-- p's exact score less its margin is above q's with its margin, the parts below zero on the other side
abbrev pub Over : ℕ → Points → Points → Type 0
Over k p q =
    up (exact q) * 2 ^ 22 * p.t + margin k q * p.t + down (exact p) * 2 ^ 22 * q.t + margin k p * q.t
    < up (exact p) * 2 ^ 22 * q.t + down (exact q) * 2 ^ 22 * p.t

-- (x * 2 ^ 22 + d) * t
plus-is : (x : ℤ) (d t : ℕ) → up ((x *ℤ pos (2 ^ 22) +ℤ pos d) *ℤ pos t) + down x * 2 ^ 22 * t ≡ down ((x *ℤ pos (2 ^ 22) +ℤ pos d) *ℤ pos t) + up x * 2 ^ 22 * t + d * t
plus-is x d t =
    let z = x *ℤ pos (2 ^ 22) +ℤ pos d in
    let e : up z + down x * 2 ^ 22 ≡ down z + up x * 2 ^ 22 + d = grind (arith, ints, product_is x (pos (2 ^ 22))) in
    let f = ap (λ (n : ℕ). n * t) e in
    grind (arith, product_is z (pos t))

-- (x * 2 ^ 22 - d) * t
minus_is : (x : ℤ) (d t : ℕ) → up ((x *ℤ pos (2 ^ 22) -ℤ pos d) *ℤ pos t) + down x * 2 ^ 22 * t + d * t ≡ down ((x *ℤ pos (2 ^ 22) -ℤ pos d) *ℤ pos t) + up x * 2 ^ 22 * t
minus_is x d t =
    let z = x *ℤ pos (2 ^ 22) -ℤ pos d in
    let e : up z + down x * 2 ^ 22 + d ≡ down z + up x * 2 ^ 22 = grind (arith, ints, product_is x (pos (2 ^ 22))) in
    let f = ap (λ (n : ℕ). n * t) e in
    grind (arith, product_is z (pos t))

pub over : (k : ℕ) (p q : Points) → Above k p q → Over k p q
unfolding Above
over k p q a =
    let u = lt_out (highest k q *ℤ pos p.t) (lowest k p *ℤ pos q.t) a in
    let v = plus-is (exact q) (distance k q) p.t in
    let w = minus_is (exact p) (distance k p) q.t in
    omega arith

-- with a smaller step too
margin-step : (j k : ℕ) (p : Points) (t : ℕ) → j ≤ k → margin j p * t ≤ margin k p * t
margin-step j k p t h = mul-le-mul_right t (mul-le-mul_right (p.t + p.l) (mul-le-mul_right (nat_abs p.h) h))

pub over-less : (j k : ℕ) (p q : Points) → j ≤ k → Over k p q → Over j p q
over-less j k p q h o = omega (arith, o, margin-step j k q p.t h, margin-step j k p q.t h)

-- ---- not above is at most
pub at_most : (k : ℕ) (p q : Points) → (Above k p q → ⊥) → AtMost k p q
unfolding Above AtMost
at_most k p q h = by_lt_z (highest k q *ℤ pos p.t) (lowest k p *ℤ pos q.t) (λ a. absurd (h a)) (λ b. b)

-- the integer score 0 has no distance
nothing : (k t : ℕ) → highest k (integer (pos 0)) *ℤ pos t ≡ pos 0
nothing k t = ap (λ (n : ℕ). pos n *ℤ pos t) (omega arith) ∙ ap pos (zero-mul t)

pub at_most-own : (k : ℕ) (p : Points) → AtMost k p (integer (pos 0)) → AtMostOwn k p
unfolding AtMost AtMostOwn
at_most-own k p h =
    let z = lowest k p in
    let m : (z *ℤ pos 1) ≤ℤ pos 0 = subst (λ (y : ℤ). (z *ℤ pos 1) ≤ℤ y) (nothing k p.t) h in
    grind (arith, ints, product_is z (pos 1))
