-- Scores that are compared as fractions (plus - less) / den: their order, and when one exceeds. Assumes nothing.
use Rattle.std.proofs.Common.{ℕ, ◌+◌, ◌*◌, ◌<◌, ◌≤◌, Bool, true, false, not, T, inl, inr, mul-le-mul_right, lt_of_mul-lt-mul_right, mul-lt-mul_of_pos_right, le_of_lt, arith}
use Rattle.score.specs.Laws.{Order}

-- `exceeds` compares by cross multiplication
pub record Compares {S : Type 0} (exceeds : S → S → Bool) (plus less den : S → ℕ) : Type 0 where
  pub some : (a : S) → 0 < den a
  pub above : (a b : S) → T (exceeds a b) → plus b * den a + less a * den b < plus a * den b + less b * den a
  pub at_most : (a b : S) → T (not (exceeds a b)) → plus a * den b + less b * den a ≤ plus b * den a + less a * den b

either_way : {P : Type 0} (b : Bool) → (T b → P) → (T (not b) → P) → P
either_way true f g = f tt
either_way false f g = g tt

-- x / p above y / q, and that at least z / r
chain : (ux vx uy vy uz vz p q r : ℕ) → 0 < r → uy * p + vx * q < ux * q + vy * p → uz * q + vy * r ≤ uy * r + vz * q → uz * p + vx * r < ux * r + vz * p
chain ux vx uy vy uz vz p q r R h k =
    let a = mul-lt-mul_of_pos_right h R in
    let b = mul-le-mul_right p k in
    let goal : (uz * p + vx * r) * q < (ux * r + vz * p) * q = grind arith in
    lt_of_mul-lt-mul_right q goal

pub exceeds-by : {S : Type 0} (exceeds : S → S → Bool) (plus less den : S → ℕ) → Compares exceeds plus less den
    → (a b : S) → plus b * den a + less a * den b < plus a * den b + less b * den a → T (exceeds a b)
exceeds-by exceeds plus less den c a b h = either_way (exceeds a b) (λ t. t) (λ n. let k = c.at_most a b n in absurd (omega arith))

pub order-by : {S : Type 0} (exceeds : S → S → Bool) (plus less den : S → ℕ) → Compares exceeds plus less den → Order exceeds
order-by {S} exceeds plus less den c = record {
  irreflexive = λ a t. let h = c.above a a t in absurd (omega arith);
  transitive = λ x y z t u. through x y z t (le_of_lt (c.above y z u));
  cotransitive = λ x y z t. either_way (exceeds z y) inl (λ n. inr (through x y z t (c.at_most z y n)));
}
  where
    through : (x y z : S) → T (exceeds x y) → plus z * den y + less y * den z ≤ plus y * den z + less z * den y → T (exceeds x z)
    through x y z t k =
        exceeds-by exceeds plus less den c x z
        (chain (plus x) (less x) (plus y) (less y) (plus z) (less z) (den x) (den y) (den z) (c.some z) (c.above x y t) k)
