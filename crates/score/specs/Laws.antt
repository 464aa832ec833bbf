-- What a score kind shows of its `exceeds`.
use Rattle.std.specs.Prelude.{ℕ, Bool, T, ◌⊎◌}
use Rattle.score.specs.declared.points.Points.{Points}
use Rattle.score.specs.Ranges.{in_range}
use Rattle.score.specs.Exact.{Above}

-- a strict weak order
pub record Order {S : Type 0} (exceeds : S → S → Bool) : Type 0 where
  pub irreflexive : (a : S) → T (exceeds a a) → ⊥
  pub transitive : (a b c : S) → T (exceeds a b) → T (exceeds b c) → T (exceeds a c)
  pub cotransitive : (a b c : S) → T (exceeds a b) → T (exceeds c b) ⊎ T (exceeds a c)

-- a score exceeds another if its exact score is above by more than both distances of step k
abbrev pub Distance : {S : Type 0} → ℕ → (Points → S) → (S → S → Bool) → Type 0
Distance k settled exceeds = (p q : Points) → T (in_range p) → T (in_range q) → Above k p q → T (exceeds (settled p) (settled q))
