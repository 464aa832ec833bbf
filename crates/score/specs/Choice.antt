-- The bound of a choice: how far the exact score of the first greatest may lie below another.
use Rattle.std.specs.Prelude.{◌≡◌, ℕ, Bool, T, List, map, pos, Option, MatchOption, slice_index_or}
use Rattle.std.specs.List.{ContainsAt as Has, AllByRecursion}
use Rattle.score.specs.declared.points.Points.{Points}
use Rattle.score.specs.Ranges.{in_range, integer}
use Rattle.score.specs.Exact.{AtMost, AtMostOwn}

-- these points settle to a score that exceeds the integer score 0
abbrev pub Positive : {S : Type 0} → (Points → S) → (S → S → Bool) → Points → Type 0
Positive settled exceeds p = T (exceeds (settled p) (settled (integer (pos 0))))

-- the points at index i of a list
abbrev pub points_at : List Points → ℕ → Points
points_at ps i = slice_index_or ps i (integer (pos 0))

-- what holds of the index i of the first greatest score, where ps are the points that the scores were settled from
pub record Bounded {S : Type 0} (k : ℕ) (settled : Points → S) (exceeds : S → S → Bool) (ps : List Points) (i : ℕ) : Type 0 where
  -- where some score exceeds the integer score 0, the one at i does, and every exact score is at most the one at i and both distances
  pub some : (p : Points) → Has ps p → Positive settled exceeds p → Positive settled exceeds (points_at ps i) × AllByRecursion (λ q. AtMost k q (points_at ps i)) ps
  -- where none does, no exact score lies above its own distance
  pub none : AllByRecursion (λ p. Positive settled exceeds p → ⊥) ps → AllByRecursion (λ p. AtMostOwn k p) ps

-- the same by the answer: the index of the first greatest that exceeds the integer score 0, or none
abbrev pub BoundedTop : {S : Type 0} → ℕ → (Points → S) → (S → S → Bool) → List Points → Option ℕ → Type 0
BoundedTop k settled exceeds ps r =
    MatchOption r (AllByRecursion (λ p. AtMostOwn k p) ps) (λ i. Positive settled exceeds (points_at ps i) × AllByRecursion (λ q. AtMost k q (points_at ps i)) ps)

-- for whatever points within the ranges the scores were settled from
abbrev pub WhereSettled : {S : Type 0} → (Points → S) → List S → (List Points → Type 0) → Type 0
WhereSettled settled scores P = (ps : List Points) → AllByRecursion (λ p. T (in_range p)) ps → scores ≡ map settled ps → P ps
