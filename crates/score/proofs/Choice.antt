-- The bound of a choice, from the laws of order and distance alone. Assumes nothing.
use Rattle.std.proofs.Common.{◌≡◌, ℕ, ◌<◌, Bool, true, false, T, List, map, length, get_or, pos, Option, sym, ap, ◌∙◌, subst, inl, inr, arith}
use lib.ListN.{length-map}
use Rattle.std.specs.Bool.{passes, then_some}
use Rattle.std.specs.List.{AllByRecursion}
use Rattle.std.proofs.lemmas.List.{get_or-map}
use Rattle.std.proofs.ByRecursion.{All-get_or, All-from_get_or, has_get_or}
use Rattle.score.specs.declared.points.Points.{Points}
use Rattle.score.specs.Ranges.{in_range, integer}
use Rattle.score.specs.Exact.{AtMost, AtMostOwn}
use Rattle.score.specs.Laws.{Order, Distance}
use Rattle.score.specs.Greatest.{FirstGreatest}
use Rattle.score.specs.Choice.{Positive, points_at, Bounded, BoundedTop}
use Rattle.score.proofs.Greatest.{clash}
use Rattle.score.proofs.Exact.{at_most, at_most-own}

-- what stands at an index of the settled scores
settled_at : {S : Type 0} (settled : Points → S) (ps : List Points) (m : ℕ) (d : S) → m < length ps → get_or (map settled ps) m d ≡ settled (points_at ps m)
settled_at settled ps m d l = get_or-map settled ps m (integer (pos 0)) d l

pub bounded : {S : Type 0} (k : ℕ) (settled : Points → S) (exceeds : S → S → Bool) → Order exceeds → Distance k settled exceeds
    → (ps : List Points) → AllByRecursion (λ p. T (in_range p)) ps → (i : ℕ) → FirstGreatest exceeds (map settled ps) i → Bounded k settled exceeds ps i
bounded k settled exceeds order distance ps within i first =
    let zero = integer (pos 0) in
    let scores = map settled ps in
    let size : length scores ≡ length ps = length-map ps settled in
    let i-in : i < length ps = (let f = first.0 in omega arith) in
    let range : (m : ℕ) → m < length ps → T (in_range (points_at ps m)) = λ m l. All-get_or (λ p. T (in_range p)) ps m zero l within in
    let none : (m : ℕ) → m < length ps → T (exceeds (settled (points_at ps m)) (settled (points_at ps i))) → ⊥ =
    λ m l t. clash _ (first.1 m (settled zero) (subst (λ n. m < n) (sym size) l))
    (subst (λ s. T (exceeds (get_or scores m (settled zero)) s)) (sym (settled_at settled ps i (settled zero) i-in))
    (subst (λ s. T (exceeds s (settled (points_at ps i)))) (sym (settled_at settled ps m (settled zero) l)) t)) in
    record {
      some = λ p has t.
          let m = has.0 in
          let t' : Positive settled exceeds (points_at ps m) = subst (λ q. Positive settled exceeds q) (sym (has.2 zero)) t in (
            elim (order.cotransitive (settled (points_at ps m)) (settled zero) (settled (points_at ps i)) t') [
              | inl a ↦ a
              | inr a ↦ absurd (none m has.1 a)
            ],
            All-from_get_or (λ q. AtMost k q (points_at ps i)) ps zero (λ m l. at_most k (points_at ps m) (points_at ps i)
                (λ a. none m l (distance (points_at ps m) (points_at ps i) (range m l) (range i i-in) a))),
          );
      none = λ no_one.
          All-from_get_or (λ p. AtMostOwn k p) ps zero (λ m l. at_most-own k (points_at ps m) (at_most k (points_at ps m) zero
          (λ a. All-get_or (λ p. Positive settled exceeds p → ⊥) ps m zero l no_one (distance (points_at ps m) zero (range m l) tt a))));
    }

-- ---- by the answer of the search
-- x stands at the index i of the first greatest, and b says whether it exceeds the integer score 0
pub top-bounded : {S : Type 0} (k : ℕ) (settled : Points → S) (exceeds : S → S → Bool) (x : S) (scores : List S) (i : ℕ) (b : Bool) (r : Option ℕ) → i < length scores
    → x ≡ get_or scores i x → b ≡ exceeds x (settled (integer (pos 0))) → r ≡ then_some b i
    → (ps : List Points) → scores ≡ map settled ps → Bounded k settled exceeds ps i → BoundedTop k settled exceeds ps r
top-bounded {S = S} k settled exceeds x scores i b r l at test is ps e bound =
    let zero = integer (pos 0) in
    let size : length scores ≡ length ps = ap length e ∙ length-map ps settled in
    let i-in : i < length ps = omega arith in
    let x-is : x ≡ settled (points_at ps i) = at ∙ ap (λ (s : List S). get_or s i x) e ∙ settled_at settled ps i x i-in in
    subst (BoundedTop k settled exceeds ps) (sym is) (go b (test ∙ ap (λ (s : S). exceeds s (settled zero)) x-is) i-in)
  where
    go : (b : Bool) → b ≡ exceeds (settled (points_at ps i)) (settled (integer (pos 0))) → i < length ps → BoundedTop k settled exceeds ps (then_some b i)
    go true test i-in = bound.some (points_at ps i) (has_get_or ps i (integer (pos 0)) i-in) (passes _ (sym test))
    go false test i-in =
        bound.none (All-from_get_or (λ p. Positive settled exceeds p → ⊥) ps (integer (pos 0))
        (λ m l t. clash (exceeds (settled (points_at ps i)) (settled (integer (pos 0)))) (sym test) (bound.some (points_at ps m) (has_get_or ps m (integer (pos 0)) l) t).0))
