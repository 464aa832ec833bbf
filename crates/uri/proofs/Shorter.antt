-- Removing dot segments makes no path longer, turn by turn.
use Rattle.std.proofs.Common.{◌≡◌, ℕ, ◌+◌, ◌<◌, ◌≤◌, List, [], ◌∷◌, length, Some, None, codes, Option, sym, ap, ◌∙◌, arith}
use Rattle.std.proofs.lemmas.List.{length-append, length-take}
use Rattle.uri.specs.Bytes.{front}
use Rattle.uri.specs.Dots.{turn, turns, remove_dots, rightmost, before}
use Rattle.uri.proofs.Cases.{Each, turn-cases, dots-keep}
use Rattle.uri.proofs.Fronts.{length-parts}
use Rattle.uri.proofs.Turns.{turn-shorter, turns-step}

less : (o : Option ℕ) (bs : List ℕ) → length (before o bs) ≤ length bs
less None bs = omega arith
less (Some i) bs = omega (arith, length-take i bs)

module _ (n : ℕ) where
  abbrev Few : List ℕ × List ℕ → Type 0
  Few q = length q.0 + length q.1 ≤ n

  each-few : (b : ℕ) (bs output : List ℕ) → Few (b ∷ bs, output) → Each Few (b ∷ bs) output
  each-few b bs output h =
      record {
        dotdot = λ more e. omega (arith, ap length e);
        dot = λ more e. omega (arith, ap length e);
        inner = λ more e. omega (arith, ap length e);
        last = λ e. omega (arith, ap length e);
        up = λ more e. omega (arith, ap length e, less (rightmost output) output);
        last_up = λ e. omega (arith, ap length e, less (rightmost output) output);
        only = omega arith;
        move = λ plain. omega (arith, length-parts (codes "/") bs, length-append output (b ∷ front (codes "/") bs));
      }

pub removed-short : (path : List ℕ) → length (remove_dots path) ≤ length path
removed-short path = omega (arith, dots-keep (Few (length path)) (each-few (length path)) path (omega arith))

-- where the loop stands: what is left gives the result, and no byte is added
pub record Going (path input output : List ℕ) : Type 0 where
  pub room : length output + length input ≤ length path
  pub left : turns (length input) input output ≡ remove_dots path

pub goes_on : (path input output input' output' : List ℕ) → 0 < length input → Going path input output → input' ≡ (turn input output).0 → output' ≡ (turn input output).1 → Going path input' output' × (length input' < length input)
goes_on path [] output input' output' some h e f = absurd (omega arith)
goes_on path (b ∷ bs) output input' output' some h e f =
    let few = turn-cases (Few (length path)) (b ∷ bs) output (each-few (length path) b bs output (omega (arith, h.room))) in (
      record {
        room = omega (arith, few, ap length e, ap length f);
        left = ap (λ z. turns (length z) z output') e ∙ (ap (λ z. turns (length (turn (b ∷ bs) output).0) (turn (b ∷ bs) output).0 z) f ∙ (sym (turns-step (b ∷ bs) output some) ∙ h.left));
      },
      omega (arith, turn-shorter b bs output, ap length e),
    )

pub all_gone : (path input output : List ℕ) → length input ≡ 0 → Going path input output → output ≡ remove_dots path
all_gone path [] output none h = h.left
all_gone path (b ∷ bs) output none h = absurd (omega arith)
