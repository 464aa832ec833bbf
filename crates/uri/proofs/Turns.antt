-- Turns of the standard's loop.
use Rattle.std.proofs.Common.{◌≡◌, ℕ, zero, suc, ◌<◌, ◌≤◌, List, [], ◌∷◌, length, codes, sym, refl, ap, ◌∙◌, subst, arith}
use Rattle.std.proofs.lemmas.List.{length-drop}
use Rattle.uri.specs.Dots.{turn, turns}
use Rattle.uri.specs.Turn.{Rule, dot_dot_prefix, dot_prefix, dot, last_dot, parent, last_parent, only_dots, segment, rule_of, effect, least}
use Rattle.uri.proofs.Rules.{turn_is, rule-least}
use Rattle.uri.proofs.Fronts.{length-parts}

-- what a rule leaves is what the turn leaves
pub turned : (input output left out : List ℕ) (rule : Rule) → rule ≡ rule_of input → left ≡ (effect rule input output).0 → out ≡ (effect rule input output).1 → (left ≡ (turn input output).0) × (out ≡ (turn input output).1)
turned input output left out rule found e f =
    let so : turn input output ≡ effect rule input output = turn_is input output ∙ ap (λ r. effect r input output) (sym found) in
    (e ∙ sym (ap (λ q. q.0) so), f ∙ sym (ap (λ q. q.1) so))

-- a rule takes a byte or more from the input
shorter : (rule : Rule) (b : ℕ) (bs output : List ℕ) → least rule ≤ suc (length bs) → length (effect rule (b ∷ bs) output).0 ≤ length bs
shorter dot_dot_prefix b bs output l = omega (arith, length-drop 2 bs)
shorter dot_prefix b bs output l = omega (arith, length-drop 1 bs)
shorter dot b bs output l = omega (arith, length-drop 1 bs)
shorter last_dot b bs output l = omega arith
shorter parent b bs output l = omega (arith, length-drop 2 bs)
shorter last_parent b bs output l = omega arith
shorter only_dots b bs output l = omega arith
shorter segment b bs output l = omega (arith, length-parts (codes "/") bs)

pub turn-shorter : (b : ℕ) (bs output : List ℕ) → length (turn (b ∷ bs) output).0 ≤ length bs
turn-shorter b bs output =
    subst (λ q. length q.0 ≤ length bs) (sym (turn_is (b ∷ bs) output)) (shorter (rule_of (b ∷ bs)) b bs output (rule-least (b ∷ bs)))

-- as many turns as bytes are enough, and more change nothing
pub turns-enough : (m n : ℕ) (input output : List ℕ) → length input ≤ m → length input ≤ n → turns m input output ≡ turns n input output
turns-enough zero zero input output l k = refl
turns-enough zero (suc n) [] output l k = refl
turns-enough zero (suc n) (b ∷ bs) output l k = absurd (omega arith)
turns-enough (suc m) zero [] output l k = refl
turns-enough (suc m) zero (b ∷ bs) output l k = absurd (omega arith)
turns-enough (suc m) (suc n) [] output l k = refl
turns-enough (suc m) (suc n) (b ∷ bs) output l k =
    let short = turn-shorter b bs output in
    turns-enough m n (turn (b ∷ bs) output).0 (turn (b ∷ bs) output).1 (omega arith) (omega arith)

pub turns-step : (input output : List ℕ) → 0 < length input → turns (length input) input output ≡ turns (length (turn input output).0) (turn input output).0 (turn input output).1
turns-step [] output l = absurd (omega arith)
turns-step (b ∷ bs) output l = turns-enough (length bs) (length (turn (b ∷ bs) output).0) (turn (b ∷ bs) output).0 (turn (b ∷ bs) output).1 (turn-shorter b bs output) (omega arith)
