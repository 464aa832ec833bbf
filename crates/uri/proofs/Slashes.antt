-- The right-most slash.
use Rattle.std.proofs.Common.{◌≡◌, ℕ, zero, suc, ◌+◌, ◌<◌, ◌≤◌, eqb, List, [], ◌∷◌, length, get_or, drop, Some, None, Option, sym, ap, ◌∙◌, subst, MatchOption, arith}
use Rattle.std.proofs.lemmas.List.{get_or-drop, length-drop}
use Rattle.std.proofs.lemmas.Bool.{eq-eqb, ne_eqb}
use Rattle.uri.specs.Dots.{farther, rightmost}

no_slash : (bs : List ℕ) → ((k : ℕ) → k < length bs → get_or bs k 0 ≡ 47 → ⊥) → rightmost bs ≡ None
no_slash [] h = cc
no_slash (b ∷ bs) h = ap (λ o. farther o (eqb b 47)) (no_slash bs (λ k l. h (suc k) (omega arith))) ∙ ap (farther None) (ne_eqb b 47 (h 0 (omega arith)))

pub slash-at : (bs : List ℕ) (n : ℕ) → n < length bs → get_or bs n 0 ≡ 47 → rightmost (drop (suc n) bs) ≡ None → rightmost bs ≡ Some n
slash-at [] n l same e = absurd (omega arith)
slash-at (b ∷ bs) zero l same e = ap (λ o. farther o (eqb b 47)) e ∙ ap (farther None) (eq-eqb b 47 same)
slash-at (b ∷ bs) (suc n) l same e = ap (λ o. farther o (eqb b 47)) (slash-at bs n (omega arith) same e)

-- the last byte that is a slash, or none of them
pub slash_found : (bs : List ℕ) (r : Option ℕ)
    → MatchOption r ((k : ℕ) → k < length bs → get_or bs k 0 ≡ 47 → ⊥) (λ i. (i < length bs) × (get_or bs i 0 ≡ 47) × ((k : ℕ) → i + 1 ≤ k → k < length bs → get_or bs k 0 ≡ 47 → ⊥))
    → r ≡ rightmost bs
slash_found bs None h = sym (no_slash bs h)
slash_found bs (Some i) h =
    sym (slash-at bs i h.0 h.1 (no_slash (drop (suc i) bs) (λ k l. subst (λ b. b ≡ 47 → ⊥) (sym (get_or-drop (suc i) bs k 0)) (h.2 (suc i + k) (omega arith) (omega (arith, length-drop (suc i) bs))))))
