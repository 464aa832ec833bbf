-- What stands at a place of a list.
use Rattle.std.proofs.Common.{◌≡◌, ℕ, ◌+◌, List, ◌∷◌, ◌++◌, length, get_or, take, drop, sym, refl, ap, ◌∙◌, append_assoc, arith}
use lib.Seq.{take-append_seam}
use Rattle.std.proofs.lemmas.List.{drop-drop, drop_at, get_or-drop}

-- f has l at p
pub record At {X : Type 0} (f : List X) (p : ℕ) (l : List X) : Type 0 where
  pub rest : List X
  pub is : drop p f ≡ l ++ rest

module _ {X : Type 0} (f : List X) where
  pub at_left : (p : ℕ) (a b : List X) → At f p (a ++ b) → At f p a
  at_left p a b h = record { rest = b ++ h.rest; is = h.is ∙ append_assoc a b h.rest }

  pub at_right : (p q : ℕ) (a b : List X) → p + length a ≡ q → At f p (a ++ b) → At f q b
  at_right p q a b e h =
      record { rest = h.rest; is = ap (λ k. drop k f) (sym e) ∙ (sym (drop-drop (length a) p f) ∙ (ap (drop (length a)) (h.is ∙ append_assoc a b h.rest) ∙ drop_at a (b ++ h.rest) (length a) refl)) }

  pub at-get : (p : ℕ) (x : X) (l : List X) (d : X) → At f p (x ∷ l) → get_or f p d ≡ x
  at-get p x l d h = (let z : p ≡ p + 0 = omega arith in ap (λ k. get_or f k d) z) ∙ (sym (get_or-drop p f 0 d) ∙ ap (λ k. get_or k 0 d) h.is)

  pub at_part : (p : ℕ) (l : List X) → At f p l → take (length l) (drop p f) ≡ l
  at_part p l h = ap (take (length l)) h.is ∙ take-append_seam l h.rest
