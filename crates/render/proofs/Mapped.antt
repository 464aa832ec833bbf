-- What an iterator gave, and what a closure gives of the numbers from 0 on.
use Rattle.std.proofs.Common.{◌≡◌, ℕ, ◌<◌, List, ◌∷◌, length, get_or, drop, Some, None, Option, sym, ap, ◌∙◌, subst, arith}
use denote.Param.Members.{Mut}
use Rattle.std.specs.Fn.{Called}
use Rattle.std.specs.Iterator.{Drains}
use Rattle.std.specs.declared.iter.Map.{Map}
use Rattle.std.specs.declared.ops.Range.{Range}
use Rattle.std.specs.Iterator.Adapters.{map_source, map_callee}
use Rattle.std.proofs.iter.Yields.{nat_range_steps}
use Rattle.std.proofs.lemmas.Iterator.{YieldsList, maps, items_from_drains}
use Rattle.std.proofs.lemmas.Iterator.Splits.{YieldsList-from_shown_while}
use Rattle.std.proofs.lemmas.List.{length-drop, drop_more, map-id}

-- what was taken of an iterator that yields a list is that list
pub all-yielded : {S : Type 0} {steps : S → Option ℕ → S → Type 0} {s : S} (xs all : List ℕ) → Drains steps s xs → YieldsList steps (λ x. x) s all → xs ≡ all
all-yielded xs all d road = sym (map-id xs) ∙ items_from_drains xs (d.1.0, d.1.1, (λ _. (d.0, d.1.2))) road

-- below the length of bs the closure gives the items of bs, and stays as it is
module _ {F : Type 0} (g : Mut F (ℕ × Unit {0}) ℕ) (bs : List ℕ) (f : F) (gives : (x r : ℕ) (q : F) → x < length bs → Called g f (x, tt) r q → (q ≡ f) × (r ≡ get_or bs x 0)) where
  abbrev left : Map (Range ℕ) F → List ℕ
  left s = drop (map_source s).start bs

  abbrev Same : Map (Range ℕ) F → Type 0
  Same s = ((map_source s).end ≡ length bs) × (map_callee s ≡ f)

  over : (s t : Map (Range ℕ) F) → Same s → maps nat_range_steps g s None t → length (left s) ≡ 0
  over s t h p = omega (arith, length-drop (map_source s).start bs, h.0, p.0.1)

  turn : (s : Map (Range ℕ) F) (x : ℕ) (t : Map (Range ℕ) F) → Same s → maps nat_range_steps g s (Some x) t → Same t × (left s ≡ x ∷ left t)
  turn s x t h p =
      let y = p.0 in
      let n = p.1 in
      let l : (map_source s).start < length bs = omega (arith, h.0, n.1.0) in
      let m = gives y x (map_callee t) (omega (arith, l, n.1.1)) (subst (λ w. Called g w (y, tt) x (map_callee t)) h.1 p.2) in
      let is : get_or bs (map_source s).start 0 ≡ x = ap (λ i. get_or bs i 0) (sym n.1.1) ∙ sym m.1 in
      ((n.0 ∙ h.0, m.0), drop_more bs (map_source s).start 0 l ∙ (λ q. is q ∷ drop (sym n.1.2 q) bs))

  pub all-given : (s : Map (Range ℕ) F) (xs : List ℕ) → (map_source s).start ≡ 0 → (map_source s).end ≡ length bs → map_callee s ≡ f → Drains (maps nat_range_steps g) s xs → xs ≡ bs
  all-given s xs a b c d = all-yielded xs (left s) d (YieldsList-from_shown_while (maps nat_range_steps g) (λ x. x) left Same over turn s (b, c)) ∙ ap (λ i. drop i bs) a
