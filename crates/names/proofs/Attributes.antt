-- The first attribute of a name.
use Rattle.std.proofs.Common.{◌≡◌, ℕ, zero, suc, ◌+◌, ◌<◌, ◌≤◌, true, false, cond, ◌⊎◌, List, [], ◌∷◌, length, get_or, drop, is_some, Some, None, Option, sym, refl, ap, ◌∙◌, inl, inr, arith}
use Rattle.std.specs.Option.{option_map, unwrap_or}
use Rattle.std.specs.List.{slice_get}
use Rattle.std.proofs.lemmas.List.{at_drop_more, at_drop_all}
use Rattle.std.proofs.lemmas.Option.{slice_get-get_or}
use Rattle.std.proofs.lemmas.Bool.{cond-true, cond-false, cases_Bool, both_ways}
use Rattle.page.specs.declared.kind.Part.TheVariants.{Name, Value}
use Rattle.page.specs.Forest.{Forest, none, node, attrs_of, count_of, name_in, value_in, part_of}
use Rattle.text.specs.Held.{bytes_in}
use Rattle.names.specs.Names.{same}
use Rattle.names.specs.Attrs.{first_index, value_of, First}
use Rattle.names.proofs.Sames.{same_true, same_self}

-- the parts that attributes hold
pub name-at : (f : Forest) (j : ℕ) → j < length (attrs_of f) → (is_some (part_of f (Name j)) ≡ true) × (bytes_in (part_of f (Name j)) ≡ (get_or (attrs_of f) j ([], [])).0)
name-at none j h = absurd (omega arith)
name-at (node m k c a kids rest) j h = let e = slice_get-get_or a j ([], []) h in (ap (λ o. is_some (name_in o)) e, ap (λ o. bytes_in (name_in o)) e)

pub count-is : (f : Forest) → unwrap_or (count_of f) 0 ≡ length (attrs_of f)
count-is none = refl
count-is (node m k c a kids rest) = refl

-- an index counted from the place j
abbrev pub from : ℕ → Option ℕ → Option ℕ
from j o = option_map (λ k. j + k) o

from_zero : (o : Option ℕ) → from 0 o ≡ o
from_zero None = refl
from_zero (Some k) = ap Some (omega arith)

from_suc : (j : ℕ) (o : Option ℕ) → from j (option_map suc o) ≡ from (j + 1) o
from_suc j None = refl
from_suc j (Some k) = ap Some (omega arith)

-- a search by places
pub search-begin : (a : List (List ℕ × List ℕ)) (w : List ℕ) → from 0 (first_index a w) ≡ first_index a w
search-begin a w = from_zero (first_index a w)

module _ (a : List (List ℕ × List ℕ)) (w : List ℕ) (j : ℕ) (f : from j (first_index (drop j a) w) ≡ first_index a w) where
  at-attr : j < length a → first_index (drop j a) w ≡ cond (same w (get_or a j ([], [])).0) (Some 0) (option_map suc (first_index (drop (j + 1) a) w))
  at-attr h = at_drop_more (λ l. first_index l w) a j ([], []) h

  pub search-on : j < length a → same w (get_or a j ([], [])).0 ≡ false → from (j + 1) (first_index (drop (j + 1) a) w) ≡ first_index a w
  search-on h e = sym (from_suc j (first_index (drop (j + 1) a) w)) ∙ (sym (ap (from j) (at-attr h ∙ cond-false _ _ _ e)) ∙ f)

  pub search-here : j < length a → same w (get_or a j ([], [])).0 ≡ true → Some j ≡ first_index a w
  search-here h e = let z : j ≡ j + 0 = omega arith in ap Some z ∙ (sym (ap (from j) (at-attr h ∙ cond-true _ _ _ e)) ∙ f)

  pub search-end : length a ≤ j → None ≡ first_index a w
  search-end h = sym (ap (from j) (at_drop_all (λ l. first_index l w) a j h)) ∙ f

-- the index is that of the first
pub first : (a : List (List ℕ × List ℕ)) (w : List ℕ) → First a w (first_index a w)
first [] w = λ k l e. omega arith
first (x ∷ a) w = go (cases_Bool (same w x.0)) (first_index a w) (first a w)
  where
    off : same w x.0 ≡ false → x.0 ≡ w → ⊥
    off e y = both_ways _ e (ap (same w) y ∙ same_self w)

    go : (same w x.0 ≡ true) ⊎ (same w x.0 ≡ false) → (o : Option ℕ) → First a w o → First (x ∷ a) w (cond (same w x.0) (Some 0) (option_map suc o))
    go (inl e) o i = rw e (omega arith, sym (same_true w x.0 e), λ k l. absurd (omega arith))
    go (inr e) None i = rw e none_yet
      where
        none_yet : (k : ℕ) → k < suc (length a) → (get_or (x ∷ a) k ([], [])).0 ≡ w → ⊥
        none_yet zero l y = off e y
        none_yet (suc k) l y = i k (omega arith) y
    go (inr e) (Some j) i = rw e (omega (arith, i.0), i.1, before)
      where
        before : (k : ℕ) → k < suc j → (get_or (x ∷ a) k ([], [])).0 ≡ w → ⊥
        before zero l y = off e y
        before (suc k) l y = i.2 k (omega arith) y

-- the value at the index is the value of the first
pub value-at : (a : List (List ℕ × List ℕ)) (w : List ℕ) (j : ℕ) → first_index a w ≡ Some j → value_in (slice_get a j) ≡ value_of a w
value-at [] w j e = refl
value-at (x ∷ a) w j e = go (cases_Bool (same w x.0)) (first_index a w) refl (value-at a w) j e
  where
    go : (same w x.0 ≡ true) ⊎ (same w x.0 ≡ false) → (o : Option ℕ) → first_index a w ≡ o → ((i : ℕ) → first_index a w ≡ Some i → value_in (slice_get a i) ≡ value_of a w)
        → (j : ℕ) → cond (same w x.0) (Some 0) (option_map suc (first_index a w)) ≡ Some j → value_in (slice_get (x ∷ a) j) ≡ cond (same w x.0) (Some x.1) (value_of a w)
    go (inl s) o p f zero e = sym (cond-true (same w x.0) _ _ s)
    go (inl s) o p f (suc j) e = let q = sym (cond-true (same w x.0) (Some 0) (option_map suc (first_index a w)) s) ∙ e in absurd (let z : 0 ≡ suc j = cc in omega arith)
    go (inr s) None p f j e = let q = sym (ap (option_map suc) p) ∙ (sym (cond-false (same w x.0) (Some 0) (option_map suc (first_index a w)) s) ∙ e) in absurd (let z : ◌≡◌ {A = ℕ} 0 1 = cc in omega arith)
    go (inr s) (Some k) p f zero e = let q = sym (ap (option_map suc) p) ∙ (sym (cond-false (same w x.0) (Some 0) (option_map suc (first_index a w)) s) ∙ e) in absurd (let z : suc k ≡ 0 = cc in omega arith)
    go (inr s) (Some k) p f (suc j) e =
        let q = sym (ap (option_map suc) p) ∙ (sym (cond-false (same w x.0) (Some 0) (option_map suc (first_index a w)) s) ∙ e) in
        let z : suc k ≡ suc j = cc in
        let y : k ≡ j = omega arith in
        f j (p ∙ ap Some y) ∙ sym (cond-false (same w x.0) _ _ s)

-- no index, no value
pub value_none : (a : List (List ℕ × List ℕ)) (w : List ℕ) → first_index a w ≡ None → value_of a w ≡ None
value_none [] w e = refl
value_none (x ∷ a) w e = go (cases_Bool (same w x.0)) (first_index a w) refl (value_none a w)
  where
    go : (same w x.0 ≡ true) ⊎ (same w x.0 ≡ false) → (o : Option ℕ) → first_index a w ≡ o → (first_index a w ≡ None → value_of a w ≡ None) → cond (same w x.0) (Some x.1) (value_of a w) ≡ None
    go (inl s) o p f = let q = sym (cond-true (same w x.0) (Some 0) (option_map suc (first_index a w)) s) ∙ e in absurd (let z : ◌≡◌ {A = ℕ} 0 1 = cc in omega arith)
    go (inr s) None p f = cond-false (same w x.0) _ _ s ∙ f p
    go (inr s) (Some k) p f = let q = sym (ap (option_map suc) p) ∙ (sym (cond-false (same w x.0) (Some 0) (option_map suc (first_index a w)) s) ∙ e) in absurd (let z : ◌≡◌ {A = ℕ} 0 1 = cc in omega arith)

-- an index, a value: the one that stands there
pub value-some : (a : List (List ℕ × List ℕ)) (w : List ℕ) (j : ℕ) → first_index a w ≡ Some j → is_some (value_of a w) ≡ true
value-some [] w j e = absurd (let z : ◌≡◌ {A = ℕ} 0 1 = cc in omega arith)
value-some (x ∷ a) w j e = go (cases_Bool (same w x.0)) (first_index a w) refl (value-some a w)
  where
    go : (same w x.0 ≡ true) ⊎ (same w x.0 ≡ false) → (o : Option ℕ) → first_index a w ≡ o → ((i : ℕ) → first_index a w ≡ Some i → is_some (value_of a w) ≡ true) → is_some (cond (same w x.0) (Some x.1) (value_of a w)) ≡ true
    go (inl s) o p f = ap is_some (cond-true (same w x.0) (Some x.1) (value_of a w) s)
    go (inr s) None p f = let q = sym (ap (option_map suc) p) ∙ (sym (cond-false (same w x.0) (Some 0) (option_map suc (first_index a w)) s) ∙ e) in absurd (let z : ◌≡◌ {A = ℕ} 0 1 = cc in omega arith)
    go (inr s) (Some k) p f = ap is_some (cond-false (same w x.0) (Some x.1) (value_of a w) s) ∙ f k p

pub value-part : (f : Forest) (w : List ℕ) (j : ℕ) → first_index (attrs_of f) w ≡ Some j → (part_of f (Value j) ≡ value_of (attrs_of f) w) × (is_some (part_of f (Value j)) ≡ true)
value-part none w j e = absurd (let z : ◌≡◌ {A = ℕ} 0 1 = cc in omega arith)
value-part (node m k c a kids rest) w j e = let is = value-at a w j e in (is, ap is_some is ∙ value-some a w j e)
