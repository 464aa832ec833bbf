-- Where a front ends, and what follows it.
use Rattle.std.proofs.Common.{◌≡◌, ℕ, ◌+◌, ◌<◌, ◌≤◌, Bool, true, false, cond, ◌||◌, eqb, List, [], ◌∷◌, ◌++◌, length, take, drop, Some, None, codes, Option, sym, refl, ap, ◌∙◌, add-one, one-add, subst, arith, Bor, MatchOption, unwrap_or}
use Rattle.std.proofs.lemmas.List.{take_at, drop_at, take_all, length-append}
use Rattle.std.proofs.lemmas.Bool.{cond-true, cond-false, eq-eqb, eqb-true}
use Rattle.std.proofs.lemmas.Bool.Decides.{nat_tests}
use Rattle.std.proofs.lemmas.Iterator.{index_from_first}
use Rattle.std.specs.List.{AllWithin, HoldsAt, list_any, between}
use Rattle.std.specs.Option.{option_map}
use Rattle.uri.specs.Bytes.{among, front, rest, after}
use Rattle.uri.specs.Dots.{first_segment}

-- a list is its front and its rest
pub front_rest : (ds bs : List ℕ) → front ds bs ++ rest ds bs ≡ bs
front_rest ds [] = refl
front_rest ds (b ∷ bs) = go (among ds b) (front_rest ds bs)
  where
    go : (t : Bool) → front ds bs ++ rest ds bs ≡ bs → cond t [] (b ∷ front ds bs) ++ cond t (b ∷ bs) (rest ds bs) ≡ b ∷ bs
    go true e = refl
    go false e = ap (λ z. b ∷ z) e

pub take-front : (ds bs : List ℕ) → take (length (front ds bs)) bs ≡ front ds bs
take-front ds bs = ap (take (length (front ds bs))) (sym (front_rest ds bs)) ∙ take_at (front ds bs) (rest ds bs) _ refl

pub drop-front : (ds bs : List ℕ) → drop (length (front ds bs)) bs ≡ rest ds bs
drop-front ds bs = ap (drop (length (front ds bs))) (sym (front_rest ds bs)) ∙ drop_at (front ds bs) (rest ds bs) _ refl

pub length-parts : (ds bs : List ℕ) → length (front ds bs) + length (rest ds bs) ≡ length bs
length-parts ds bs = sym (length-append (front ds bs) (rest ds bs)) ∙ ap length (front_rest ds bs)

-- what follows a front
pub after_front : (p bs : List ℕ) → after p (p ++ bs) ≡ Some bs
after_front [] bs = refl
after_front (x ∷ p) bs = cond-true (eqb x x) (after p (p ++ bs)) None (eq-eqb x x refl) ∙ after_front p bs

pub after_none : (p bs : List ℕ) → ((more : List ℕ) → bs ≡ p ++ more → ⊥) → after p bs ≡ None
after_none [] bs h = absurd (h bs refl)
after_none (x ∷ p) [] h = refl
after_none (x ∷ p) (b ∷ bs) h = go (eqb b x) refl (after_none p bs)
  where
    go : (t : Bool) → eqb b x ≡ t → (((more : List ℕ) → bs ≡ p ++ more → ⊥) → after p bs ≡ None) → cond t (after p bs) None ≡ None
    go true e next = next (λ more s. h more (ap (λ z. b ∷ z) s ∙ ap (λ z. z ∷ (p ++ more)) (eqb-true b x e)))
    go false e next = refl

-- what `strip_prefix` says, as `after`
pub stripped : (bs p : List ℕ) (r : Option (Bor (List ℕ))) → MatchOption r ((more : List ℕ) → bs ≡ p ++ more → ⊥) (λ x. bs ≡ p ++ x.now) → option_map (λ x. x.now) r ≡ after p bs
stripped bs p None h = sym (after_none p bs h)
stripped bs p (Some x) h = sym (ap (after p) h ∙ after_front p x.now)

-- whether one of ds equals b, in either order
pub among-any : (ds : List ℕ) (b : ℕ) → list_any (λ d. eqb d b) ds ≡ among ds b
among-any [] b = refl
among-any (d ∷ ds) b = ap (λ t. t || list_any (λ e. eqb e b) ds) (both d b) ∙ ap (λ t. eqb b d || t) (among-any ds b)
  where
    both : (m n : ℕ) → eqb m n ≡ eqb n m
    both m n = grind (arith, nat_tests)

abbrev Is : List ℕ → ℕ → Type 0
Is ds b = among ds b ≡ true

abbrev IsNot : List ℕ → ℕ → Type 0
IsNot ds b = among ds b ≡ false

-- the front ends before the first of ds
pub front_ends : (ds bs : List ℕ) (r : Option ℕ) → MatchOption r (AllWithin (IsNot ds) bs 0 (length bs)) (λ i. (i < length bs) × HoldsAt (Is ds) bs i × AllWithin (IsNot ds) bs 0 i)
    → (take (unwrap_or r (length bs)) bs ≡ front ds bs) × (drop (unwrap_or r (length bs)) bs ≡ rest ds bs)
front_ends ds bs r h =
    let n = index_from_first (λ l. length (front ds l)) (Is ds) (IsNot ds) refl (λ b l e. ap length (cond-true (among ds b) [] (b ∷ front ds l) e)) (λ b l e. ap length (cond-false (among ds b) [] (b ∷ front ds l) e) ∙ sym (add-one (length (front ds l)))) bs r h in
    (ap (λ k. take k bs) (sym n) ∙ take-front ds bs, ap (λ k. drop k bs) (sym n) ∙ drop-front ds bs)

-- the first byte and the front behind it are the first segment
abbrev pub IsSegment : List ℕ → List ℕ → Type 0
IsSegment input inner = (1 + length inner ≤ length input) × (take (1 + length inner) input ≡ first_segment input)

pub segment-of : (input : List ℕ) → 0 < length input → IsSegment input (front (codes "/") (between 1 (length input) input))
segment-of [] l = absurd (omega arith)
segment-of (b ∷ bs) l =
    subst (λ z. IsSegment (b ∷ bs) (front (codes "/") z)) (sym (take_all _ bs (omega arith)))
    (omega (arith, length-parts (codes "/") bs), ap (λ n. take n (b ∷ bs)) (one-add (length (front (codes "/") bs))) ∙ ap (λ z. b ∷ z) (take-front (codes "/") bs))

pub first-short : (input : List ℕ) → length (first_segment input) ≤ length input
first-short [] = omega arith
first-short (b ∷ bs) = omega (arith, length-parts (codes "/") bs)
