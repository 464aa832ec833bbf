-- What is left after removing dot segments has none.
use Rattle.std.proofs.Common.{◌≡◌, ℕ, zero, suc, Bool, true, false, cond, ◌||◌, eqb, ◌⊎◌, List, [], ◌∷◌, ◌++◌, take, drop, Some, None, codes, Option, sym, refl, ap, ◌∙◌, subst, inl, inr, append_assoc, arith}
use Rattle.std.proofs.lemmas.Slice.Eq.{bytes_eq-Decides}
use Rattle.std.proofs.ByRecursion.{All-append}
use Rattle.std.proofs.lemmas.Bool.{both_ways, eqb-true}
use Rattle.std.specs.List.{AllByRecursion}
use Rattle.std.specs.Str.{bytes_eq}
use Rattle.uri.specs.Bytes.{among, front, rest, after}
use Rattle.uri.specs.Dots.{remove_dots, farther, rightmost, before, without_last}
use Rattle.uri.specs.Segments.{longer, segments, NotDots, NoDots, Without}
use Rattle.uri.proofs.Fronts.{after_front, front_rest}
use Rattle.uri.proofs.Cases.{Plain, Each, dots-keep}
use Rattle.uri.specs.Laws.{Begins}
use Rattle.uri.proofs.Splits.{rest-begins}

-- segments of parts
segments-some : (bs : List ℕ) → segments bs ≡ [] → ⊥
segments-some [] e = cc
segments-some (b ∷ bs) e = go (eqb b 47) (segments bs) e
  where
    go : (t : Bool) (ss : List (List ℕ)) → cond t ([] ∷ ss) (longer b ss) ≡ [] → ⊥
    go true ss e = cc
    go false [] e = cc
    go false (s ∷ ss) e = cc

pub segments-slash : (xs ys : List ℕ) → segments (xs ++ 47 ∷ ys) ≡ segments xs ++ segments ys
segments-slash [] ys = refl
segments-slash (x ∷ xs) ys = go (eqb x 47) (segments xs) refl (segments-slash xs ys)
  where
    go : (t : Bool) (ss : List (List ℕ)) → segments xs ≡ ss → segments (xs ++ 47 ∷ ys) ≡ segments xs ++ segments ys → cond t ([] ∷ segments (xs ++ 47 ∷ ys)) (longer x (segments (xs ++ 47 ∷ ys))) ≡ cond t ([] ∷ segments xs) (longer x (segments xs)) ++ segments ys
    go true ss f e = ap (λ z. [] ∷ z) e
    go false [] f e = absurd (segments-some xs f)
    go false (s ∷ ss) f e = ap (longer x) (e ∙ ap (λ z. z ++ segments ys) f) ∙ sym (ap (λ z. longer x z ++ segments ys) f)

segments-one : (s : List ℕ) → Without (codes "/") s → segments s ≡ s ∷ []
segments-one [] h = refl
segments-one (b ∷ bs) h = go (eqb b 47) refl h.0 (segments-one bs h.1)
  where
    go : (t : Bool) → eqb b 47 ≡ t → (t || false) ≡ false → segments bs ≡ bs ∷ [] → cond t ([] ∷ segments bs) (longer b (segments bs)) ≡ (b ∷ bs) ∷ []
    go true e k f = absurd cc
    go false e k f = ap (longer b) f

pub front-without : (ds bs : List ℕ) → Without ds (front ds bs)
front-without ds [] = tt
front-without ds (b ∷ bs) = go (among ds b) refl (front-without ds bs)
  where
    go : (t : Bool) → among ds b ≡ t → Without ds (front ds bs) → Without ds (cond t [] (b ∷ front ds bs))
    go true e h = tt
    go false e h = (e, h)

all_left : (ss ts : List (List ℕ)) → AllByRecursion NotDots (ss ++ ts) → AllByRecursion NotDots ss
all_left [] ts h = tt
all_left (s ∷ ss) ts h = (h.0, all_left ss ts h.1)

-- the right-most slash splits a list
rightmost-split : (bs : List ℕ) (i : ℕ) → rightmost bs ≡ Some i → bs ≡ take i bs ++ 47 ∷ drop (suc i) bs
rightmost-split [] i e = absurd cc
rightmost-split (b ∷ bs) i e = go (rightmost bs) refl (eqb b 47) refl i e (rightmost-split bs)
  where
    go : (o : Option ℕ) → rightmost bs ≡ o → (t : Bool) → eqb b 47 ≡ t → (i : ℕ) → farther o t ≡ Some i → ((j : ℕ) → rightmost bs ≡ Some j → bs ≡ take j bs ++ 47 ∷ drop (suc j) bs) → b ∷ bs ≡ take i (b ∷ bs) ++ 47 ∷ drop (suc i) (b ∷ bs)
    go (Some j) f t g i e next = let same : suc j ≡ i = cc in subst (λ k. b ∷ bs ≡ take k (b ∷ bs) ++ 47 ∷ drop (suc k) (b ∷ bs)) same (ap (λ z. b ∷ z) (next j f))
    go None f true g i e next = let same : zero ≡ i = cc in subst (λ k. b ∷ bs ≡ take k (b ∷ bs) ++ 47 ∷ drop (suc k) (b ∷ bs)) same (ap (λ z. z ∷ bs) (eqb-true b 47 g))
    go None f false g i e next = absurd cc

empty-no-dots : NoDots []
empty-no-dots = ((λ e. cc, λ e. cc), tt)

without_last-no-dots : (output : List ℕ) → NoDots output → NoDots (without_last output)
without_last-no-dots output h = go (rightmost output) refl
  where
    go : (o : Option ℕ) → rightmost output ≡ o → NoDots (before o output)
    go None e = empty-no-dots
    go (Some i) e =
        all_left (segments (take i output)) (segments (drop (suc i) output)) (subst (AllByRecursion NotDots) (ap segments (rightmost-split output i e) ∙ segments-slash (take i output) (drop (suc i) output)) h)

-- a dot segment at the front, with an end or a slash behind it, is what another rule takes
taken-dots : (p input behind : List ℕ) → input ≡ p ++ behind → Begins (codes "/") behind → bytes_eq input p ≡ false → after (p ++ codes "/") input ≡ None → ⊥
taken-dots p input [] e h whole prefix = both_ways (bytes_eq input p) whole ((bytes_eq-Decides input p).1 (e ∙ append-none p))
  where
    append-none : (xs : List ℕ) → xs ++ [] ≡ xs
    append-none [] = refl
    append-none (x ∷ xs) = ap (λ z. x ∷ z) (append-none xs)
taken-dots p input (b ∷ bs) e h whole prefix = go (eqb b 47) refl h
  where
    go : (t : Bool) → eqb b 47 ≡ t → (t || false) ≡ true → ⊥
    go true f k =
        let same : input ≡ (p ++ codes "/") ++ bs = e ∙ (ap (λ z. p ++ z ∷ bs) (eqb-true b 47 f) ∙ sym (append_assoc p (codes "/") bs)) in
        let found : after (p ++ codes "/") input ≡ Some bs = ap (after (p ++ codes "/")) same ∙ after_front (p ++ codes "/") bs in
        let z : ◌≡◌ {A = ℕ} 0 1 = cc in
        omega arith
    go false f k = cc

-- the loop's invariant: the output has no dot segment, and is empty or complete
abbrev Clean : List ℕ × List ℕ → Type 0
Clean q = ((q.1 ≡ []) ⊎ Begins (codes "/") q.0) × NoDots q.1

-- the first segment, which no other rule takes, is no dot segment
moved-no-dots : (b : ℕ) (bs output : List ℕ) → Plain (b ∷ bs) → (output ≡ []) ⊎ Begins (codes "/") (b ∷ bs) → NoDots output → NoDots (output ++ b ∷ front (codes "/") bs)
moved-no-dots b bs output plain or h = go (eqb b 47) refl or
  where
    seg : List ℕ
    seg = front (codes "/") bs

    behind : List ℕ
    behind = rest (codes "/") bs

    slash : b ≡ 47 → NoDots (output ++ b ∷ seg)
    slash e =
        subst (λ z. NoDots (output ++ z ∷ seg)) (sym e)
        (subst (AllByRecursion NotDots) (sym (segments-slash output seg ∙ ap (λ z. segments output ++ z) (segments-one seg (front-without (codes "/") bs))))
        (All-append NotDots (segments output) (seg ∷ []) h
        ((
          (
            λ d. taken-dots (codes "/.") (b ∷ bs) behind (ap (λ z. z ∷ bs) e ∙ ap (λ z. 47 ∷ z) (sym (front_rest (codes "/") bs) ∙ ap (λ z. z ++ behind) d)) (rest-begins (codes "/") bs) plain.no_last plain.no_inner,
            λ d. taken-dots (codes "/..") (b ∷ bs) behind (ap (λ z. z ∷ bs) e ∙ ap (λ z. 47 ∷ z) (sym (front_rest (codes "/") bs) ∙ ap (λ z. z ++ behind) d)) (rest-begins (codes "/") bs) plain.no_last_up plain.no_up,
          ),
          tt,
        ))))

    other : eqb b 47 ≡ false → output ≡ [] → NoDots (output ++ b ∷ seg)
    other e none =
        let whole : b ∷ bs ≡ (b ∷ seg) ++ behind = ap (λ z. b ∷ z) (sym (front_rest (codes "/") bs)) in
        subst (λ z. NoDots (z ++ b ∷ seg)) (sym none)
        (subst (AllByRecursion NotDots) (sym (segments-one (b ∷ seg) (ap (λ t. t || false) e, front-without (codes "/") bs))) (
          (
            λ d. taken-dots (codes ".") (b ∷ bs) behind (whole ∙ ap (λ z. z ++ behind) d) (rest-begins (codes "/") bs) plain.no_only plain.no_dot,
            λ d. taken-dots (codes "..") (b ∷ bs) behind (whole ∙ ap (λ z. z ++ behind) d) (rest-begins (codes "/") bs) plain.no_only_up plain.no_dotdot,
          ),
          tt,
        ))

    go : (t : Bool) → eqb b 47 ≡ t → (output ≡ []) ⊎ ((t || false) ≡ true) → NoDots (output ++ b ∷ seg)
    go true e or = slash (eqb-true b 47 e)
    go false e (inl none) = other e none
    go false e (inr k) = absurd cc

each-clean : (b : ℕ) (bs output : List ℕ) → Clean (b ∷ bs, output) → Each Clean (b ∷ bs) output
each-clean b bs output h =
    record {
      dotdot = λ more e. (inl (none h.0 (codes "../" ++ more) e refl), h.1);
      dot = λ more e. (inl (none h.0 (codes "./" ++ more) e refl), h.1);
      inner = λ more e. (inr refl, h.1);
      last = λ e. (inr refl, h.1);
      up = λ more e. (inr refl, without_last-no-dots output h.1);
      last_up = λ e. (inr refl, without_last-no-dots output h.1);
      only = (inr tt, h.1);
      move = λ plain. (inr (rest-begins (codes "/") bs), moved-no-dots b bs output plain h.0 h.1);
    }
  where
    -- an input that begins with a dot has come with no output
    first-among : List ℕ → Bool
    first-among [] = true
    first-among (x ∷ xs) = among (codes "/") x

    none : (output ≡ []) ⊎ Begins (codes "/") (b ∷ bs) → (xs : List ℕ) → b ∷ bs ≡ xs → first-among xs ≡ false → output ≡ []
    none (inl n) xs e f = n
    none (inr k) xs e f = absurd (let z : ◌≡◌ {A = ℕ} 0 1 = cc (ap first-among e) in omega arith)

pub removed-no-dots : (path : List ℕ) → NoDots (remove_dots path)
removed-no-dots path = (dots-keep Clean each-clean path (inl refl, empty-no-dots)).1
