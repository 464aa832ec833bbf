-- The components of an address give the address again.
use Rattle.std.proofs.Common.{◌≡◌, ℕ, Bool, true, false, cond, ◌||◌, eqb, List, [], ◌∷◌, ◌++◌, Some, None, codes, Option, sym, refl, ap, ◌∙◌, append_assoc}
use Rattle.std.proofs.lemmas.Bool.{eqb-true}
use Rattle.uri.specs.Bytes.{among, front, rest, after}
use Rattle.uri.specs.Components.{named, scheme_cut, opened, authority_cut, query_cut, components}
use Rattle.uri.specs.Resolve.{closed, led, recompose}
use Rattle.uri.specs.Laws.{Begins}
use Rattle.uri.proofs.Fronts.{front_rest}
use Rattle.uri.proofs.Rules.{after_is}

-- a cut leaves the whole in two parts
pub scheme-whole : (bs : List ℕ) → closed (scheme_cut bs).0 (codes ":") ++ (scheme_cut bs).1 ≡ bs
scheme-whole bs = go (front (codes ":/?#") bs) (after (codes ":") (rest (codes ":/?#") bs)) refl refl
  where
    go : (n : List ℕ) (o : Option (List ℕ)) → front (codes ":/?#") bs ≡ n → after (codes ":") (rest (codes ":/?#") bs) ≡ o → closed (named n o bs).0 (codes ":") ++ (named n o bs).1 ≡ bs
    go [] o e f = refl
    go (x ∷ n) None e f = refl
    go (x ∷ n) (Some behind) e f =
        append_assoc (x ∷ n) (codes ":") behind
        ∙ (ap (λ z. (x ∷ n) ++ z) (sym (after_is (codes ":") (rest (codes ":/?#") bs) behind f))
        ∙ (ap (λ z. z ++ rest (codes ":/?#") bs) (sym e) ∙ front_rest (codes ":/?#") bs))

opened-whole : (p ds bs : List ℕ) → led p (opened ds (after p bs) bs).0 ++ (opened ds (after p bs) bs).1 ≡ bs
opened-whole p ds bs = go (after p bs) refl
  where
    go : (o : Option (List ℕ)) → after p bs ≡ o → led p (opened ds o bs).0 ++ (opened ds o bs).1 ≡ bs
    go None e = refl
    go (Some inner) e = append_assoc p (front ds inner) (rest ds inner) ∙ (ap (λ z. p ++ z) (front_rest ds inner) ∙ sym (after_is p bs inner e))

pub rest-begins : (ds bs : List ℕ) → Begins ds (rest ds bs)
rest-begins ds [] = tt
rest-begins ds (b ∷ bs) = go (among ds b) refl (rest-begins ds bs)
  where
    go : (t : Bool) → among ds b ≡ t → Begins ds (rest ds bs) → Begins ds (cond t (b ∷ bs) (rest ds bs))
    go true e h = e
    go false e h = h

-- behind the query there is nothing or a fragment
query-end : (bs : List ℕ) → Begins (codes "?#") bs → Begins (codes "#") (query_cut bs).1
query-end bs h = go (after (codes "?") bs) refl
  where
    hash : (bs : List ℕ) → Begins (codes "?#") bs → after (codes "?") bs ≡ None → Begins (codes "#") bs
    hash [] h e = tt
    hash (b ∷ bs) h e = by (eqb b 63) refl h e
      where
        by : (t : Bool) → eqb b 63 ≡ t → (t || (eqb b 35 || false)) ≡ true → cond t (Some bs) None ≡ None → (eqb b 35 || false) ≡ true
        by true s h e = absurd cc
        by false s h e = h

    go : (o : Option (List ℕ)) → after (codes "?") bs ≡ o → Begins (codes "#") (opened (codes "#") o bs).1
    go None e = hash bs h e
    go (Some inner) e = rest-begins (codes "#") inner

fragment-whole : (bs : List ℕ) → Begins (codes "#") bs → led (codes "#") (after (codes "#") bs) ≡ bs
fragment-whole [] h = refl
fragment-whole (b ∷ bs) h = go (eqb b 35) refl h
  where
    go : (t : Bool) → eqb b 35 ≡ t → (t || false) ≡ true → led (codes "#") (cond t (Some bs) None) ≡ b ∷ bs
    go true e h = ap (λ z. z ∷ bs) (sym (eqb-true b 35 e))
    go false e h = absurd cc

path-whole : (bs : List ℕ) → front (codes "?#") bs ++ (led (codes "?") (query_cut (rest (codes "?#") bs)).0 ++ led (codes "#") (after (codes "#") (query_cut (rest (codes "?#") bs)).1)) ≡ bs
path-whole bs =
    let t = rest (codes "?#") bs in
    ap (λ z. front (codes "?#") bs ++ (led (codes "?") (query_cut t).0 ++ z)) (fragment-whole (query_cut t).1 (query-end t (rest-begins (codes "?#") bs)))
    ∙ (ap (λ z. front (codes "?#") bs ++ z) (opened-whole (codes "?") (codes "#") t) ∙ front_rest (codes "?#") bs)

pub recompose-components : (bs : List ℕ) → recompose (components bs) ≡ bs
recompose-components bs =
    let s = scheme_cut bs in
    let a = authority_cut s.1 in
    ap (λ z. closed s.0 (codes ":") ++ (led (codes "//") a.0 ++ z)) (path-whole a.1)
    ∙ (ap (λ z. closed s.0 (codes ":") ++ z) (opened-whole (codes "//") (codes "/?#") s.1) ∙ scheme-whole bs)
