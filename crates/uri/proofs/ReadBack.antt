-- An address that is recomposed of well-formed components has those components.
use Rattle.std.proofs.Common.{◌≡◌, ℕ, Bool, true, false, cond, ◌||◌, eqb, ◌⊎◌, List, [], ◌∷◌, ◌++◌, is_some, IfSome, Some, None, codes, Option, refl, ap, ◌∙◌, subst, inl, inr, append_assoc}
use Rattle.std.proofs.lemmas.Bool.{or_right, eqb-true, cond-true, cond-false}
use Rattle.uri.specs.Bytes.{among, front, rest, after}
use Rattle.uri.specs.Components.{Parts, named, scheme_cut, opened, authority_cut, query_cut, from_path, components}
use Rattle.uri.specs.Laws.{Begins, Formed}
use Rattle.uri.specs.Resolve.{closed, led, recompose}
use Rattle.uri.specs.Segments.{Without}

-- a front ends where one of ds begins
pub front-append : (ds xs ys : List ℕ) → Without ds xs → Begins ds ys → (front ds (xs ++ ys) ≡ xs) × (rest ds (xs ++ ys) ≡ ys)
front-append ds [] [] h k = (refl, refl)
front-append ds [] (y ∷ ys) h k = (cond-true (among ds y) _ _ k, cond-true (among ds y) _ _ k)
front-append ds (x ∷ xs) ys h k =
    let e = front-append ds xs ys h.1 k in
    (cond-false (among ds x) _ _ h.0 ∙ ap (λ z. x ∷ z) e.0, cond-false (among ds x) _ _ h.0 ∙ e.1)

pub opened-read : (ds x y : List ℕ) → Without ds x → Begins ds y → (bs : List ℕ) → opened ds (Some (x ++ y)) bs ≡ (Some x, y)
opened-read ds x y h k bs = let e = front-append ds x y h k in ap (λ z. (Some z, rest ds (x ++ y))) e.0 ∙ ap (λ z. (Some x, z)) e.1

-- query and fragment
pub end-begins : (q f : Option (List ℕ)) → Begins (codes "?#") (led (codes "?") q ++ led (codes "#") f)
end-begins (Some x) f = refl
end-begins None (Some y) = refl
end-begins None None = tt

hash-begins : (f : Option (List ℕ)) → Begins (codes "#") (led (codes "#") f)
hash-begins (Some y) = refl
hash-begins None = tt

query-read : (q f : Option (List ℕ)) → IfSome q (Without (codes "#")) → query_cut (led (codes "?") q ++ led (codes "#") f) ≡ (q, led (codes "#") f)
query-read (Some x) f h = opened-read (codes "#") x (led (codes "#") f) h (hash-begins f) []
query-read None (Some y) h = refl
query-read None None h = refl

fragment-read : (f : Option (List ℕ)) → after (codes "#") (led (codes "#") f) ≡ f
fragment-read (Some y) = refl
fragment-read None = refl

from_path-read : (p : Parts) → Formed p → from_path p.scheme p.authority (p.path ++ (led (codes "?") p.query ++ led (codes "#") p.fragment)) ≡ p
from_path-read p h =
    let z = led (codes "?") p.query ++ led (codes "#") p.fragment in
    let e = front-append (codes "?#") p.path z h.path (end-begins p.query p.fragment) in
    let q = ap query_cut e.1 ∙ query-read p.query p.fragment h.query in
    ap (λ y. record { scheme = p.scheme; authority = p.authority; path = y; query = (query_cut (rest (codes "?#") (p.path ++ z))).0; fragment = after (codes "#") (query_cut (rest (codes "?#") (p.path ++ z))).1 }) e.0
    ∙ (ap (λ c. record { scheme = p.scheme; authority = p.authority; path = p.path; query = c.0; fragment = after (codes "#") c.1 }) q
    ∙ ap (λ f. record { scheme = p.scheme; authority = p.authority; path = p.path; query = p.query; fragment = f }) (fragment-read p.fragment))

-- behind an authority
no_slash : (b : ℕ) → among (codes "?#") b ≡ true → eqb b 47 ≡ false
no_slash b h = go (eqb b 47) refl
  where
    go : (t : Bool) → eqb b 47 ≡ t → t ≡ false
    go true e = absurd (let z : among (codes "?#") 47 ≡ true = subst (λ c. among (codes "?#") c ≡ true) (eqb-true b 47 e) h in cc)
    go false e = refl

path-begins : (path z : List ℕ) → Begins (codes "/") path → Begins (codes "?#") z → Begins (codes "/?#") (path ++ z)
path-begins [] [] h k = tt
path-begins [] (b ∷ z) h k = or_right (eqb b 47) (among (codes "?#") b) k
path-begins (c ∷ path) z h k = go (eqb c 47) h
  where
    go : (t : Bool) → (t || false) ≡ true → (t || among (codes "?#") c) ≡ true
    go true e = refl
    go false e = absurd cc

-- without an authority
one-slash : (z : List ℕ) → Begins (codes "?#") z → after (codes "/") z ≡ None
one-slash [] k = refl
one-slash (b ∷ z) k = cond-false (eqb b 47) _ _ (no_slash b k)

path-no-slashes : (path z : List ℕ) → after (codes "//") path ≡ None → Begins (codes "?#") z → after (codes "//") (path ++ z) ≡ None
path-no-slashes [] [] h k = refl
path-no-slashes [] (b ∷ z) h k = cond-false (eqb b 47) _ _ (no_slash b k)
path-no-slashes (c ∷ []) z h k = go (eqb c 47)
  where
    go : (t : Bool) → cond t (after (codes "/") z) None ≡ None
    go true = one-slash z k
    go false = refl
path-no-slashes (c ∷ d ∷ path) z h k = go (eqb c 47) (eqb d 47) h
  where
    go : (t u : Bool) → cond t (cond u (Some path) None) None ≡ None → cond t (cond u (Some (path ++ z)) None) None ≡ None
    go true true e = absurd cc
    go true false e = refl
    go false u e = refl

authority-read : (a : Option (List ℕ)) (path z : List ℕ) → IfSome a (Without (codes "/?#")) → (is_some a ≡ true → Begins (codes "/") path) → Begins (codes "?#") z → (is_some a ≡ true) ⊎ (after (codes "//") path ≡ None)
    → authority_cut (led (codes "//") a ++ (path ++ z)) ≡ (a, path ++ z)
authority-read (Some x) path z h s k or = opened-read (codes "/?#") x (path ++ z) h (path-begins path z (s refl) k) []
authority-read None path z h s k (inl e) = absurd cc
authority-read None path z h s k (inr e) = ap (λ o. opened (codes "/?#") o (path ++ z)) (path-no-slashes path z e k)

pub scheme-read : (s : Option (List ℕ)) (x : List ℕ) → IfSome s (λ n. (n ≡ [] → ⊥) × Without (codes ":/?#") n) → is_some s ≡ true → scheme_cut (closed s (codes ":") ++ x) ≡ (s, x)
scheme-read None x h e = absurd cc
scheme-read (Some []) x h e = absurd (h.0 refl)
scheme-read (Some (c ∷ n)) x h e =
    let f = front-append (codes ":/?#") (c ∷ n) (58 ∷ x) h.1 refl in
    ap scheme_cut (append_assoc (c ∷ n) (codes ":") x)
    ∙ (ap (λ y. named y (after (codes ":") (rest (codes ":/?#") ((c ∷ n) ++ 58 ∷ x))) ((c ∷ n) ++ 58 ∷ x)) f.0
    ∙ ap (λ y. named (c ∷ n) (after (codes ":") y) ((c ∷ n) ++ 58 ∷ x)) f.1)

pub components-recompose : (p : Parts) → Formed p → is_some p.scheme ≡ true → (is_some p.authority ≡ true) ⊎ (after (codes "//") p.path ≡ None) → components (recompose p) ≡ p
components-recompose p h s or =
    let z = led (codes "?") p.query ++ led (codes "#") p.fragment in
    let y = led (codes "//") p.authority ++ (p.path ++ z) in
    let e = scheme-read p.scheme y h.scheme s in
    let f = ap (λ c. authority_cut c.1) e ∙ authority-read p.authority p.path z h.authority h.slash (end-begins p.query p.fragment) or in
    ap (λ c. from_path c.0 (authority_cut (scheme_cut (recompose p)).1).0 (authority_cut (scheme_cut (recompose p)).1).1) e
    ∙ (ap (λ c. from_path p.scheme c.0 c.1) f ∙ from_path-read p h)
