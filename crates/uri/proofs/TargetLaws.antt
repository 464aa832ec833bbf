-- The laws of joining, from the definitions.
use Rattle.std.proofs.Common.{◌≡◌, ℕ, ◌+◌, ◌≤◌, Bool, true, false, cond, eqb, leb, ◌⊎◌, List, [], ◌∷◌, ◌++◌, length, take, drop, is_some, IfSome, Some, None, codes, Option, sym, refl, ap, ◌∙◌, subst, inl, inr, append_assoc, arith}
use Rattle.std.proofs.ByRecursion.{All-append, All-weaker}
use Rattle.std.proofs.lemmas.List.{length-append, take_at}
use Rattle.std.proofs.lemmas.Bool.{cond-true, or_parts}
use Rattle.uri.specs.Bytes.{among, after}
use Rattle.uri.specs.Components.{Parts, components}
use Rattle.uri.specs.Dots.{remove_dots}
use Rattle.uri.specs.Laws.{Formed, Laws}
use Rattle.uri.specs.Resolve.{or_else, is_empty, transform, closed, led, recompose, resolved}
use Rattle.uri.specs.Segments.{NoDots, Without}
use Rattle.uri.specs.View.{path_front}
use Rattle.uri.specs.Write.{placed, write_answer, in_room, resolve_answer, resolve_out, Lawful}
use Rattle.uri.proofs.Formed.{components-formed, transform-formed}
use Rattle.uri.proofs.NoDots.{removed-no-dots}
use Rattle.uri.proofs.ReadBack.{components-recompose}
use Rattle.uri.proofs.Splits.{recompose-components}
use Rattle.uri.proofs.Shorter.{removed-short}
use Rattle.uri.proofs.Targets.{by-scheme, by-authority, by-empty, by-path, front-short, or_else-short, length-recompose}

-- a path that begins with a slash is not empty, and has no front of the base
not-empty : (path : List ℕ) → is_some (after (codes "/") path) ≡ true → is_empty path ≡ false
not-empty [] e = absurd cc
not-empty (b ∷ bs) e = refl

-- bytes without a delimiter are bytes without a hash
of-path : (c : ℕ) → among (codes "?#") c ≡ false → among (codes "#") c ≡ false
of-path c e = (or_parts (eqb c 63) (among (codes "#") c) e).1

of-authority : (c : ℕ) → among (codes "/?#") c ≡ false → among (codes "#") c ≡ false
of-authority c e = of-path c (or_parts (eqb c 47) (among (codes "?#") c) e).1

of-scheme : (c : ℕ) → among (codes ":/?#") c ≡ false → among (codes "#") c ≡ false
of-scheme c e = of-authority c (or_parts (eqb c 58) (among (codes "/?#") c) e).1

scheme-hash : (s : Option (List ℕ)) → IfSome s (λ n. (n ≡ [] → ⊥) × Without (codes ":/?#") n) → Without (codes "#") (closed s (codes ":"))
scheme-hash None h = tt
scheme-hash (Some n) h = All-append (λ c. among (codes "#") c ≡ false) n (codes ":") (All-weaker (λ c. among (codes ":/?#") c ≡ false) (λ c. among (codes "#") c ≡ false) of-scheme n h.1) (refl, tt)

authority-hash : (a : Option (List ℕ)) → IfSome a (Without (codes "/?#")) → Without (codes "#") (led (codes "//") a)
authority-hash None h = tt
authority-hash (Some x) h = (refl, (refl, All-weaker (λ c. among (codes "/?#") c ≡ false) (λ c. among (codes "#") c ≡ false) of-authority x h))

query-hash : (q : Option (List ℕ)) → IfSome q (Without (codes "#")) → Without (codes "#") (led (codes "?") q)
query-hash None h = tt
query-hash (Some x) h = (refl, h)

module _ (b r : List ℕ) where
  abbrev B : Parts
  B = components b

  abbrev R : Parts
  R = components r

  any-base : is_some R.scheme ≡ true → (b' : List ℕ) → transform B R ≡ transform (components b') R
  any-base s b' = by-scheme B R s ∙ sym (by-scheme (components b') R s)

  any-of-scheme : is_some R.authority ≡ true → (b' : List ℕ) → (components b').scheme ≡ B.scheme → transform B R ≡ transform (components b') R
  any-of-scheme a b' e = go (is_some R.scheme) refl
    where
      go : (s : Bool) → is_some R.scheme ≡ s → transform B R ≡ transform (components b') R
      go true s = any-base s b'
      go false s =
          by-authority B R s a
          ∙ (ap (λ z. record { scheme = z; authority = R.authority; path = remove_dots R.path; query = R.query; fragment = R.fragment }) (sym e) ∙ sym (by-authority (components b') R s a))

  any-of-authority : is_some (after (codes "/") R.path) ≡ true → (b' : List ℕ) → (components b').scheme ≡ B.scheme → (components b').authority ≡ B.authority → transform B R ≡ transform (components b') R
  any-of-authority p b' e f = go (is_some R.scheme) (is_some R.authority) refl refl
    where
      absolute-is : (c : Parts) → is_some R.scheme ≡ false → is_some R.authority ≡ false
          → transform c R ≡ record { scheme = c.scheme; authority = c.authority; path = remove_dots R.path; query = R.query; fragment = R.fragment }
      absolute-is c s a =
          by-path c R s a (not-empty R.path p)
          ∙ ap (λ z. record { scheme = c.scheme; authority = c.authority; path = remove_dots (z ++ R.path); query = R.query; fragment = R.fragment }) (cond-true (is_some (after (codes "/") R.path)) _ _ p)

      go : (s a : Bool) → is_some R.scheme ≡ s → is_some R.authority ≡ a → transform B R ≡ transform (components b') R
      go true a s t = any-base s b'
      go false true s t = any-of-scheme t b' e
      go false false s t =
          absolute-is B s t
          ∙ (ap (λ z. record { scheme = z; authority = B.authority; path = remove_dots R.path; query = R.query; fragment = R.fragment }) (sym e)
          ∙ (ap (λ z. record { scheme = (components b').scheme; authority = z; path = remove_dots R.path; query = R.query; fragment = R.fragment }) (sym f) ∙ sym (absolute-is (components b') s t)))

  -- what holds of the target in each of the four ways
  by-ways : (P : Parts → Type 0)
      → (is_some R.scheme ≡ true → P (record { scheme = R.scheme; authority = R.authority; path = remove_dots R.path; query = R.query; fragment = R.fragment }))
      → (is_some R.authority ≡ true → P (record { scheme = B.scheme; authority = R.authority; path = remove_dots R.path; query = R.query; fragment = R.fragment }))
      → (is_some R.scheme ≡ false → is_some R.authority ≡ false → is_empty R.path ≡ true → P (record { scheme = B.scheme; authority = B.authority; path = B.path; query = or_else R.query B.query; fragment = R.fragment }))
      → (is_empty R.path ≡ false → P (record { scheme = B.scheme; authority = B.authority; path = remove_dots (path_front B R.path ++ R.path); query = R.query; fragment = R.fragment }))
      → P (transform B R)
  by-ways P one two three four = go (is_some R.scheme) (is_some R.authority) (is_empty R.path) refl refl refl
    where
      go : (s a e : Bool) → is_some R.scheme ≡ s → is_some R.authority ≡ a → is_empty R.path ≡ e → P (transform B R)
      go true a e f g k = subst P (sym (by-scheme B R f)) (one f)
      go false true e f g k = subst P (sym (by-authority B R f g)) (two g)
      go false false true f g k = subst P (sym (by-empty B R f g k)) (three f g k)
      go false false false f g k = subst P (sym (by-path B R f g k)) (four k)

  target-fragment : (transform B R).fragment ≡ R.fragment
  target-fragment = by-ways (λ t. t.fragment ≡ R.fragment) (λ s. refl) (λ a. refl) (λ s a e. refl) (λ e. refl)

  target-dots : (is_some R.scheme ≡ true) ⊎ ((is_some R.authority ≡ true) ⊎ (is_empty R.path ≡ false)) → NoDots (transform B R).path
  target-dots or = by-ways (λ t. NoDots t.path) (λ s. removed-no-dots R.path) (λ a. removed-no-dots R.path) (λ s a e. absurd (none or s a e)) (λ e. removed-no-dots (path_front B R.path ++ R.path))
    where
      none : (is_some R.scheme ≡ true) ⊎ ((is_some R.authority ≡ true) ⊎ (is_empty R.path ≡ false)) → is_some R.scheme ≡ false → is_some R.authority ≡ false → is_empty R.path ≡ true → ⊥
      none (inl x) s a e = cc
      none (inr (inl x)) s a e = cc
      none (inr (inr x)) s a e = cc

  -- everything before the fragment
  abbrev before-fragment : Parts → List ℕ
  before-fragment t = closed t.scheme (codes ":") ++ (led (codes "//") t.authority ++ (t.path ++ led (codes "?") t.query))

  whole-fragment : (t : Parts) → recompose t ≡ before-fragment t ++ led (codes "#") t.fragment
  whole-fragment t = simp append_assoc

  no-hash : (t : Parts) → Formed t → Without (codes "#") (before-fragment t)
  no-hash t h =
      let P : ℕ → Type 0 = λ c. among (codes "#") c ≡ false in
      let q = led (codes "?") t.query in
      All-append P (closed t.scheme (codes ":")) (led (codes "//") t.authority ++ (t.path ++ q)) (scheme-hash t.scheme h.scheme)
      (All-append P (led (codes "//") t.authority) (t.path ++ q) (authority-hash t.authority h.authority)
      (All-append P t.path q (All-weaker (λ c. among (codes "?#") c ≡ false) P of-path t.path h.path) (query-hash t.query h.query)))

  target-short : length (recompose (transform B R)) ≤ length b + 1 + length r
  target-short =
      let wb = length-recompose B in
      let wr = length-recompose R in
      let lb = ap length (recompose-components b) in
      let lr = ap length (recompose-components r) in
      by-ways (λ t. length (recompose t) ≤ length b + 1 + length r)
      (λ s. omega (arith, length-recompose (record { scheme = R.scheme; authority = R.authority; path = remove_dots R.path; query = R.query; fragment = R.fragment }), removed-short R.path))
      (λ a. omega (arith, length-recompose (record { scheme = B.scheme; authority = R.authority; path = remove_dots R.path; query = R.query; fragment = R.fragment }), removed-short R.path))
      (λ s a e. omega (arith, length-recompose (record { scheme = B.scheme; authority = B.authority; path = B.path; query = or_else R.query B.query; fragment = R.fragment }), or_else-short R.query B.query))
      (λ e. omega (arith, length-recompose (record { scheme = B.scheme; authority = B.authority; path = remove_dots (path_front B R.path ++ R.path); query = R.query; fragment = R.fragment }), removed-short (path_front B R.path ++ R.path), length-append (path_front B R.path) R.path, front-short B R.path))

  pub laws : Laws b r (resolved b r)
  unfolding resolved
  laws =
      let formed = transform-formed B R (components-formed b) (components-formed r) in
      record {
        scheme = λ s b'. ap recompose (any-base s b');
        authority = λ a b' e. ap recompose (any-of-scheme a b' e);
        absolute = λ p b' e f. ap recompose (any-of-authority p b' e f);
        empty = λ s a e. ap recompose (by-empty B R s a (ap is_empty e));
        dots = target-dots;
        fragment = (before-fragment (transform B R), whole-fragment (transform B R) ∙ ap (λ f. before-fragment (transform B R) ++ led (codes "#") f) target-fragment, no-hash (transform B R) formed);
        split_again = λ s or. components-recompose (transform B R) formed s or;
        short = target-short;
      }

-- what lies in the buffer's front after a write
placed-front : (j out : List ℕ) → leb (length j) (length out) ≡ true → take (length j) (placed j out) ≡ j
placed-front j out e = ap (take (length j)) (cond-true (leb (length j) (length out)) _ _ e) ∙ take_at j (drop (length j) out) (length j) refl

-- the laws hold of what was written
pub written-laws : (b r out : List ℕ) → Lawful b r (write_answer (resolved b r) (length out)) (placed (resolved b r) out)
written-laws b r out = go (leb (length (resolved b r)) (length out)) refl
  where
    go : (t : Bool) → leb (length (resolved b r)) (length out) ≡ t → Lawful b r (cond t (Some (length (resolved b r))) None) (placed (resolved b r) out)
    go true e = subst (Laws b r) (sym (placed-front (resolved b r) out e)) (laws b r)
    go false e = tt

pub resolved-laws : (b r out out' : List ℕ) (a : Option ℕ) → a ≡ resolve_answer b r (length out) → out' ≡ resolve_out b r out → Lawful b r a out'
resolved-laws b r out out' a e f = subst (λ z. Lawful b r z out') (sym e) (subst (Lawful b r (resolve_answer b r (length out))) (sym f) (go (in_room b r)))
  where
    go : (t : Bool) → Lawful b r (cond t (write_answer (resolved b r) (length out)) None) (cond t (placed (resolved b r) out) out)
    go true = written-laws b r out
    go false = tt

-- and of what was written, where base and reference fit
pub answered-laws : (b r out out' : List ℕ) (a : Option ℕ) → a ≡ write_answer (resolved b r) (length out) → out' ≡ placed (resolved b r) out → Lawful b r a out'
answered-laws b r out out' a e f = subst (λ z. Lawful b r z out') (sym e) (subst (Lawful b r (write_answer (resolved b r) (length out))) (sym f) (written-laws b r out))
