-- What the target takes, and how many bytes that is.
use Rattle.std.proofs.Common.{◌≡◌, ℕ, suc, ◌+◌, ◌≤◌, Bool, true, false, cond, List, [], ◌∷◌, ◌++◌, length, is_some, Some, None, codes, Option, sym, refl, ap, ◌∙◌, arith}
use Rattle.std.proofs.lemmas.List.{length-append, length-take}
use Rattle.std.proofs.lemmas.Bool.{cond-true, cond-false}
use Rattle.uri.specs.Bytes.{after}
use Rattle.uri.specs.View.{path_front, draft, draft_by, finished, room}
use Rattle.uri.specs.Components.{Parts}
use Rattle.uri.specs.Dots.{rightmost, remove_dots}
use Rattle.uri.specs.Resolve.{transform, merge, is_empty, merge_front, through, or_else, closed, led, recompose}

-- merging adds at most a slash
pub merge-short : (a : Option (List ℕ)) (path : List ℕ) → length (merge_front a path) ≤ length path + 1
merge-short a path = go a path
  where
    part : (o : Option ℕ) (bs : List ℕ) → length (through o bs) ≤ length bs + 1
    part None bs = omega arith
    part (Some i) bs = omega (arith, length-take (suc i) bs)

    go : (a : Option (List ℕ)) (path : List ℕ) → length (merge_front a path) ≤ length path + 1
    go None path = part (rightmost path) path
    go (Some x) [] = omega arith
    go (Some x) (b ∷ bs) = part (rightmost (b ∷ bs)) (b ∷ bs)

pub or_else-short : (q r : Option (List ℕ)) → length (led (codes "?") (or_else q r)) ≤ length (led (codes "?") q) + length (led (codes "?") r)
or_else-short (Some x) r = omega arith
or_else-short None r = omega arith

-- the length of a recomposed address, by its components
pub length-recompose : (p : Parts)
    → length (recompose p) ≡ length (closed p.scheme (codes ":")) + (length (led (codes "//") p.authority) + (length p.path + (length (led (codes "?") p.query) + length (led (codes "#") p.fragment))))
length-recompose p =
    let s = closed p.scheme (codes ":") in
    let a = led (codes "//") p.authority in
    let q = led (codes "?") p.query in
    let f = led (codes "#") p.fragment in
    omega (arith, length-append s (a ++ (p.path ++ (q ++ f))), length-append a (p.path ++ (q ++ f)), length-append p.path (q ++ f), length-append q f)

pub front-short : (base : Parts) (path : List ℕ) → length (path_front base path) ≤ length base.path + 1
front-short base path = go (is_some (after (codes "/") path))
  where
    go : (t : Bool) → length (cond t [] (merge_front base.authority base.path)) ≤ length base.path + 1
    go true = omega arith
    go false = merge-short base.authority base.path

-- a path with its front is the path that section 5.2.2 cleans
front-path : (base : Parts) (path : List ℕ) → path_front base path ++ path ≡ cond (is_some (after (codes "/") path)) path (merge base path)
front-path base path = go (is_some (after (codes "/") path))
  where
    go : (t : Bool) → cond t [] (merge_front base.authority base.path) ++ path ≡ cond t path (merge base path)
    go true = refl
    go false = refl

-- the four ways through section 5.2.2
module _ (base r : Parts) where
  pub by-scheme : is_some r.scheme ≡ true
      → transform base r ≡ record { scheme = r.scheme; authority = r.authority; path = remove_dots r.path; query = r.query; fragment = r.fragment }
  by-scheme s = cond-true (is_some r.scheme) _ _ s

  pub by-authority : is_some r.scheme ≡ false → is_some r.authority ≡ true
      → transform base r ≡ record { scheme = base.scheme; authority = r.authority; path = remove_dots r.path; query = r.query; fragment = r.fragment }
  by-authority s a = cond-false (is_some r.scheme) _ _ s ∙ cond-true (is_some r.authority) _ _ a

  pub by-empty : is_some r.scheme ≡ false → is_some r.authority ≡ false → is_empty r.path ≡ true
      → transform base r ≡ record { scheme = base.scheme; authority = base.authority; path = base.path; query = or_else r.query base.query; fragment = r.fragment }
  by-empty s a e = cond-false (is_some r.scheme) _ _ s ∙ (cond-false (is_some r.authority) _ _ a ∙ cond-true (is_empty r.path) _ _ e)

  pub by-path : is_some r.scheme ≡ false → is_some r.authority ≡ false → is_empty r.path ≡ false
      → transform base r ≡ record { scheme = base.scheme; authority = base.authority; path = remove_dots (path_front base r.path ++ r.path); query = r.query; fragment = r.fragment }
  by-path s a e =
      cond-false (is_some r.scheme) _ _ s
      ∙ (cond-false (is_some r.authority) _ _ a
      ∙ (cond-false (is_empty r.path) _ _ e
      ∙ ap (λ z. record { scheme = base.scheme; authority = base.authority; path = remove_dots z; query = r.query; fragment = r.fragment }) (sym (front-path base r.path))))

-- a draft's removal of dot segments gives the target, and a draft is as short as base and reference with a slash
module _ (base r : Parts) where
  pub finished-draft : finished (draft base r) ≡ transform base r
  finished-draft = go r.scheme r.authority r.path refl refl refl
    where
      go : (s a : Option (List ℕ)) (p : List ℕ) → r.scheme ≡ s → r.authority ≡ a → r.path ≡ p → finished (draft_by s a p base r) ≡ transform base r
      go (Some s) a p e f g =
          sym (by-scheme base r (ap is_some e)
          ∙ (ap (λ z. record { scheme = z; authority = r.authority; path = remove_dots r.path; query = r.query; fragment = r.fragment }) e
          ∙ (ap (λ z. record { scheme = Some s; authority = z; path = remove_dots r.path; query = r.query; fragment = r.fragment }) f
          ∙ ap (λ z. record { scheme = Some s; authority = a; path = remove_dots z; query = r.query; fragment = r.fragment }) g)))
      go None (Some a) p e f g =
          sym (by-authority base r (ap is_some e) (ap is_some f)
          ∙ (ap (λ z. record { scheme = base.scheme; authority = z; path = remove_dots r.path; query = r.query; fragment = r.fragment }) f
          ∙ ap (λ z. record { scheme = base.scheme; authority = Some a; path = remove_dots z; query = r.query; fragment = r.fragment }) g))
      go None None [] e f g = sym (by-empty base r (ap is_some e) (ap is_some f) (ap is_empty g))
      go None None (b ∷ p) e f g =
          sym (by-path base r (ap is_some e) (ap is_some f) (ap is_empty g)
          ∙ ap (λ z. record { scheme = base.scheme; authority = base.authority; path = remove_dots (path_front base z ++ z); query = r.query; fragment = r.fragment }) g)

  pub draft-room : room (draft base r) ≤ length (recompose base) + 1 + length (recompose r)
  draft-room = go r.scheme r.authority r.path refl refl refl
    where
      go : (s a : Option (List ℕ)) (p : List ℕ) → r.scheme ≡ s → r.authority ≡ a → r.path ≡ p → room (draft_by s a p base r) ≤ length (recompose base) + 1 + length (recompose r)
      go (Some s) a p e f g = omega (arith, length-recompose base, length-recompose r, ap (λ z. length (closed z (codes ":"))) e, ap (λ z. length (led (codes "//") z)) f, ap length g)
      go None (Some a) p e f g = omega (arith, length-recompose base, length-recompose r, ap (λ z. length (led (codes "//") z)) f, ap length g)
      go None None [] e f g = omega (arith, length-recompose base, length-recompose r, or_else-short r.query base.query)
      go None None (b ∷ p) e f g = omega (arith, length-recompose base, length-recompose r, ap length g, front-short base (b ∷ p), length-append (path_front base (b ∷ p)) (b ∷ p))
