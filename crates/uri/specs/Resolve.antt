-- Reference resolution: RFC 3986, sections 5.2.2, 5.2.3 and 5.3.
use Rattle.std.specs.Prelude.{ℕ, suc, Bool, true, false, cond, List, [], ◌∷◌, ◌++◌, take, is_some, Some, None, codes, Option}
use Rattle.uri.specs.Bytes.{after}
use Rattle.uri.specs.Components.{Parts, components}
use Rattle.uri.specs.Dots.{rightmost, remove_dots}

-- a path without the bytes behind its right-most slash, or none of it where it has no slash
abbrev pub through : Option ℕ → List ℕ → List ℕ
through None bs = []
through (Some i) bs = take (suc i) bs

-- what merge, section 5.2.3, puts in front of the reference's path:
-- a slash if the base has an authority and an empty path, else the base's path but for its last segment
abbrev pub merge_front : Option (List ℕ) → List ℕ → List ℕ
merge_front (Some a) [] = codes "/"
merge_front (Some a) (b ∷ bs) = through (rightmost (b ∷ bs)) (b ∷ bs)
merge_front None bs = through (rightmost bs) bs

abbrev pub merge : Parts → List ℕ → List ℕ
merge base path = merge_front base.authority base.path ++ path

abbrev pub is_empty : List ℕ → Bool
is_empty [] = true
is_empty (b ∷ bs) = false

abbrev pub or_else : Option (List ℕ) → Option (List ℕ) → Option (List ℕ)
or_else (Some x) other = Some x
or_else None other = other

-- the transformation of section 5.2.2, strict: base and reference to target
abbrev pub transform : Parts → Parts → Parts
transform base r =
    cond (is_some r.scheme)
    (record { scheme = r.scheme; authority = r.authority; path = remove_dots r.path; query = r.query; fragment = r.fragment })
    (cond (is_some r.authority)
    (record { scheme = base.scheme; authority = r.authority; path = remove_dots r.path; query = r.query; fragment = r.fragment })
    (cond (is_empty r.path)
    (record { scheme = base.scheme; authority = base.authority; path = base.path; query = or_else r.query base.query; fragment = r.fragment })
    (record {
      scheme = base.scheme;
      authority = base.authority;
      path = remove_dots (cond (is_some (after (codes "/") r.path)) r.path (merge base r.path));
      query = r.query;
      fragment = r.fragment;
    })))

-- a component with the mark behind it, or in front of it; nothing where it is not there
abbrev pub closed : Option (List ℕ) → List ℕ → List ℕ
closed None mark = []
closed (Some x) mark = x ++ mark

abbrev pub led : List ℕ → Option (List ℕ) → List ℕ
led mark None = []
led mark (Some x) = mark ++ x

-- recomposition, section 5.3
abbrev pub recompose : Parts → List ℕ
recompose t =
    closed t.scheme (codes ":")
    ++ (led (codes "//") t.authority
    ++ (t.path
    ++ (led (codes "?") t.query
    ++ led (codes "#") t.fragment)))

-- the target's components, and the target, of a reference on a base
abbrev pub target : List ℕ → List ℕ → Parts
target base reference = transform (components base) (components reference)

unfoldable pub resolved : List ℕ → List ℕ → List ℕ
resolved base reference = recompose (target base reference)
