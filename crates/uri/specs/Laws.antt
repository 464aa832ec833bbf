-- The laws of splitting and of joining.
use Rattle.std.specs.Prelude.{◌≡◌, ℕ, ◌+◌, ◌≤◌, true, false, ◌⊎◌, List, [], ◌∷◌, ◌++◌, length, is_some, IfSome, None, codes, ◌≢◌}
use Rattle.uri.specs.Bytes.{among, after}
use Rattle.uri.specs.Components.{Parts, components}
use Rattle.uri.specs.Resolve.{or_else, is_empty, closed, led, recompose, target, resolved}
use Rattle.uri.specs.Segments.{NoDots, Without}

-- a byte string that is empty or begins with one of the bytes ds
abbrev pub Begins : List ℕ → List ℕ → Type 0
Begins ds [] = Unit {0}
Begins ds (b ∷ bs) = among ds b ≡ true

-- no component holds a byte that would end it, and behind an authority a path is empty or begins with a slash
pub record Formed (p : Parts) : Type 0 where
  pub scheme : IfSome p.scheme (λ s. (s ≢ []) × Without (codes ":/?#") s)
  pub authority : IfSome p.authority (Without (codes "/?#"))
  pub path : Without (codes "?#") p.path
  pub query : IfSome p.query (Without (codes "#"))
  pub slash : is_some p.authority ≡ true → Begins (codes "/") p.path

-- p is how the expression of Appendix B matches bs: the parts give bs again, none holds a byte that ends it,
-- and a scheme or an authority is absent only where none could be matched
pub record Matched (bs : List ℕ) (p : Parts) : Type 0 where
  pub whole : recompose p ≡ bs
  pub formed : Formed p
  pub no_scheme : p.scheme ≡ None → (s more : List ℕ) → Without (codes ":/?#") s → bs ≡ s ++ (codes ":" ++ more) → s ≡ []
  pub no_authority : p.authority ≡ None → (more : List ℕ) → bs ≢ closed p.scheme (codes ":") ++ (codes "//" ++ more)

-- j is what the reference r gives on the base b
pub record Laws (b r j : List ℕ) : Type 0 where
  -- a reference with a scheme takes nothing from the base
  pub scheme : is_some (components r).scheme ≡ true → (b' : List ℕ) → j ≡ resolved b' r
  -- one with an authority takes only the scheme
  pub authority : is_some (components r).authority ≡ true → (b' : List ℕ) → (components b').scheme ≡ (components b).scheme → j ≡ resolved b' r
  -- one with a path that begins with a slash takes the scheme and the authority
  pub absolute : is_some (after (codes "/") (components r).path) ≡ true → (b' : List ℕ) → (components b').scheme ≡ (components b).scheme → (components b').authority ≡ (components b).authority → j ≡ resolved b' r
  -- one with an empty path keeps the base's path, and its query where the reference has none
  pub empty :
      is_some (components r).scheme ≡ false
      → is_some (components r).authority ≡ false
      → (components r).path ≡ []
      → j ≡ recompose (record { scheme = (components b).scheme; authority = (components b).authority; path = (components b).path; query = or_else (components r).query (components b).query; fragment = (components r).fragment })
  -- where the path is not the base's own, no segment of it is "." or ".."
  pub dots : (is_some (components r).scheme ≡ true) ⊎ ((is_some (components r).authority ≡ true) ⊎ (is_empty (components r).path ≡ false)) → NoDots (target b r).path
  -- the fragment is the reference's
  pub fragment : (front : List ℕ) × (j ≡ front ++ led (codes "#") (components r).fragment) × Without (codes "#") front
  -- split again, the result has the target's components, unless without an authority a path begins with two slashes
  pub split_again : is_some (target b r).scheme ≡ true → (is_some (target b r).authority ≡ true) ⊎ (after (codes "//") (target b r).path ≡ None) → components j ≡ target b r
  -- the result is longer than base and reference by at most one slash
  pub short : length j ≤ length b + 1 + length r
