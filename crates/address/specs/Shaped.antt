-- The rule for a base, by what its bytes are.
use Rattle.std.specs.Prelude.{◌≡◌, ℕ, ◌≤◌, true, List, [], ◌++◌, length, codes}
use Rattle.std.specs.List.{AllByRecursion}
use Rattle.address.specs.Join.{is_scheme_name}
use Rattle.uri.specs.Segments.{Without}

-- at most 2,000 bytes, each from 33 to 126: a scheme, "://", an authority that is not empty, and a path that begins with a slash
pub record Shaped (bs : List ℕ) : Type 0 where
  pub short : length bs ≤ 2000
  pub visible : AllByRecursion (λ b. (33 ≤ b) × (b ≤ 126)) bs
  pub name : List ℕ
  pub host : List ℕ
  pub more : List ℕ
  pub whole : bs ≡ name ++ (codes "://" ++ (host ++ (codes "/" ++ more)))
  pub is_scheme : is_scheme_name name ≡ true
  pub some_host : host ≡ [] → ⊥
  pub only_host : Without (codes "/?#") host
