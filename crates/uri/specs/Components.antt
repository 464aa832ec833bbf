-- The five components of an address, as the expression of RFC 3986, Appendix B, gives them:
-- ^(([^:/?#]+):)?(//([^/?#]*))?([^?#]*)(\?([^#]*))?(#(.*))?
use Rattle.std.specs.Prelude.{ℕ, List, [], ◌∷◌, Some, None, codes, Option}
use Rattle.uri.specs.Bytes.{front, rest, after}

-- a component that is not there is None; a path is always there, and may be empty
pub record Parts : Type 0 where
  pub scheme : Option (List ℕ)
  pub authority : Option (List ℕ)
  pub path : List ℕ
  pub query : Option (List ℕ)
  pub fragment : Option (List ℕ)

-- (([^:/?#]+):)?, with what follows: from the longest front, and what follows a colon behind it
abbrev pub named : List ℕ → Option (List ℕ) → List ℕ → Option (List ℕ) × List ℕ
named [] found bs = (None, bs)
named (n ∷ ns) None bs = (None, bs)
named (n ∷ ns) (Some behind) bs = (Some (n ∷ ns), behind)

abbrev pub scheme_cut : List ℕ → Option (List ℕ) × List ℕ
scheme_cut bs = named (front (codes ":/?#") bs) (after (codes ":") (rest (codes ":/?#") bs)) bs

-- (OPEN([^ds]*))?, with what follows: from what follows OPEN, if that is there
abbrev pub opened : List ℕ → Option (List ℕ) → List ℕ → Option (List ℕ) × List ℕ
opened ds None bs = (None, bs)
opened ds (Some inner) bs = (Some (front ds inner), rest ds inner)

-- (//([^/?#]*))?
abbrev pub authority_cut : List ℕ → Option (List ℕ) × List ℕ
authority_cut bs = opened (codes "/?#") (after (codes "//") bs) bs

-- (\?([^#]*))?
abbrev pub query_cut : List ℕ → Option (List ℕ) × List ℕ
query_cut bs = opened (codes "#") (after (codes "?") bs) bs

-- the components one after the other, each from what follows those before it
abbrev pub from_path : Option (List ℕ) → Option (List ℕ) → List ℕ → Parts
from_path s a bs =
    let q = query_cut (rest (codes "?#") bs) in
    record { scheme = s; authority = a; path = front (codes "?#") bs; query = q.0; fragment = after (codes "#") q.1 }

abbrev pub components : List ℕ → Parts
components bs =
    let s = scheme_cut bs in
    let a = authority_cut s.1 in
    from_path s.0 a.0 a.1
