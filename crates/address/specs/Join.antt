-- Bases, joining, and the value as it is written.
use Rattle.std.specs.Prelude.{ℕ, Bool, false, cond, not, ◌&&◌, ◌||◌, List, [], ◌∷◌, length, is_some, Some, None, codes, Option, nat_le}
use Rattle.std.specs.List.{list_all}
use Rattle.std.specs.Option.{unwrap_or}
use Rattle.uri.specs.Bytes.{among, after}
use Rattle.uri.specs.Components.{Parts, components}
use Rattle.uri.specs.Resolve.{resolved, is_empty}

-- a byte from 33 to 126
abbrev pub visible : ℕ → Bool
visible b = nat_le 33 b && nat_le b 126

-- the scheme of RFC 3986, section 3.1: a letter, then letters, digits, "+", "-" and "."
abbrev pub letter : ℕ → Bool
letter b = (nat_le 65 b && nat_le b 90) || (nat_le 97 b && nat_le b 122)

abbrev pub scheme_byte : ℕ → Bool
scheme_byte b = letter b || ((nat_le 48 b && nat_le b 57) || among (codes "+-.") b)

abbrev pub is_scheme_name : List ℕ → Bool
is_scheme_name [] = false
is_scheme_name (b ∷ bs) = letter b && list_all scheme_byte bs

abbrev pub is_scheme : Option (List ℕ) → Bool
is_scheme None = false
is_scheme (Some name) = is_scheme_name name

abbrev pub is_authority : Option (List ℕ) → Bool
is_authority None = false
is_authority (Some a) = not (is_empty a)

-- a base: at most 2,000 bytes from 33 to 126, with a scheme, an authority that is not empty, and a path that begins with a slash
abbrev pub shaped : Parts → Bool
shaped p = is_scheme p.scheme && (is_authority p.authority && is_some (after (codes "/") p.path))

abbrev pub is_base : List ℕ → Bool
is_base bs = nat_le (length bs) 2000 && (list_all visible bs && shaped (components bs))

-- a reference that can be joined: at most 2,048 bytes from 33 to 126
abbrev pub joinable : List ℕ → Bool
joinable r = nat_le (length r) 2048 && list_all visible r

-- joining gives nothing for any other
abbrev pub joined : List ℕ → List ℕ → Option (List ℕ)
joined base r = cond (joinable r) (Some (resolved base r)) None

-- a value that begins so is not joined
abbrev pub stays_as_is : List ℕ → Bool
stays_as_is v = is_some (after (codes "//") v) || (is_some (after (codes "http://") v) || is_some (after (codes "https://") v))

-- a value as it is written: as it is, or joined where joining gives something
abbrev pub written : List ℕ → List ℕ → List ℕ
written base v = cond (stays_as_is v) v (unwrap_or (joined base v) v)
