-- What the code's records of slices mean.
use Rattle.std.specs.Prelude.{ℕ, ◌+◌, Bool, true, false, cond, List, [], ◌∷◌, ◌++◌, length, is_some, Some, None, codes, Option}
use Rattle.std.specs.Option.{option_map}
use Rattle.uri.specs.Bytes.{after}
use Rattle.uri.specs.Components.{Parts}
use Rattle.uri.specs.Dots.{remove_dots}
use Rattle.uri.specs.Resolve.{merge_front, or_else, closed, led}
use Rattle.uri.specs.declared.parse.Components.{Components}
use Rattle.uri.specs.declared.target.Target.{Target}
use Rattle.uri.specs.declared.target.TargetPath.{TargetPath}
use Rattle.uri.specs.declared.target.TargetPath.TheVariants.{Kept, Merged}

-- the components as byte strings
abbrev pub parts : Components → Parts
parts c =
    record {
      scheme = option_map (λ r. r.now) c.scheme;
      authority = option_map (λ r. r.now) c.authority;
      path = c.path.now;
      query = option_map (λ r. r.now) c.query;
      fragment = option_map (λ r. r.now) c.fragment;
    }

-- what stands before a reference's path that is not empty
abbrev pub path_front : Parts → List ℕ → List ℕ
path_front base path = cond (is_some (after (codes "/") path)) [] (merge_front base.authority base.path)

-- a target before its dot segments are removed; a path that is the base's own is kept as it is
pub record Draft : Type 0 where
  pub scheme : Option (List ℕ)
  pub authority : Option (List ℕ)
  pub kept : Bool
  pub path : List ℕ
  pub query : Option (List ℕ)
  pub fragment : Option (List ℕ)

abbrev pub draft_by : Option (List ℕ) → Option (List ℕ) → List ℕ → Parts → Parts → Draft
draft_by (Some s) a p base r = record { scheme = Some s; authority = a; kept = false; path = p; query = r.query; fragment = r.fragment }
draft_by None (Some a) p base r = record { scheme = base.scheme; authority = Some a; kept = false; path = p; query = r.query; fragment = r.fragment }
draft_by None None [] base r = record { scheme = base.scheme; authority = base.authority; kept = true; path = base.path; query = or_else r.query base.query; fragment = r.fragment }
draft_by None None (b ∷ p) base r = record { scheme = base.scheme; authority = base.authority; kept = false; path = path_front base (b ∷ p) ++ (b ∷ p); query = r.query; fragment = r.fragment }

-- section 5.2.2 without the removal of dot segments
abbrev pub draft : Parts → Parts → Draft
draft base r = draft_by r.scheme r.authority r.path base r

abbrev pub cleaned : Bool → List ℕ → List ℕ
cleaned true path = path
cleaned false path = remove_dots path

abbrev pub finished : Draft → Parts
finished d = record { scheme = d.scheme; authority = d.authority; path = cleaned d.kept d.path; query = d.query; fragment = d.fragment }

-- how many bytes are written before dot segments go
abbrev pub room : Draft → ℕ
room d =
    length (closed d.scheme (codes ":"))
    + (length (led (codes "//") d.authority)
    + (length d.path
    + (length (led (codes "?") d.query)
    + length (led (codes "#") d.fragment))))

-- the draft that the code's target is
abbrev pub kept_of : TargetPath → Bool
kept_of (Kept p) = true
kept_of (Merged front path) = false

abbrev pub bytes_of_path : TargetPath → List ℕ
bytes_of_path (Kept p) = p.now
bytes_of_path (Merged front path) = front.now ++ path.now

abbrev pub draft_of : Target → Draft
draft_of t =
    record {
      scheme = option_map (λ r. r.now) t.scheme;
      authority = option_map (λ r. r.now) t.authority;
      kept = kept_of t.path;
      path = bytes_of_path t.path;
      query = option_map (λ r. r.now) t.query;
      fragment = option_map (λ r. r.now) t.fragment;
    }
