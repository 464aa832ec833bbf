-- Attributes by their names.
use Rattle.std.specs.Prelude.{◌≡◌, ℕ, suc, ◌<◌, cond, List, [], ◌∷◌, length, Some, None, Option, ◌≢◌, slice_index_or}
use Rattle.std.specs.Option.{option_map}
use Rattle.names.specs.Names.{same}

-- which attribute is the first of a name
abbrev pub first_index : List (List ℕ × List ℕ) → List ℕ → Option ℕ
first_index [] w = None
first_index (x ∷ xs) w = cond (same w x.0) (Some 0) (option_map suc (first_index xs w))

-- the value of the first attribute of a name
abbrev pub value_of : List (List ℕ × List ℕ) → List ℕ → Option (List ℕ)
value_of [] w = None
value_of (x ∷ xs) w = cond (same w x.0) (Some x.1) (value_of xs w)

-- the attribute at an index has the name, and none before it; or none has it
abbrev pub First : List (List ℕ × List ℕ) → List ℕ → Option ℕ → Type 0
First a w None = (k : ℕ) → k < length a → (slice_index_or a k ([], [])).0 ≢ w
First a w (Some j) = (j < length a) × ((slice_index_or a j ([], [])).0 ≡ w) × ((k : ℕ) → k < j → (slice_index_or a k ([], [])).0 ≢ w)
