-- The segments of a path.
use Rattle.std.specs.Prelude.{◌≡◌, ℕ, false, cond, List, [], ◌∷◌, codes, ◌==◌, ◌≢◌}
use Rattle.std.specs.List.{AllByRecursion}
use Rattle.uri.specs.Bytes.{among}

-- a byte at the front of the first segment
abbrev pub longer : ℕ → List (List ℕ) → List (List ℕ)
longer b [] = (b ∷ []) ∷ []
longer b (s ∷ ss) = (b ∷ s) ∷ ss

-- what stands before, between and behind the slashes of a path
abbrev pub segments : List ℕ → List (List ℕ)
segments [] = [] ∷ []
segments (b ∷ bs) = cond (b == 47) ([] ∷ segments bs) (longer b (segments bs))

abbrev pub NotDots : List ℕ → Type 0
NotDots s = (s ≢ codes ".") × (s ≢ codes "..")

-- no segment is "." or ".."
abbrev pub NoDots : List ℕ → Type 0
NoDots path = AllByRecursion NotDots (segments path)

-- none of the bytes ds
abbrev pub Without : List ℕ → List ℕ → Type 0
Without ds bs = AllByRecursion (λ b. among ds b ≡ false) bs
