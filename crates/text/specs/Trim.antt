-- Trimming, on the characters of a text.
use Rattle.std.specs.Prelude.{ℕ, ◌+◌, Bool, true, false, cond, List, [], ◌∷◌}
use Rattle.std.specs.Char.{len_utf8}
use Rattle.text.specs.Space.{space}

-- a text less the White_Space at its front
abbrev pub trim_front : List ℕ → List ℕ
trim_front [] = []
trim_front (c ∷ cs) = cond (space c) (trim_front cs) (c ∷ cs)

-- c before a text that has no White_Space at its end
abbrev pub before : ℕ → List ℕ → List ℕ
before c [] = cond (space c) [] (c ∷ [])
before c (d ∷ ds) = c ∷ d ∷ ds

-- a text less the White_Space at its end
abbrev pub trim_end : List ℕ → List ℕ
trim_end [] = []
trim_end (c ∷ cs) = before c (trim_end cs)

-- a text less the White_Space at its ends
abbrev pub trim : List ℕ → List ℕ
trim cs = trim_end (trim_front cs)

abbrev pub is_nil : List ℕ → Bool
is_nil [] = true
is_nil (c ∷ cs) = false

-- nothing is left of a blank text
abbrev pub blank : List ℕ → Bool
blank cs = is_nil (trim cs)

-- a figure of each character, summed
abbrev pub total : (ℕ → ℕ) → List ℕ → ℕ
total f [] = 0
total f (c ∷ cs) = f c + total f cs

-- what a character adds to a length
unfoldable pub weight : ℕ → ℕ
weight c = 1

-- the length of the trimmed text
abbrev pub trimmed_length : List ℕ → ℕ
trimmed_length cs = total weight (trim cs)

-- the bytes of the trimmed text, in UTF-8
abbrev pub trimmed_bytes : List ℕ → ℕ
trimmed_bytes cs = total len_utf8 (trim cs)
