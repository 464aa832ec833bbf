-- Well-formed UTF-8, by Unicode's Table 3-7.
use Rattle.std.specs.Prelude.{ℕ, suc, Bool, true, false, cond, ◌&&◌, List, [], ◌∷◌, length, Some, None, Option, nat_le}

-- b lies in the range r
abbrev pub within : ℕ × ℕ → ℕ → Bool
within r b = nat_le r.0 b && nat_le b r.1

-- the range of a byte behind the lead byte, where its row does not narrow it
abbrev pub tail : ℕ × ℕ
tail = (128, 191)

-- a row for each range of lead bytes, with the ranges of the bytes behind it
abbrev pub table : List (List (ℕ × ℕ))
table =
    ((0, 127) ∷ [])
    ∷ ((194, 223) ∷ tail ∷ [])
    ∷ ((224, 224) ∷ (160, 191) ∷ tail ∷ [])
    ∷ ((225, 236) ∷ tail ∷ tail ∷ [])
    ∷ ((237, 237) ∷ (128, 159) ∷ tail ∷ [])
    ∷ ((238, 239) ∷ tail ∷ tail ∷ [])
    ∷ ((240, 240) ∷ (144, 191) ∷ tail ∷ tail ∷ [])
    ∷ ((241, 243) ∷ tail ∷ tail ∷ tail ∷ [])
    ∷ ((244, 244) ∷ (128, 143) ∷ tail ∷ tail ∷ [])
    ∷ []

-- what is left of the row that b begins
abbrev pub begin : List (List (ℕ × ℕ)) → ℕ → Option (List (ℕ × ℕ))
begin [] b = None
begin ([] ∷ rows) b = begin rows b
begin ((r ∷ rest) ∷ rows) b = cond (within r b) (Some rest) (begin rows b)

-- bytes that end the row begun, and then are rows
abbrev pub follows : Option (List (ℕ × ℕ)) → List ℕ → Bool
follows None bs = false
follows (Some []) [] = true
follows (Some (r ∷ rs)) [] = false
follows (Some []) (b ∷ bs) = follows (begin table b) bs
follows (Some (r ∷ rs)) (b ∷ bs) = within r b && follows (Some rs) bs

-- every byte belongs to a row that is there whole
abbrev pub well_formed : List ℕ → Bool
well_formed bs = follows (Some []) bs

-- how many bytes a character takes that begins with b and c, or 0 if none does
abbrev pub counted : Option (List (ℕ × ℕ)) → ℕ → ℕ
counted None c = 0
counted (Some []) c = 1
counted (Some (r ∷ rs)) c = cond (within r c) (suc (suc (length rs))) 0
