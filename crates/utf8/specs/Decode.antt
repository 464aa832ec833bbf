-- The first character of bytes, and the characters of bytes in order, by the rows of the table.
use Rattle.std.specs.Prelude.{◌≡◌, ℕ, zero, suc, pred, ◌+◌, ◌-◌, ◌*◌, ◌%◌, ◌^◌, Bool, true, false, cond, ◌&&◌, List, [], ◌∷◌, ◌++◌, length, take, drop, Some, None, Option}
use Rattle.std.proofs.Math.Utf8.{scalar, encode}
use Rattle.utf8.specs.Table.{within, table, begin}

-- the bytes begin with one in each of these ranges
abbrev pub fits : List (ℕ × ℕ) → List ℕ → Bool
fits [] bs = true
fits (r ∷ rs) [] = false
fits (r ∷ rs) (b ∷ bs) = within r b && fits rs bs

-- the bits of a lead byte that belong to the character, where n bytes follow it: 7, 5, 4 or 3
abbrev pub lead_bits : ℕ → ℕ → ℕ
lead_bits zero b = b
lead_bits (suc n) b = b % 2 ^ (5 - n)

-- bits followed by the low six of each byte
abbrev pub six_each : ℕ → List ℕ → ℕ
six_each c [] = c
six_each c (b ∷ bs) = six_each (c * 64 + b % 64) bs

-- the character that b begins, with how many bytes it takes, where the bytes after b fit the rest of its row
abbrev pub character : ℕ → List ℕ → Option (List (ℕ × ℕ)) → Option (ℕ × ℕ)
character b bs None = None
character b bs (Some rs) = cond (fits rs bs) (Some (six_each (lead_bits (length rs) b) (take (length rs) bs), suc (length rs))) None

-- the first character of the bytes, with how many bytes it takes; none where they are ill-formed at the start, cut short or empty
abbrev pub decoded : List ℕ → Option (ℕ × ℕ)
decoded [] = None
decoded (b ∷ bs) = character b bs (begin table b)

-- how many bytes a character takes, or 0 where there is none
abbrev pub width_of : Option (ℕ × ℕ) → ℕ
width_of None = 0
width_of (Some p) = p.1

-- a width that is not 0
abbrev pub some_width : ℕ → Option ℕ
some_width zero = None
some_width (suc n) = Some (suc n)

-- the bytes begin with the encoding of the Unicode scalar value c, which takes w bytes
pub record Begins (bs : List ℕ) (c w : ℕ) : Type 0 where
  pub is_scalar : scalar c ≡ true
  pub width : w ≡ length (encode c)
  pub front : bs ≡ encode c ++ drop w bs

-- the characters of the bytes after the first n
abbrev pub scalars_past : List ℕ → ℕ → List ℕ
scalars_past [] n = []
scalars_past (b ∷ bs) (suc n) = scalars_past bs n
scalars_past (b ∷ bs) zero = elim (decoded (b ∷ bs)) [ None ↦ [] | Some p ↦ p.0 ∷ scalars_past bs (pred p.1) ]

-- the code points of the bytes in order, up to the first place where no well-formed character begins
abbrev pub scalars_of : List ℕ → List ℕ
scalars_of bs = scalars_past bs 0
