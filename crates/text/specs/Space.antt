-- White_Space: the table of its characters.
use Rattle.std.specs.Prelude.{ℕ, Bool, false, ◌||◌, List, [], ◌∷◌, ◌==◌}

-- the White_Space characters of Unicode, in order
abbrev pub spaces : List ℕ
spaces =
    9 ∷ 10 ∷ 11 ∷ 12 ∷ 13 ∷ 32 ∷ 133 ∷ 160 ∷ 5760 ∷ 8192 ∷ 8193 ∷ 8194 ∷ 8195 ∷ 8196 ∷ 8197 ∷ 8198 ∷ 8199 ∷ 8200 ∷ 8201 ∷ 8202 ∷ 8232 ∷ 8233 ∷ 8239 ∷ 8287 ∷ 12288 ∷ []

-- whether c stands in a list
abbrev pub listed : List ℕ → ℕ → Bool
listed [] c = false
listed (s ∷ ss) c = s == c || listed ss c

-- whether c is White_Space
unfoldable pub space : ℕ → Bool
space c = listed spaces c
