-- Names, and how they are compared.
use Rattle.std.specs.Prelude.{ℕ, ◌+◌, Bool, true, false, cond, ◌&&◌, List, [], ◌∷◌, ◌==◌, nat_le}

-- A to Z as a to z, the Kelvin sign U+212A as k, and any other character as it is
abbrev pub lowered : ℕ → ℕ
lowered c = cond (nat_le 65 c && nat_le c 90) (c + 32) (cond (c == 8490) 107 c)

-- whether two texts are the same
abbrev pub same : List ℕ → List ℕ → Bool
same [] [] = true
same [] (d ∷ ds) = false
same (c ∷ cs) [] = false
same (c ∷ cs) (d ∷ ds) = c == d && same cs ds
