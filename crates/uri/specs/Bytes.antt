-- Fronts of byte strings.
use Rattle.std.specs.Prelude.{ℕ, Bool, false, cond, ◌||◌, List, [], ◌∷◌, Some, None, Option, ◌==◌}

-- whether b is one of the bytes ds
abbrev pub among : List ℕ → ℕ → Bool
among [] b = false
among (d ∷ ds) b = b == d || among ds b

-- the longest front without any of the bytes ds, the expression [^ds]*
abbrev pub front : List ℕ → List ℕ → List ℕ
front ds [] = []
front ds (b ∷ bs) = cond (among ds b) [] (b ∷ front ds bs)

-- what follows that front
abbrev pub rest : List ℕ → List ℕ → List ℕ
rest ds [] = []
rest ds (b ∷ bs) = cond (among ds b) (b ∷ bs) (rest ds bs)

-- what follows the front p, where bs begins with p
abbrev pub after : List ℕ → List ℕ → Option (List ℕ)
after [] bs = Some bs
after (p ∷ ps) [] = None
after (p ∷ ps) (b ∷ bs) = cond (b == p) (after ps bs) None
