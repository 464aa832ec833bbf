-- Items that are put into a list.
use Rattle.std.specs.Prelude.{ℕ, ◌+◌, List, ◌++◌, length, take, drop}

-- a list with others at an offset
abbrev pub put : {A : Type 0} → List A → ℕ → List A → List A
put l at c = take at l ++ (c ++ drop (at + length c) l)
