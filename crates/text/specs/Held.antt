-- The bytes of a part of a node, and what a machine makes of characters.
use Rattle.std.specs.Prelude.{ℕ, List, [], ◌∷◌, Some, None, Option}
use Rattle.page.specs.declared.kind.Part.{Part}
use Rattle.page.specs.Forest.{Forest, find, part_of}

abbrev pub bytes_in : Option (List ℕ) → List ℕ
bytes_in None = []
bytes_in (Some bs) = bs

-- the bytes of a part of the node n; none where there is no such part
abbrev pub held : Forest → ℕ → Part → List ℕ
held t n part = bytes_in (part_of (find t n) part)

-- a machine after the characters, one by one
abbrev pub run : {M : Type 0} → (M → ℕ → M) → M → List ℕ → M
run step m [] = m
run step m (c ∷ cs) = run step (step m c) cs
