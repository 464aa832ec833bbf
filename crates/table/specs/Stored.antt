-- Where the parts of nodes lie among the bytes.
use Rattle.std.specs.Prelude.{◌≡◌, ℕ, length, Some}
use Rattle.page.specs.declared.kind.Part.{Part}
use Rattle.page.specs.Forest.{find, part_of}
use Rattle.table.specs.Table.{Table, part, tree_of}

-- the part p of the node n is the len bytes from start on, which are all there
pub record Lies (t : Table) (n : ℕ) (p : Part) (start len : ℕ) : Type 0 where
  pub bytes : part_of (find (tree_of t) n) p ≡ Some (part t start len)
  pub long : length (part t start len) ≡ len
