-- Which trees fit a stored page.
use Rattle.std.specs.Prelude.{◌≡◌, ℕ, ◌+◌, ◌<◌, ◌≤◌, List, [], ◌∷◌, length, Some}
use Rattle.page.specs.declared.kind.NodeKind.TheVariants.{Document}
use Rattle.page.specs.Forest.{Forest, none, node, kind_of, content_of, size, height_of}
use Rattle.page.specs.Kept.{Kept}
use Rattle.table.specs.Rows.{Numbered}
use Rattle.table.specs.Tabulate.{joined}

-- how many attributes the nodes have together
abbrev pub attr_total : Forest → ℕ
attr_total none = 0
attr_total (node m k c a kids rest) = length a + (attr_total kids + attr_total rest)

-- how many bytes the contents, names and values have together
abbrev pub byte_total : Forest → ℕ
byte_total none = 0
byte_total (node m k c a kids rest) = (length c + length (joined a)) + (byte_total kids + byte_total rest)

-- the lengths of names and values fit two bytes
abbrev pub Narrow : List (List ℕ × List ℕ) → Type 0
Narrow [] = Unit {0}
Narrow (x ∷ xs) = (length x.0 < 65536) × (length x.1 < 65536) × Narrow xs

abbrev pub Widths : Forest → Type 0
Widths none = Unit {0}
Widths (node m k c a kids rest) = Narrow a × Widths kids × Widths rest

pub record Fits (t : Forest) : Type 0 where
  pub law : Kept (size t) t
  pub document : kind_of t ≡ Some Document
  pub empty : content_of t ≡ []
  pub ordered : Numbered 0 t
  pub nodes : size t ≤ 4096
  pub attrs : attr_total t ≤ 8192
  pub bytes : byte_total t ≤ 131072
  pub height : height_of t ≤ 62
  pub widths : Widths t
