-- The parts and the line of a node that was found.
use Rattle.std.specs.Prelude.{ℕ, List, [], Some, None, Option}
use Rattle.page.specs.declared.kind.Part.{Part}
use Rattle.page.specs.Forest.{Forest, none, node, part_of}
use Rattle.render.specs.Render.{content_text, line}

-- the bytes of a part of the first node, none where it has no such part
abbrev pub bytes_in : Option (List ℕ) → List ℕ
bytes_in None = []
bytes_in (Some bs) = bs

abbrev pub part_bytes : Forest → Part → List ℕ
part_bytes f p = bytes_in (part_of f p)

-- the content of the first node in its line
abbrev pub content_in : Forest → List ℕ
content_in none = []
content_in (node m k c a kids rest) = content_text k c

-- the line of the first node at depth d
abbrev pub line_of : ℕ → Forest → List ℕ
line_of d none = []
line_of d (node m k c a kids rest) = line d k c a
