-- The kinds of nodes: their codes, and which may be the root, have attributes or have children.
use Rattle.std.specs.Prelude.{ℕ, Bool, true, false, cond, Some, None, Option, ◌==◌}
use Rattle.page.specs.declared.kind.NodeKind.{NodeKind}
use Rattle.page.specs.declared.kind.NodeKind.TheVariants.{Document, Doctype, Text, Comment, Element}

-- the number of a kind in files and records
abbrev pub code : NodeKind → ℕ
code Document = 0
code Doctype = 1
code Text = 2
code Comment = 3
code Element = 4

-- the kind that has a code
abbrev pub coded : ℕ → Option NodeKind
coded k =
    cond (k == 0) (Some Document) (cond (k == 1) (Some Doctype) (cond (k == 2) (Some Text) (cond (k == 3) (Some Comment) (cond (k == 4) (Some Element) None))))

abbrev pub is_document : NodeKind → Bool
is_document Document = true
is_document Doctype = false
is_document Text = false
is_document Comment = false
is_document Element = false

abbrev pub is_element : NodeKind → Bool
is_element Document = false
is_element Doctype = false
is_element Text = false
is_element Comment = false
is_element Element = true

-- n for a text, nothing for any other kind
abbrev pub if_text : NodeKind → ℕ → ℕ
if_text Document n = 0
if_text Doctype n = 0
if_text Text n = n
if_text Comment n = 0
if_text Element n = 0
