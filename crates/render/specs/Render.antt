-- The text of a page: a header with its counts, then a line for each node in document order.
use Rattle.std.specs.Prelude.{ℕ, suc, ◌*◌, ◌/◌, ◌%◌, cond, ◌||◌, List, [], ◌∷◌, ◌++◌, replicate, codes, decimal, ◌==◌, nat_lt}
use Rattle.std.specs.Char.{digit_char}
use Rattle.page.specs.declared.kind.NodeKind.{NodeKind}
use Rattle.page.specs.declared.kind.NodeKind.TheVariants.{Document, Doctype, Text, Comment, Element}
use Rattle.page.specs.Forest.{Forest, none, node, size}
use Rattle.table.specs.Fits.{attr_total, byte_total}

-- a byte in quotes: a backslash before a quote and a backslash, \xHH for control characters, else the byte itself
abbrev pub escape : ℕ → List ℕ
escape b =
    cond (b == 34 || b == 92) (92 ∷ b ∷ [])
    (cond (nat_lt b 32 || b == 127) (92 ∷ 120 ∷ digit_char (b / 16) ∷ digit_char (b % 16) ∷ []) (b ∷ []))

abbrev pub escaped : List ℕ → List ℕ
escaped [] = []
escaped (b ∷ bs) = escape b ++ escaped bs

abbrev pub quoted : List ℕ → List ℕ
quoted bs = 34 ∷ (escaped bs ++ (34 ∷ []))

-- the word of a kind
abbrev pub word : NodeKind → List ℕ
word Document = codes "document"
word Doctype = codes "doctype"
word Text = codes "text"
word Comment = codes "comment"
word Element = codes "element"

-- the content of all but the document: a space and the quoted bytes
abbrev pub content_text : NodeKind → List ℕ → List ℕ
content_text Document c = []
content_text Doctype c = 32 ∷ quoted c
content_text Text c = 32 ∷ quoted c
content_text Comment c = 32 ∷ quoted c
content_text Element c = 32 ∷ quoted c

-- an attribute: a space, the quoted name, =, the quoted value
abbrev pub attr_text : List ℕ × List ℕ → List ℕ
attr_text a = 32 ∷ (quoted a.0 ++ (61 ∷ quoted a.1))

abbrev pub attrs_text : List (List ℕ × List ℕ) → List ℕ
attrs_text [] = []
attrs_text (a ∷ more) = attr_text a ++ attrs_text more

-- a node at depth d, indented by two spaces a depth
abbrev pub line : ℕ → NodeKind → List ℕ → List (List ℕ × List ℕ) → List ℕ
line d k c a = replicate (2 * d) 32 ++ (word k ++ (content_text k c ++ (attrs_text a ++ (10 ∷ []))))

abbrev pub lines : ℕ → Forest → List ℕ
lines d none = []
lines d (node m k c a kids rest) = line d k c a ++ (lines (suc d) kids ++ lines d rest)

-- how many nodes, attributes and bytes
abbrev pub header : ℕ → ℕ → ℕ → List ℕ
header n a b = codes "# " ++ (decimal n ++ (codes " nodes, " ++ (decimal a ++ (codes " attributes, " ++ (decimal b ++ codes " bytes\n")))))

abbrev pub render : Forest → List ℕ
render t = header (size t) (attr_total t) (byte_total t) ++ lines 0 t
