-- The figures of the elements of a page, a line each, in document order.
use Rattle.std.specs.Prelude.{ℕ, Bool, true, false, List, [], ◌++◌, map, ℤ, codes, decimal}
use Rattle.std.proofs.Math.Utf8.{encodes}
use Rattle.std.specs.Fmt.{signed_decimal}
use Rattle.utf8.specs.Decode.{scalars_of}
use Rattle.page.specs.declared.kind.NodeKind.{NodeKind}
use Rattle.page.specs.declared.kind.NodeKind.TheVariants.{Document, Doctype, Text, Comment, Element}
use Rattle.page.specs.Forest.{Forest, none, node}
use Rattle.render.specs.Render.{quoted}
use Rattle.names.specs.Names.{lowered}
use Rattle.dom.specs.Deep.{text_length, link_length}
use Rattle.scorer.specs.Content.{qualifies_in, content_score}
use Rattle.scorer.specs.Weight.{class_weight}

-- a name in bytes, lowered
abbrev pub lowered_name : List ℕ → List ℕ
lowered_name bs = encodes (map lowered (scalars_of bs))

-- the number of an element and its quoted name
abbrev pub numbered : ℕ → List ℕ → List ℕ
numbered n c = (decimal n ++ codes " ") ++ quoted (lowered_name c)

-- T, L, W, and whether the element qualifies, with its content score if it does
abbrev pub figures_text : ℕ → ℕ → ℤ → Bool → ℕ → List ℕ
figures_text t l w true s = codes " " ++ (decimal t ++ (codes " " ++ (decimal l ++ (codes " " ++ (signed_decimal w ++ (codes " yes " ++ (decimal s ++ codes "\n")))))))
figures_text t l w false s = codes " " ++ (decimal t ++ (codes " " ++ (decimal l ++ (codes " " ++ (signed_decimal w ++ codes " no -\n")))))

-- what only an element has
abbrev pub if_element : NodeKind → List ℕ → List ℕ
if_element Document l = []
if_element Doctype l = []
if_element Text l = []
if_element Comment l = []
if_element Element l = l

-- the line of the first node, if it is an element
abbrev pub element_line : Forest → List ℕ
element_line none = []
element_line (node m k c a kids rest) =
    if_element k (numbered m c ++ figures_text (text_length kids) (link_length kids) (class_weight a) (qualifies_in (node m k c a kids rest)) (content_score (node m k c a kids rest)))

-- the lines of all elements, in document order
abbrev pub point_lines : Forest → List ℕ
point_lines none = []
point_lines (node m k c a kids rest) = element_line (node m k c a kids rest) ++ (point_lines kids ++ point_lines rest)
