-- The classification of elements by their names.
use Rattle.std.specs.Prelude.{ℕ, cond, List, [], ◌∷◌, map, codes}
use Rattle.std.specs.Borrow.{Bor}
use Rattle.utf8.specs.Decode.{scalars_of}
use Rattle.page.specs.declared.kind.NodeKind.{NodeKind}
use Rattle.page.specs.declared.kind.NodeKind.TheVariants.{Document, Doctype, Text, Comment, Element}
use Rattle.page.specs.Forest.{Forest, none, node}
use Rattle.names.specs.declared.tag.Tag.{Tag}
use Rattle.names.specs.declared.tag.Tag.TheVariants.{Anchor, Article, Aside, Blockquote, Br, Canvas, Center, Dd, Div, Dl, Dt, Embed, Footer, Form, H1, Header, Img, Input, Li, Link, Meta, Noscript, Object, Ol, P, Pre, Script, Section, Style, Table, Th, Title, Ul, Other}
use Rattle.names.specs.Names.{lowered, same}

-- the names that the rules tell apart
abbrev pub names : List (List ℕ × Tag)
names =
    (codes "a", Anchor)
    ∷ (codes "article", Article)
    ∷ (codes "aside", Aside)
    ∷ (codes "blockquote", Blockquote)
    ∷ (codes "br", Br)
    ∷ (codes "canvas", Canvas)
    ∷ (codes "center", Center)
    ∷ (codes "dd", Dd)
    ∷ (codes "div", Div)
    ∷ (codes "dl", Dl)
    ∷ (codes "dt", Dt)
    ∷ (codes "embed", Embed)
    ∷ (codes "footer", Footer)
    ∷ (codes "form", Form)
    ∷ (codes "h1", H1)
    ∷ (codes "header", Header)
    ∷ (codes "img", Img)
    ∷ (codes "input", Input)
    ∷ (codes "li", Li)
    ∷ (codes "link", Link)
    ∷ (codes "meta", Meta)
    ∷ (codes "noscript", Noscript)
    ∷ (codes "object", Object)
    ∷ (codes "ol", Ol)
    ∷ (codes "p", P)
    ∷ (codes "pre", Pre)
    ∷ (codes "script", Script)
    ∷ (codes "section", Section)
    ∷ (codes "style", Style)
    ∷ (codes "table", Table)
    ∷ (codes "th", Th)
    ∷ (codes "title", Title)
    ∷ (codes "ul", Ul)
    ∷ []

-- the tag that stands beside a name, or Other
abbrev pub sought : List (List ℕ × Tag) → List ℕ → Tag
sought [] w = Other
sought (x ∷ xs) w = cond (same x.0 w) x.1 (sought xs w)

-- an entry of the code's table
abbrev pub entry : Bor (List ℕ) × Tag → List ℕ × Tag
entry e = (e.0.now, e.1)

-- the tag of a name in bytes
unfoldable pub named : List ℕ → Tag
named bs = sought names (map lowered (scalars_of bs))

abbrev pub classed : NodeKind → List ℕ → Tag
classed Document c = Other
classed Doctype c = Other
classed Text c = Other
classed Comment c = Other
classed Element c = named c

-- the tag of the first node: by its name for an element, else Other
abbrev pub tag_of : Forest → Tag
tag_of none = Other
tag_of (node m k c a kids rest) = classed k c
