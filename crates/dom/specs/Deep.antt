-- What stands in a forest: its texts, their lengths, and its elements.
use Rattle.std.specs.Prelude.{ℕ, ◌+◌, Bool, false, cond, ◌||◌, List, [], ◌∷◌, ◌++◌, nat_le}
use Rattle.utf8.specs.Decode.{scalars_of}
use Rattle.page.specs.declared.kind.NodeKind.{NodeKind}
use Rattle.page.specs.declared.kind.NodeKind.TheVariants.{Document, Doctype, Text, Comment, Element}
use Rattle.page.specs.Kinds.{if_text}
use Rattle.page.specs.Forest.{Forest, none, node}
use Rattle.text.specs.Trim.{trimmed_length, trimmed_bytes}
use Rattle.text.specs.Marks.{bit}
use Rattle.names.specs.declared.tag.Tag.{Tag}
use Rattle.names.specs.declared.tag.Tag.TheVariants.{Anchor, Blockquote, Dl, Div, Img, Ol, P, Pre, Table, Ul}
use Rattle.names.specs.Tags.{classed}
use Rattle.names.specs.Is.{is, among}

-- the content of a text; nothing of any other node
abbrev pub text_of : NodeKind → List ℕ → List ℕ
text_of Document c = []
text_of Doctype c = []
text_of Text c = c
text_of Comment c = []
text_of Element c = []

-- deep text: all texts joined in document order, untrimmed
abbrev pub deep : Forest → List ℕ
deep none = []
deep (node m k c a kids rest) = text_of k c ++ (deep kids ++ deep rest)

-- the characters of all texts, in document order
abbrev pub deep_chars : Forest → List ℕ
deep_chars none = []
deep_chars (node m k c a kids rest) = scalars_of (text_of k c) ++ (deep_chars kids ++ deep_chars rest)

-- T: the trimmed lengths of all texts, summed
abbrev pub text_length : Forest → ℕ
text_length none = 0
text_length (node m k c a kids rest) = if_text k (trimmed_length (scalars_of c)) + (text_length kids + text_length rest)

-- L: T summed over every a element, nested ones again
abbrev pub link_length : Forest → ℕ
link_length none = 0
link_length (node m k c a kids rest) = cond (is Anchor (classed k c)) (text_length kids) 0 + (link_length kids + link_length rest)

-- how many elements have a tag
abbrev pub count_tag : Tag → Forest → ℕ
count_tag u none = 0
count_tag u (node m k c a kids rest) = bit (is u (classed k c)) + (count_tag u kids + count_tag u rest)

-- whether some element's tag stands in a list
abbrev pub some_tag : List Tag → Forest → Bool
some_tag us none = false
some_tag us (node m k c a kids rest) = among us (classed k c) || (some_tag us kids || some_tag us rest)

-- the elements that make a block of what is around them
abbrev pub block_tags : List Tag
block_tags = Anchor ∷ Blockquote ∷ Dl ∷ Div ∷ Img ∷ Ol ∷ P ∷ Pre ∷ Table ∷ Ul ∷ []

-- texts on the first level of at least 20 trimmed bytes
abbrev pub long_texts : Forest → ℕ
long_texts none = 0
long_texts (node m k c a kids rest) = if_text k (bit (nat_le 20 (trimmed_bytes (scalars_of c)))) + long_texts rest
