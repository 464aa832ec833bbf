-- Tags compared.
use Rattle.std.specs.Prelude.{ℕ, Bool, false, ◌||◌, List, [], ◌∷◌, ◌==◌}
use Rattle.names.specs.declared.tag.Tag.{Tag}
use Rattle.names.specs.declared.tag.Tag.TheVariants.{Anchor, Article, Aside, Blockquote, Br, Canvas, Center, Dd, Div, Dl, Dt, Embed, Footer, Form, H1, Header, Img, Input, Li, Link, Meta, Noscript, Object, Ol, P, Pre, Script, Section, Style, Table, Th, Title, Ul, Other}

-- the tags by number
abbrev pub code : Tag → ℕ
code Anchor = 0
code Article = 1
code Aside = 2
code Blockquote = 3
code Br = 4
code Canvas = 5
code Center = 6
code Dd = 7
code Div = 8
code Dl = 9
code Dt = 10
code Embed = 11
code Footer = 12
code Form = 13
code H1 = 14
code Header = 15
code Img = 16
code Input = 17
code Li = 18
code Link = 19
code Meta = 20
code Noscript = 21
code Object = 22
code Ol = 23
code P = 24
code Pre = 25
code Script = 26
code Section = 27
code Style = 28
code Table = 29
code Th = 30
code Title = 31
code Ul = 32
code Other = 33

-- whether two tags are the same
abbrev pub is : Tag → Tag → Bool
is t u = code t == code u

-- whether a tag stands in a list
abbrev pub among : List Tag → Tag → Bool
among [] t = false
among (u ∷ us) t = is u t || among us t
