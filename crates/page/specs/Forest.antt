-- An ordered tree as first child and next sibling: a node, the forest of its children, and the forest of its later siblings.
use Rattle.std.specs.Prelude.{ℕ, suc, ◌+◌, ◌-◌, max, Bool, false, cond, ◌||◌, List, [], ◌∷◌, length, Some, None, Option, ◌==◌}
use Rattle.std.specs.List.{slice_get}
use Rattle.page.specs.declared.kind.Part.{Part}
use Rattle.page.specs.declared.kind.Part.TheVariants.{Content, Name, Value}
use Rattle.page.specs.declared.kind.NodeKind.{NodeKind}
use Rattle.page.specs.Kinds.{if_text}

-- node: number, kind, content, attributes as names with values, children, later siblings
pub data Forest : Type 0 where
  none : Forest
  node : ℕ → NodeKind → List ℕ → List (List ℕ × List ℕ) → Forest → Forest → Forest

-- the first of the two that has a node
abbrev pub or_else : Forest → Forest → Forest
or_else none g = g
or_else (node m k c a kids rest) g = node m k c a kids rest

-- the forest whose first node has the number n, or none
abbrev pub find : Forest → ℕ → Forest
find none n = none
find (node m k c a kids rest) n = cond (m == n) (node m k c a kids rest) (or_else (find kids n) (find rest n))

-- whether n is the number of a node
abbrev pub has : Forest → ℕ → Bool
has none n = false
has (node m k c a kids rest) n = m == n || (has kids n || has rest n)

-- what stands at the first node
abbrev pub head_of : Forest → Option ℕ
head_of none = None
head_of (node m k c a kids rest) = Some m

abbrev pub kind_of : Forest → Option NodeKind
kind_of none = None
kind_of (node m k c a kids rest) = Some k

abbrev pub content_of : Forest → List ℕ
content_of none = []
content_of (node m k c a kids rest) = c

abbrev pub attrs_of : Forest → List (List ℕ × List ℕ)
attrs_of none = []
attrs_of (node m k c a kids rest) = a

abbrev pub count_of : Forest → Option ℕ
count_of none = None
count_of (node m k c a kids rest) = Some (length a)

abbrev pub kids_of : Forest → Forest
kids_of none = none
kids_of (node m k c a kids rest) = kids

abbrev pub rest_of : Forest → Forest
rest_of none = none
rest_of (node m k c a kids rest) = rest

abbrev pub name_in : Option (List ℕ × List ℕ) → Option (List ℕ)
name_in None = None
name_in (Some x) = Some x.0

abbrev pub value_in : Option (List ℕ × List ℕ) → Option (List ℕ)
value_in None = None
value_in (Some x) = Some x.1

abbrev pub part_in : List ℕ → List (List ℕ × List ℕ) → Part → Option (List ℕ)
part_in c a Content = Some c
part_in c a (Name j) = name_in (slice_get a j)
part_in c a (Value j) = value_in (slice_get a j)

-- the bytes of a part of the first node: its content, or the name or the value of an attribute
abbrev pub part_of : Forest → Part → Option (List ℕ)
part_of none p = None
part_of (node m k c a kids rest) p = part_in c a p

abbrev pub length_in : Option (List ℕ) → Option ℕ
length_in None = None
length_in (Some xs) = Some (length xs)

abbrev pub byte_in : Option (List ℕ) → ℕ → Option ℕ
byte_in None i = None
byte_in (Some xs) i = slice_get xs i

abbrev pub or_else_o : Option ℕ → Option ℕ → Option ℕ
or_else_o None p = p
or_else_o (Some n) p = Some n

-- the parent of n in a forest whose first level stands under `up`
abbrev pub parent_in : Option ℕ → Forest → ℕ → Option ℕ
parent_in up none n = None
parent_in up (node m k c a kids rest) n = cond (m == n) up (or_else_o (parent_in (Some m) kids n) (parent_in up rest n))

-- how many nodes
abbrev pub size : Forest → ℕ
size none = 0
size (node m k c a kids rest) = suc (size kids + size rest)

-- how many levels
abbrev pub levels : Forest → ℕ
levels none = 0
levels (node m k c a kids rest) = max (suc (levels kids)) (levels rest)

-- how deep the deepest node of a tree stands, its root standing at depth 0
abbrev pub height_of : Forest → ℕ
height_of t = levels t - 1

-- the bytes of the texts together
abbrev pub texts : Forest → ℕ
texts none = 0
texts (node m k c a kids rest) = if_text k (length c) + (texts kids + texts rest)

-- the forest that begins at a number that was answered, or none
abbrev pub from : Forest → Option ℕ → Forest
from t None = none
from t (Some n) = find t n

-- whether n stands on the first level
abbrev pub among : Forest → ℕ → Bool
among none n = false
among (node m k c a kids rest) n = m == n || among rest n

-- each node of the first level, with what stands under it and behind it
abbrev pub trees : Forest → List Forest
trees none = []
trees (node m k c a kids rest) = node m k c a kids rest ∷ trees rest

-- the node at a front, if there is one, with what stands under it and behind it
abbrev pub tree_or_none : Forest → Option Forest
tree_or_none none = None
tree_or_none (node m k c a kids rest) = Some (node m k c a kids rest)
