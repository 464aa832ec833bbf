-- The weight of an id and a class, and the points that a candidate starts with.
use Rattle.std.specs.Prelude.{ℕ, Bool, cond, List, [], ◌∷◌, ℤ, pos, negsuc, ◌+ℤ◌, Some, None, codes, Option}
use Rattle.page.specs.Forest.{Forest, attrs_of}
use Rattle.names.specs.declared.tag.Tag.{Tag}
use Rattle.names.specs.declared.tag.Tag.TheVariants.{Article, Div, Th, Blockquote, Form}
use Rattle.names.specs.Tags.{tag_of}
use Rattle.names.specs.Is.{is, among}
use Rattle.names.specs.Attrs.{value_of}
use Rattle.names.specs.Words.{has_word, positive, negative}

-- 25 for a positive word, less 25 for a negative one
abbrev pub gain : Bool → Bool → ℤ
gain good bad = cond good (pos 25) (pos 0) +ℤ cond bad (negsuc 24) (pos 0)

-- the weight of a value, if there is one
abbrev pub value_weight : Option (List ℕ) → ℤ
value_weight None = pos 0
value_weight (Some v) = gain (has_word positive v) (has_word negative v)

-- W: the weights of the first id and of the first class
abbrev pub class_weight : List (List ℕ × List ℕ) → ℤ
class_weight a = value_weight (value_of a (codes "id")) +ℤ value_weight (value_of a (codes "class"))

-- the points of a tag
abbrev pub tag_points : Tag → ℤ
tag_points t =
    cond (is Article t) (pos 10) (cond (among (Div ∷ Th ∷ []) t) (pos 5) (cond (is Blockquote t) (pos 3) (cond (is Form t) (negsuc 2) (pos 0))))

-- the points that the first node starts with: those of its tag, and its weight
abbrev pub starting_points : Forest → ℤ
starting_points f = tag_points (tag_of f) +ℤ class_weight (attrs_of f)
