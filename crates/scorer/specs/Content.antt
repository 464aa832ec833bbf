-- Qualifying, and the content score.
use Rattle.std.specs.Prelude.{◌≡◌, ℕ, ◌+◌, ◌/◌, ◌≤◌, min, Bool, not, ◌&&◌, ◌||◌, List, [], ◌∷◌, length, nat_le}
use Rattle.utf8.specs.Decode.{scalars_of}
use Rattle.page.specs.Forest.{Forest, kids_of}
use Rattle.text.specs.declared.marks.State.TheVariants.{Plain}
use Rattle.text.specs.Trimming.{plus}
use Rattle.text.specs.Marks.{hits, Matches}
use Rattle.names.specs.declared.tag.Tag.{Tag}
use Rattle.names.specs.declared.tag.Tag.TheVariants.{P, Div, Article, Center, Section}
use Rattle.names.specs.Tags.{tag_of}
use Rattle.names.specs.Is.{is, among}
use Rattle.dom.specs.declared.under.Under.{Under}
use Rattle.dom.specs.Deep.{deep}
use Rattle.dom.specs.Under.{under_of}

-- whether a node of this tag qualifies over these figures: T is at least 20, and the tag is p, or is div, article, center
-- or section without an element below that makes a block of it
abbrev pub qualifies_by : Tag → Under → Bool
qualifies_by t u = nat_le 20 u.text && (is P t || (among (Div ∷ Article ∷ Center ∷ Section ∷ []) t && not u.block))

-- whether the first node of a forest qualifies
abbrev pub qualifies_in : Forest → Bool
qualifies_in f = qualifies_by (tag_of f) (under_of (kids_of f))

-- one, the punctuation, and the characters by hundreds, at most three of them; a sum that stays at the largest number
abbrev pub score_by : Under → ℕ
score_by u = plus (plus u.marks.plain.count 1) (min (u.chars / 100) 3)

-- the content score of characters: one, the punctuation, and the characters by hundreds, at most three of them
abbrev pub score_of : List ℕ → ℕ
score_of cs = 1 + (hits Plain cs + min (length cs / 100) 3)

-- the content score of the first node: that of the deep text under it
abbrev pub content_score : Forest → ℕ
content_score f = score_of (scalars_of (deep (kids_of f)))

-- a content score counts the matches of the pattern in the characters, taken leftmost and not overlapping
pub record Scored (cs : List ℕ) (r : ℕ) : Type 0 where
  pub marks : ℕ
  pub matched : Matches cs marks
  pub only : (k : ℕ) → Matches cs k → k ≡ marks
  pub few : marks ≤ length cs
  pub sum : r ≡ 1 + (marks + min (length cs / 100) 3)
