-- A tree as its nodes in document order with their depths.
use Rattle.std.specs.Prelude.{◌≡◌, ℕ, suc, ◌+◌, Bool, true, false, cond, not, ◌&&◌, ◌||◌, List, [], ◌∷◌, ◌++◌, length, ◌==◌, nat_le, nat_lt}
use Rattle.page.specs.declared.kind.NodeKind.{NodeKind}
use Rattle.page.specs.declared.kind.NodeKind.TheVariants.{Document, Doctype, Text, Comment, Element}
use Rattle.page.specs.Kinds.{is_element, is_document, if_text}
use Rattle.page.specs.Kept.{AttrsFormed}
use Rattle.utf8.specs.Table.{well_formed}
use Rattle.page.specs.Forest.{Forest, none, node, size}

pub record Row : Type 0 where
  pub kind : NodeKind
  pub depth : ℕ
  pub content : List ℕ
  pub attrs : List (List ℕ × List ℕ)

-- the rows of a forest whose first level stands at depth d
abbrev pub flatten : ℕ → Forest → List Row
flatten d none = []
flatten d (node m k c a kids rest) = record { kind = k; depth = d; content = c; attrs = a } ∷ (flatten (suc d) kids ++ flatten d rest)

-- the forest of the rows at depth d, numbered from i on: deeper rows stand under an earlier one, a less deep one ends it
abbrev pub parse : ℕ → ℕ → List Row → Forest
parse i d [] = none
parse i d (x ∷ xs) =
    cond (x.depth == d) (node i x.kind x.content x.attrs (parse (suc i) (suc d) xs) (parse (suc i) d xs))
    (cond (nat_lt d x.depth) (parse (suc i) d xs) none)

-- documents and elements have children
abbrev pub is_parent : NodeKind → Bool
is_parent Document = true
is_parent Doctype = false
is_parent Text = false
is_parent Comment = false
is_parent Element = true

-- how deep the row right after x may stand
abbrev pub reach : Row → ℕ
reach x = cond (is_parent x.kind) (suc x.depth) x.depth

abbrev pub empty : {X : Type 0} → List X → Bool
empty [] = true
empty (x ∷ xs) = false

-- attributes on elements only
abbrev pub bare : Row → Bool
bare x = is_element x.kind || empty x.attrs

-- rows below the first, the next one standing at most at depth m
abbrev pub steps : ℕ → List Row → Bool
steps m [] = true
steps m (x ∷ xs) = (nat_le 1 x.depth && (nat_le x.depth m && (nat_le x.depth 62 && (not (is_document x.kind) && bare x)))) && steps (reach x) xs

-- the bytes of the texts
abbrev pub total : List Row → ℕ
total [] = 0
total (x ∷ xs) = if_text x.kind (length x.content) + total xs

-- rows of a stored page
abbrev pub formed : List Row → Bool
formed [] = false
formed (x ∷ xs) = (x.depth == 0 && (is_document x.kind && (bare x && (nat_le (suc (length xs)) 4096 && nat_le (total (x ∷ xs)) 131072)))) && steps (reach x) xs

-- every content, name and value is well-formed
abbrev pub RowsFormed : List Row → Type 0
RowsFormed [] = Unit {0}
RowsFormed (x ∷ xs) = (well_formed x.content ≡ true) × AttrsFormed x.attrs × RowsFormed xs

-- the row past the end
abbrev pub blank : Row
blank = record { kind = Document; depth = 0; content = []; attrs = [] }

-- the numbers run in document order, from i on
abbrev pub Numbered : ℕ → Forest → Type 0
Numbered i none = Unit {0}
Numbered i (node m k c a kids rest) = (m ≡ i) × Numbered (suc i) kids × Numbered (suc (i + size kids)) rest
