-- A parser's events, and the tree that granted events mean.
use Rattle.std.specs.Prelude.{ℕ, suc, ◌-◌, List, [], ◌∷◌}
use Rattle.page.specs.declared.kind.NodeKind.{NodeKind}
use Rattle.page.specs.declared.kind.NodeKind.TheVariants.{Document, Doctype, Text, Comment, Element}
use Rattle.page.specs.Forest.{Forest}
use Rattle.table.specs.Rows.{Row, parse}

pub data Event : Type 0 where
  element : List ℕ → Event
  attribute : List ℕ → List ℕ → Event
  text : List ℕ → Event
  comment : List ℕ → Event
  doctype : List ℕ → Event
  close : Event

-- the attributes that stand right at the front of the events
abbrev pub attrs_first : List Event → List (List ℕ × List ℕ)
attrs_first [] = []
attrs_first (attribute n v ∷ es) = (n, v) ∷ attrs_first es
attrs_first (element c ∷ es) = []
attrs_first (text c ∷ es) = []
attrs_first (comment c ∷ es) = []
attrs_first (doctype c ∷ es) = []
attrs_first (close ∷ es) = []

abbrev pub row : NodeKind → ℕ → List ℕ → List (List ℕ × List ℕ) → Row
row k d c a = record { kind = k; depth = d; content = c; attrs = a }

-- the nodes that events give in document order, the next one standing at depth d: what comes after an element stands one
-- deeper until that is closed, and an element has the attributes that come right after it
abbrev pub rows_at : ℕ → List Event → List Row
rows_at d [] = []
rows_at d (element c ∷ es) = row Element d c (attrs_first es) ∷ rows_at (suc d) es
rows_at d (attribute n v ∷ es) = rows_at d es
rows_at d (text c ∷ es) = row Text d c [] ∷ rows_at d es
rows_at d (comment c ∷ es) = row Comment d c [] ∷ rows_at d es
rows_at d (doctype c ∷ es) = row Doctype d c [] ∷ rows_at d es
rows_at d (close ∷ es) = rows_at (d - 1) es

-- the document and under it what the events give
abbrev pub event_rows : List Event → List Row
event_rows es = row Document 0 [] [] ∷ rows_at 1 es

abbrev pub event_tree : List Event → Forest
event_tree es = parse 0 0 (event_rows es)
