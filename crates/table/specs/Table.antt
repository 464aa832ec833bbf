-- The records of a stored page, and what they mean as rows.
use Rattle.std.specs.Prelude.{ℕ, zero, suc, ◌+◌, cond, List, [], ◌∷◌, length, take, drop, ◌==◌, slice_index_or}
use Rattle.page.specs.declared.kind.NodeKind.{NodeKind}
use Rattle.page.specs.declared.kind.NodeKind.TheVariants.{Document, Doctype, Text, Comment, Element}
use Rattle.page.specs.Forest.{Forest}
use Rattle.table.specs.declared.record.NodeRecord.{NodeRecord}
use Rattle.table.specs.declared.record.AttrRecord.{AttrRecord}
use Rattle.table.specs.Rows.{Row, parse}

pub record Table : Type 0 where
  pub nodes : List NodeRecord
  pub attrs : List AttrRecord
  pub bytes : List ℕ

-- the record past the end
abbrev pub no_node : NodeRecord
no_node = record { kind = 0; depth = 0; attrs = 0; first = 0; start = 0; len = 0 }

abbrev pub no_attr : AttrRecord
no_attr = record { name = 0; value = 0; start = 0 }

abbrev pub node_at : Table → ℕ → NodeRecord
node_at t i = slice_index_or t.nodes i no_node

abbrev pub attr_at : Table → ℕ → AttrRecord
attr_at t j = slice_index_or t.attrs j no_attr

-- len of the bytes, from start on
abbrev pub part : Table → ℕ → ℕ → List ℕ
part t start len = take len (drop start t.bytes)

-- the kind of a code of at most 4
abbrev pub kind_with : ℕ → NodeKind
kind_with k = cond (k == 0) Document (cond (k == 1) Doctype (cond (k == 2) Text (cond (k == 3) Comment Element)))

-- the name and the value of an attribute
abbrev pub attr_of : Table → ℕ → List ℕ × List ℕ
attr_of t j = let a = attr_at t j in (part t a.start a.name, part t (a.start + a.name) a.value)

-- k attributes from j on, and k rows from i on
abbrev pub attrs_from : Table → ℕ → ℕ → List (List ℕ × List ℕ)
attrs_from t j zero = []
attrs_from t j (suc k) = attr_of t j ∷ attrs_from t (suc j) k

abbrev pub row_at : Table → ℕ → Row
row_at t i = let x = node_at t i in record { kind = kind_with x.kind; depth = x.depth; content = part t x.start x.len; attrs = attrs_from t x.first x.attrs }

abbrev pub rows_from : Table → ℕ → ℕ → List Row
rows_from t i zero = []
rows_from t i (suc k) = row_at t i ∷ rows_from t (suc i) k

abbrev pub rows_of : Table → List Row
rows_of t = rows_from t 0 (length t.nodes)

-- the tree that the records mean, their depths read in document order
abbrev pub tree_of : Table → Forest
tree_of t = parse 0 0 (rows_of t)
