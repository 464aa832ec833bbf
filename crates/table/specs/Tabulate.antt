-- The records of rows: attributes and bytes run on in document order without gaps.
use Rattle.std.specs.Prelude.{ℕ, ◌+◌, List, [], ◌∷◌, ◌++◌, length}
use Rattle.page.specs.Kinds.{code}
use Rattle.table.specs.declared.record.NodeRecord.{NodeRecord}
use Rattle.table.specs.declared.record.AttrRecord.{AttrRecord}
use Rattle.table.specs.Rows.{Row}
use Rattle.table.specs.Table.{Table}

-- the bytes of attributes: each name and then its value
abbrev pub joined : List (List ℕ × List ℕ) → List ℕ
joined [] = []
joined (a ∷ more) = a.0 ++ (a.1 ++ joined more)

-- the bytes of a row: its content and then its attributes
abbrev pub bytes_of : Row → List ℕ
bytes_of x = x.content ++ joined x.attrs

-- the records of rows that come after a attributes and b bytes
abbrev pub node_records : ℕ → ℕ → List Row → List NodeRecord
node_records a b [] = []
node_records a b (x ∷ xs) =
    record { kind = code x.kind; depth = x.depth; attrs = length x.attrs; first = a; start = b; len = length x.content }
    ∷ node_records (a + length x.attrs) (b + length (bytes_of x)) xs

-- the records of attributes whose bytes come after b bytes
abbrev pub attr_records : ℕ → List (List ℕ × List ℕ) → List AttrRecord
attr_records b [] = []
attr_records b (a ∷ more) = record { name = length a.0; value = length a.1; start = b } ∷ attr_records (b + length a.0 + length a.1) more

abbrev pub all_attrs : ℕ → List Row → List AttrRecord
all_attrs b [] = []
all_attrs b (x ∷ xs) = attr_records (b + length x.content) x.attrs ++ all_attrs (b + length (bytes_of x)) xs

abbrev pub all_bytes : List Row → List ℕ
all_bytes [] = []
all_bytes (x ∷ xs) = bytes_of x ++ all_bytes xs

abbrev pub tabulate : List Row → Table
tabulate xs = record { nodes = node_records 0 0 xs; attrs = all_attrs 0 xs; bytes = all_bytes xs }
