-- The fields and the sections of a page file, and the records that lie in them.
use Rattle.std.specs.Prelude.{ℕ, zero, suc, ◌+◌, ◌*◌, List, [], ◌∷◌, take, drop, slice_index}
use Rattle.table.specs.declared.record.Section.{Section}
use Rattle.table.specs.declared.record.Section.TheVariants.{Nodes, Attributes, Bytes}
use Rattle.table.specs.declared.record.NodeRecord.{NodeRecord}
use Rattle.table.specs.declared.record.AttrRecord.{AttrRecord}
use Rattle.table.specs.Table.{Table}
use Rattle.pagefile.specs.declared.counts.Counts.{Counts}

-- two and four bytes, the low ones first
unfoldable pub u16_at : List ℕ → ℕ → ℕ
u16_at f p = slice_index f p + 256 * slice_index f (p + 1)

unfoldable pub u32_at : List ℕ → ℕ → ℕ
u32_at f p = u16_at f p + 65536 * u16_at f (p + 2)

-- the bytes of a section's record
abbrev pub size : Section → ℕ
size Nodes = 16
size Attributes = 8
size Bytes = 1

-- where a section ends whose count stands at p and whose records have w bytes
abbrev pub past : List ℕ → ℕ → ℕ → ℕ
past f w p = p + 4 + w * u32_at f p

-- where the count of a section stands: the sections follow one another
abbrev pub count_at : List ℕ → Section → ℕ
count_at f Nodes = 0
count_at f Attributes = past f 16 0
count_at f Bytes = past f 8 (past f 16 0)

abbrev pub count : List ℕ → Section → ℕ
count f s = u32_at f (count_at f s)

abbrev pub end_at : List ℕ → Section → ℕ
end_at f s = past f (size s) (count_at f s)

abbrev pub counts_of : List ℕ → Counts
counts_of f = record { nodes = count f Nodes; attrs = count f Attributes; bytes = count f Bytes }

-- the record of node i and of attribute j
abbrev pub node_in : List ℕ → ℕ → NodeRecord
node_in f i =
    let p = 4 + 16 * i in
    record { kind = slice_index f p; depth = slice_index f (p + 1); attrs = u16_at f (p + 2); first = u32_at f (p + 4); start = u32_at f (p + 8); len = u32_at f (p + 12) }

abbrev pub attr_in : List ℕ → ℕ → AttrRecord
attr_in f j =
    let p = count_at f Attributes + 4 + 8 * j in
    record { name = u16_at f p; value = u16_at f (p + 2); start = u32_at f (p + 4) }

-- k records from the first one on
abbrev pub listed : {X : Type 0} → (ℕ → X) → ℕ → ℕ → List X
listed at i zero = []
listed at i (suc k) = at i ∷ listed at (suc i) k

-- the records and the bytes of a file
abbrev pub table_of : List ℕ → Table
table_of f = record { nodes = listed (node_in f) 0 (count f Nodes); attrs = listed (attr_in f) 0 (count f Attributes); bytes = take (count f Bytes) (drop (count_at f Bytes + 4) f) }
