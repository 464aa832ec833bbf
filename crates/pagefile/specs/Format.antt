-- How a tree is written as a page file.
use Rattle.std.specs.Prelude.{ℕ, ◌/◌, ◌%◌, List, [], ◌∷◌, ◌++◌, length}
use Rattle.page.specs.Forest.{Forest}
use Rattle.table.specs.declared.record.NodeRecord.{NodeRecord}
use Rattle.table.specs.declared.record.AttrRecord.{AttrRecord}
use Rattle.table.specs.Rows.{flatten}
use Rattle.table.specs.Table.{Table}
use Rattle.table.specs.Tabulate.{tabulate}

-- two and four bytes, the low ones first
abbrev pub le16 : ℕ → List ℕ
le16 n = n % 256 ∷ n / 256 ∷ []

abbrev pub le32 : ℕ → List ℕ
le32 n = le16 (n % 65536) ++ le16 (n / 65536)

-- the bytes of the records
abbrev pub node_bytes : NodeRecord → List ℕ
node_bytes x = x.kind ∷ x.depth ∷ (le16 x.attrs ++ (le32 x.first ++ (le32 x.start ++ le32 x.len)))

abbrev pub attr_bytes : AttrRecord → List ℕ
attr_bytes a = le16 a.name ++ (le16 a.value ++ le32 a.start)

abbrev pub spread : {X : Type 0} → (X → List ℕ) → List X → List ℕ
spread write [] = []
spread write (x ∷ xs) = write x ++ spread write xs

-- three sections, each after its count
abbrev pub file_of : Table → List ℕ
file_of t =
    le32 (length t.nodes) ++ (spread node_bytes t.nodes
    ++ (le32 (length t.attrs) ++ (spread attr_bytes t.attrs
    ++ (le32 (length t.bytes) ++ t.bytes))))

-- the file of a tree: its nodes in document order
abbrev pub encode : Forest → List ℕ
encode t = file_of (tabulate (flatten 0 t))
