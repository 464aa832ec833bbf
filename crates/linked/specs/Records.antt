-- Linked records as the records of a stored page, and whether their links match the depths.
use Rattle.std.specs.Prelude.{ℕ, Bool, ◌&&◌, List, map, length, None, slice_index_or}
use Rattle.table.specs.declared.record.NodeRecord.{NodeRecord}
use Rattle.table.specs.declared.record.AttrRecord.{AttrRecord}
use Rattle.table.specs.Table.{Table, no_node}
use Rattle.table.specs.Checks.{each}
use Rattle.linked.specs.declared.node.LinkedNode.{LinkedNode}
use Rattle.linked.specs.declared.records.LinkedRecords.{LinkedRecords}
use Rattle.linked.specs.Links.{parent_link, child_link, sibling_link, same_link}

-- the record past the end
abbrev pub no_linked : LinkedNode
no_linked = record { node = no_node; parent = None; first_child = None; next_sibling = None }

abbrev pub records_of : List LinkedNode → List NodeRecord
records_of xs = map (λ x. x.node) xs

abbrev pub table_of : List LinkedNode → List AttrRecord → List ℕ → Table
table_of xs attrs bytes = record { nodes = records_of xs; attrs = attrs; bytes = bytes }

-- the links of node i are those that the depths mean
abbrev pub links_ok : List LinkedNode → Table → ℕ → Bool
links_ok xs t i =
    let x = slice_index_or xs i no_linked in
    same_link x.parent (parent_link t i) && (same_link x.first_child (child_link t i) && same_link x.next_sibling (sibling_link t i))

-- those of every node are
abbrev pub all_linked : List LinkedNode → Table → Bool
all_linked xs t = each (length xs) (links_ok xs t)

-- what lent slices hold
abbrev pub table_in : LinkedRecords → Table
table_in r = table_of r.nodes.now r.attrs.now r.bytes.now
