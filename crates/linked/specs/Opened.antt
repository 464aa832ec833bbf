-- What a page in linked records means.
use Rattle.std.specs.Prelude.{[]}
use Rattle.page.specs.declared.kind.NodeKind.TheVariants.{Document}
use Rattle.page.specs.Forest.{Forest, none, node}
use Rattle.table.specs.Table.{tree_of}
use Rattle.linked.specs.declared.accepted.LinkedPage.{LinkedPage}
use Rattle.linked.specs.Records.{table_in}

-- the tree of its records
abbrev pub linked_tree : LinkedPage → Forest
linked_tree p = tree_of (table_in p.records)

-- the document alone
abbrev pub document_alone : Forest
document_alone = node 0 Document [] [] none none
