-- Linked records, read as the records of a stored page.
use Rattle.std.proofs.Common.{◌≡◌, ℕ, zero, suc, List, [], ◌∷◌, length, get_or, refl}
use Rattle.std.proofs.lemmas.List.{length-map}
use Rattle.table.specs.declared.record.AttrRecord.{AttrRecord}
use Rattle.table.specs.Table.{node_at}
use Rattle.linked.specs.declared.node.LinkedNode.{LinkedNode}
use Rattle.linked.specs.Records.{no_linked, records_of, table_of}

pub length-records : (xs : List LinkedNode) → length (records_of xs) ≡ length xs
length-records xs = length-map xs (λ x. x.node)

pub node_at_lem : (xs : List LinkedNode) (attrs : List AttrRecord) (bytes : List ℕ) (i : ℕ) → node_at (table_of xs attrs bytes) i ≡ (get_or xs i no_linked).node
node_at_lem [] attrs bytes i = refl
node_at_lem (x ∷ xs) attrs bytes zero = refl
node_at_lem (x ∷ xs) attrs bytes (suc i) = node_at_lem xs attrs bytes i
