-- The default records are blank.
use Rattle.std.proofs.Common.{◌≡◌}
use Rattle.table.specs.declared.record.NodeRecord.{NodeRecord}
use Rattle.table.specs.declared.record.AttrRecord.{AttrRecord}
use Rattle.table.specs.Table.{no_node, no_attr}

pub blank-node : (x : NodeRecord) → (x.kind ≡ 0) × ((x.depth ≡ 0) × ((x.attrs ≡ 0) × ((x.first ≡ 0) × ((x.start ≡ 0) × (x.len ≡ 0))))) → x ≡ no_node
blank-node x h = λ i. record { kind = h.0 i; depth = h.1.0 i; attrs = h.1.1.0 i; first = h.1.1.1.0 i; start = h.1.1.1.1.0 i; len = h.1.1.1.1.1 i }

pub blank-attr : (x : AttrRecord) → (x.name ≡ 0) × ((x.value ≡ 0) × (x.start ≡ 0)) → x ≡ no_attr
blank-attr x h = λ i. record { name = h.0 i; value = h.1.0 i; start = h.1.1 i }
