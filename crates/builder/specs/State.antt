-- What a builder holds: the lent records and bytes, how many are used, and where it stands.
use Rattle.std.specs.Prelude.{ℕ, Bool, List, take, Option}
use Rattle.table.specs.declared.record.AttrRecord.{AttrRecord}
use Rattle.table.specs.Table.{Table}
use Rattle.linked.specs.declared.node.LinkedNode.{LinkedNode}
use Rattle.linked.specs.Records.{table_of}

-- how many of the lent records and bytes are used
pub record Used : Type 0 where
  pub nodes : ℕ
  pub attrs : ℕ
  pub bytes : ℕ

pub record State : Type 0 where
  pub nodes : List LinkedNode
  pub attrs : List AttrRecord
  pub bytes : List ℕ
  pub used : Used
  pub height : ℕ
  -- the innermost open node and its last child
  pub current : ℕ
  pub last : Option ℕ
  -- an element or an attribute was just given
  pub fresh : Bool

-- the records and the bytes that are used
abbrev pub used_nodes : State → List LinkedNode
used_nodes s = take s.used.nodes s.nodes

abbrev pub used_attrs : State → List AttrRecord
used_attrs s = take s.used.attrs s.attrs

abbrev pub used_bytes : State → List ℕ
used_bytes s = take s.used.bytes s.bytes

abbrev pub used_table : State → Table
used_table s = table_of (used_nodes s) (used_attrs s) (used_bytes s)
