-- The checks of opening linked records, and their verdict.
use Rattle.std.specs.Prelude.{ℕ, Bool, true, ◌&&◌, List, Option}
use Rattle.table.specs.declared.record.AttrRecord.{AttrRecord}
use Rattle.table.specs.declared.record.Check.{Check}
use Rattle.table.specs.declared.record.Check.TheVariants.{CountPresent, CountInRange, RecordsPresent, NothingFollows, Kind, Depth, Layout, WellFormed, SectionsEnd}
use Rattle.table.specs.Table.{Table}
use Rattle.table.specs.Checks as table
use Rattle.table.specs.Checks.{depth_ok, checks, first_no}
use Rattle.linked.specs.declared.node.LinkedNode.{LinkedNode}
use Rattle.linked.specs.declared.records.LinkedRecords.{LinkedRecords}
use Rattle.linked.specs.Records.{links_ok, table_of}

-- what linked records answer: as any records in memory, and of a node's depth also whether its links match
abbrev pub answer : List LinkedNode → Table → Check → Bool
answer xs t (CountPresent s) = true
answer xs t (CountInRange s) = table.answer t (CountInRange s)
answer xs t (RecordsPresent s) = true
answer xs t NothingFollows = true
answer xs t (Kind i) = table.answer t (Kind i)
answer xs t (Depth i) = depth_ok t i && links_ok xs t i
answer xs t (Layout i) = table.answer t (Layout i)
answer xs t (WellFormed i) = table.answer t (WellFormed i)
answer xs t (SectionsEnd n) = table.answer t (SectionsEnd n)

-- the first check that the records answer no
abbrev pub verdict_of : List LinkedNode → List AttrRecord → List ℕ → Option Check
verdict_of xs attrs bytes = let t = table_of xs attrs bytes in first_no (answer xs t) (checks t)

abbrev pub verdict : LinkedRecords → Option Check
verdict r = verdict_of r.nodes.now r.attrs.now r.bytes.now
