-- The checks of opening a page file, and its verdict.
use Rattle.std.specs.Prelude.{ℕ, ◌+◌, Bool, List, [], ◌∷◌, ◌++◌, length, Option, ◌==◌, nat_le}
use Rattle.table.specs.declared.record.Section.{Section}
use Rattle.table.specs.declared.record.Section.TheVariants.{Nodes, Attributes, Bytes}
use Rattle.table.specs.declared.record.Check.{Check}
use Rattle.table.specs.declared.record.Check.TheVariants.{CountPresent, CountInRange, RecordsPresent, NothingFollows, Kind, Depth, Layout, WellFormed, SectionsEnd}
use Rattle.table.specs.Checks.{in_range, kind_ok, depth_ok, layout_ok, formed_ok, ends_ok, of_nodes, first_no}
use Rattle.pagefile.specs.File.{count_at, count, end_at, table_of}

-- what a file answers: of its sections by its bytes, of its nodes by its records
abbrev pub answer : List ℕ → Check → Bool
answer f (CountPresent s) = nat_le (count_at f s + 4) (length f)
answer f (CountInRange s) = in_range s (count f s)
answer f (RecordsPresent s) = nat_le (end_at f s) (length f)
answer f NothingFollows = end_at f Bytes == length f
answer f (Kind i) = kind_ok (table_of f) i
answer f (Depth i) = depth_ok (table_of f) i
answer f (Layout i) = layout_ok (table_of f) i
answer f (WellFormed i) = formed_ok (table_of f) i
answer f (SectionsEnd n) = ends_ok (table_of f) n

-- the checks of a section, of all three, and of the whole file, in their order
abbrev pub of_section : Section → List Check
of_section s = CountPresent s ∷ CountInRange s ∷ RecordsPresent s ∷ []

abbrev pub of_sections : List Check
of_sections = of_section Nodes ++ (of_section Attributes ++ (of_section Bytes ++ (NothingFollows ∷ [])))

abbrev pub checks : List ℕ → List Check
checks f = of_sections ++ of_nodes 0 (count f Nodes)

-- the first check that a file answers no
abbrev pub verdict : List ℕ → Option Check
verdict f = first_no (answer f) (checks f)
