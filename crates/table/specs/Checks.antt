-- The checks of opening, their order, and the first one answered no.
use Rattle.std.specs.Prelude.{ℕ, zero, suc, ◌+◌, ◌-◌, Bool, true, cond, not, ◌&&◌, ◌||◌, List, [], ◌∷◌, ◌++◌, length, Some, None, Ok, Err, Option, Result, ◌==◌, nat_le}
use Rattle.utf8.specs.Table.{well_formed}
use Rattle.table.specs.declared.record.NodeRecord.{NodeRecord}
use Rattle.table.specs.declared.record.Section.{Section}
use Rattle.table.specs.declared.record.Section.TheVariants.{Nodes, Attributes, Bytes}
use Rattle.table.specs.declared.record.Check.{Check}
use Rattle.table.specs.declared.record.Check.TheVariants.{CountPresent, CountInRange, RecordsPresent, NothingFollows, Kind, Depth, Layout, WellFormed, SectionsEnd}
use Rattle.table.specs.Table.{Table, node_at, attr_at, part}

-- a refusal's number and record
abbrev pub section_number : Section → ℕ
section_number Nodes = 1
section_number Attributes = 2
section_number Bytes = 3

abbrev pub number : Check → ℕ
number (CountPresent s) = 11
number (CountInRange s) = 12
number (RecordsPresent s) = 11
number NothingFollows = 11
number (Kind i) = 13
number (Depth i) = 14
number (Layout i) = 15
number (WellFormed i) = 16
number (SectionsEnd n) = 15

abbrev pub record_of : Check → ℕ
record_of (CountPresent s) = section_number s
record_of (CountInRange s) = section_number s
record_of (RecordsPresent s) = section_number s
record_of NothingFollows = section_number Bytes
record_of (Kind i) = i
record_of (Depth i) = i
record_of (Layout i) = i
record_of (WellFormed i) = i
record_of (SectionsEnd n) = n

-- the least and the greatest count of a section
abbrev pub least : Section → ℕ
least Nodes = 1
least Attributes = 0
least Bytes = 0

abbrev pub most : Section → ℕ
most Nodes = 4096
most Attributes = 8192
most Bytes = 131072

abbrev pub count_of : Table → Section → ℕ
count_of t Nodes = length t.nodes
count_of t Attributes = length t.attrs
count_of t Bytes = length t.bytes

abbrev pub in_range : Section → ℕ → Bool
in_range s n = nat_le (least s) n && nat_le n (most s)

-- p holds of each number below n
abbrev pub each : ℕ → (ℕ → Bool) → Bool
each zero p = true
each (suc k) p = p k && each k p

-- kind 0 first and only there, at most 4
abbrev pub kind_ok : Table → ℕ → Bool
kind_ok t i = let k = (node_at t i).kind in cond (i == 0) (k == 0) (nat_le 1 k && nat_le k 4)

-- documents and elements have children
abbrev pub is_parent_code : ℕ → Bool
is_parent_code k = k == 0 || k == 4

-- depth 0 first, later 1 to 62, at most one more than the node before, and more only under a document or an element
abbrev pub depth_ok : Table → ℕ → Bool
depth_ok t i =
    let d = (node_at t i).depth in
    let before = node_at t (i - 1) in
    cond (i == 0) (d == 0) (nat_le 1 d && (nat_le d 62 && (nat_le d before.depth || (d == before.depth + 1 && is_parent_code before.kind))))

-- where an attribute ends
abbrev pub attr_end : Table → ℕ → ℕ
attr_end t j = let a = attr_at t j in a.start + a.name + a.value

-- where the attribute k of a node has to start: after its content, or after the attribute before
abbrev pub attr_start : Table → NodeRecord → ℕ → ℕ
attr_start t x k = cond (k == 0) (x.start + x.len) (attr_end t (x.first + (k - 1)))

-- the attributes and the bytes that the nodes before node i have
abbrev pub attrs_before : Table → ℕ → ℕ
attrs_before t i = let x = node_at t (i - 1) in cond (i == 0) 0 (x.first + x.attrs)

abbrev pub bytes_before : Table → ℕ → ℕ
bytes_before t i = let x = node_at t (i - 1) in cond (i == 0) 0 (attr_start t x x.attrs)

-- an attribute starts where it has to, and ends inside
abbrev pub attr_ok : Table → NodeRecord → ℕ → Bool
attr_ok t x k = (attr_at t (x.first + k)).start == attr_start t x k && nat_le (attr_end t (x.first + k)) (length t.bytes)

-- attributes on elements only, the document's content empty, attributes and bytes running on without gap, all inside
abbrev pub layout_ok : Table → ℕ → Bool
layout_ok t i =
    let x = node_at t i in
    (x.attrs == 0 || x.kind == 4)
    && ((not (x.kind == 0) || x.len == 0)
    && (x.first == attrs_before t i
    && (nat_le (x.first + x.attrs) (length t.attrs)
    && (x.start == bytes_before t i
    && (nat_le (x.start + x.len) (length t.bytes)
    && each x.attrs (attr_ok t x))))))

abbrev pub attr_formed : Table → ℕ → Bool
attr_formed t j = let a = attr_at t j in well_formed (part t a.start a.name) && well_formed (part t (a.start + a.name) a.value)

-- the content, and each name and value, is well-formed
abbrev pub formed_ok : Table → ℕ → Bool
formed_ok t i = let x = node_at t i in well_formed (part t x.start x.len) && each x.attrs (λ k. attr_formed t (x.first + k))

-- the attributes and the bytes end with the last node
abbrev pub ends_ok : Table → ℕ → Bool
ends_ok t n = attrs_before t n == length t.attrs && bytes_before t n == length t.bytes

-- what records in memory answer: their counts and records are there, and nothing follows
abbrev pub answer : Table → Check → Bool
answer t (CountPresent s) = true
answer t (CountInRange s) = in_range s (count_of t s)
answer t (RecordsPresent s) = true
answer t NothingFollows = true
answer t (Kind i) = kind_ok t i
answer t (Depth i) = depth_ok t i
answer t (Layout i) = layout_ok t i
answer t (WellFormed i) = formed_ok t i
answer t (SectionsEnd n) = ends_ok t n

-- the checks of a node in their order
abbrev pub of_node : ℕ → List Check
of_node i = Kind i ∷ Depth i ∷ Layout i ∷ WellFormed i ∷ []

-- those of k nodes from node i on, and the last check
abbrev pub of_nodes : ℕ → ℕ → List Check
of_nodes i zero = SectionsEnd i ∷ []
of_nodes i (suc k) = of_node i ++ of_nodes (suc i) k

-- the first check answered no
abbrev pub first_no : (Check → Bool) → List Check → Option Check
first_no ok [] = None
first_no ok (c ∷ cs) = cond (ok c) (first_no ok cs) (Some c)

-- whether each is answered yes
abbrev pub granted : (Check → Bool) → List Check → Bool
granted ok [] = true
granted ok (c ∷ cs) = ok c && granted ok cs

-- the checks of records in memory, and whether they are accepted
abbrev pub checks : Table → List Check
checks t = CountInRange Nodes ∷ CountInRange Attributes ∷ CountInRange Bytes ∷ of_nodes 0 (length t.nodes)

abbrev pub accepts : Table → Bool
accepts t = granted (answer t) (checks t)

-- the check that a call was refused by
abbrev pub refused : {X : Type 0} → Result X Check → Option Check
refused (Ok x) = None
refused (Err c) = Some c
