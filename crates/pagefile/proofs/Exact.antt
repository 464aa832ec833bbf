-- A file is accepted exactly if it is the file of a tree that fits, and then that is its tree.
use Rattle.std.proofs.Common.{◌≡◌, ℕ, ◌+◌, ◌*◌, ◌<◌, ◌≤◌, true, ◌⊎◌, List, [], ◌∷◌, ◌++◌, length, None, sym, ap, ◌∙◌, inl, inr, arith, length-append}
use Rattle.std.proofs.lemmas.Bool.{cases_lt, and_parts}
use Rattle.page.specs.Forest.{Forest}
use Rattle.table.specs.declared.record.AttrRecord.{AttrRecord}
use Rattle.table.specs.declared.record.Section.TheVariants.{Nodes, Attributes, Bytes}
use Rattle.table.specs.Rows.{Row, flatten}
use Rattle.table.specs.Table.{Table, attr_at, no_attr, tree_of}
use Rattle.table.specs.Checks as table
use Rattle.table.specs.Checks.{granted, of_nodes, accepts}
use Rattle.table.specs.Tabulate.{joined, bytes_of, node_records, attr_records, all_attrs, all_bytes, tabulate}
use Rattle.table.specs.Fits.{Narrow, Fits}
use Rattle.table.proofs.Asked.{all-granted, none-refused, granted-join}
use Rattle.table.proofs.Accepted.{accepted}
use Rattle.table.proofs.Reread.{attr_count}
use Rattle.table.proofs.Fitting.{RowsNarrow, narrow-flatten, rows_fit, tree-accepted, accepted-tree}
use Rattle.pagefile.specs.File.{count, count_at, attr_in, table_of}
use Rattle.pagefile.specs.Opening.{answer, of_sections, checks, verdict}
use Rattle.pagefile.specs.Format.{file_of, encode}
use Rattle.pagefile.proofs.Listed.{get_first, past-listed}
use Rattle.pagefile.proofs.Accepting as accepting
use Rattle.pagefile.proofs.Written.{Bytewise, small, written}
use Rattle.pagefile.proofs.Reread.{NodesFit, AttrsFit, reread}

-- the attribute records of a file fit two bytes
narrow-records : (f : List ℕ) → Bytewise f → (j : ℕ) → ((attr_at (table_of f) j).name < 65536) × ((attr_at (table_of f) j).value < 65536)
narrow-records f b j = go (cases_lt j (count f Attributes))
  where
    go : (j < count f Attributes) ⊎ (count f Attributes ≤ j) → ((attr_at (table_of f) j).name < 65536) × ((attr_at (table_of f) j).value < 65536)
    go (inl l) =
        let e = get_first (attr_in f) (count f Attributes) j no_attr l in
        let p = count_at f Attributes + 4 + 8 * j in
        (omega (arith, ap (λ (a : AttrRecord). a.name) e, small f b p), omega (arith, ap (λ (a : AttrRecord). a.value) e, small f b (p + 2)))
    go (inr l) =
        let e = past-listed (attr_in f) (count f Attributes) 0 j no_attr l in
        (omega (arith, ap (λ (a : AttrRecord). a.name) e), omega (arith, ap (λ (a : AttrRecord). a.value) e))

-- a file that is accepted is that of its tree, which fits
pub accepted-file : (f : List ℕ) → Bytewise f → verdict f ≡ None → Fits (tree_of (table_of f)) × (f ≡ encode (tree_of (table_of f)))
accepted-file f b h =
    let yes = all-granted (answer f) (checks f) h in
    let r = accepted-tree (table_of f) (accepting.file-accepted f yes) (narrow-records f b) in
    (r.0, sym (ap file_of r.1 ∙ written f b (accepting.file-sized f yes)))

-- the records of rows within a file's limits fit their bytes
nodes-fit : (xs : List Row) (a b : ℕ) → a + attr_count xs ≤ 8192 → b + length (all_bytes xs) ≤ 131072 → NodesFit (node_records a b xs)
nodes-fit [] a b la lb = tt
nodes-fit (x ∷ xs) a b la lb =
    let sum : length (all_bytes (x ∷ xs)) ≡ length (bytes_of x) + length (all_bytes xs) = length-append (bytes_of x) (all_bytes xs) in
    let row : length (bytes_of x) ≡ length x.content + length (joined x.attrs) = length-append x.content (joined x.attrs) in
    (omega arith, omega arith, omega arith, omega arith, nodes-fit xs (a + length x.attrs) (b + length (bytes_of x)) (omega arith) (omega arith))

fit_append : (xs ys : List AttrRecord) → AttrsFit xs → AttrsFit ys → AttrsFit (xs ++ ys)
fit_append [] ys h k = k
fit_append (x ∷ xs) ys h k = (h.0, h.1, h.2, fit_append xs ys h.3 k)

row-fit : (l : List (List ℕ × List ℕ)) (b : ℕ) → Narrow l → b + length (joined l) ≤ 131072 → AttrsFit (attr_records b l)
row-fit [] b h u = tt
row-fit (a ∷ more) b h u =
    let sum : length (joined (a ∷ more)) ≡ length a.0 + (length a.1 + length (joined more)) = length-append a.0 (a.1 ++ joined more) ∙ ap (λ k. length a.0 + k) (length-append a.1 (joined more)) in
    (h.0, h.1, omega arith, row-fit more (b + length a.0 + length a.1) h.2 (omega arith))

attrs-fit : (xs : List Row) (b : ℕ) → RowsNarrow xs → b + length (all_bytes xs) ≤ 131072 → AttrsFit (all_attrs b xs)
attrs-fit [] b h l = tt
attrs-fit (x ∷ xs) b h l =
    let sum : length (all_bytes (x ∷ xs)) ≡ length (bytes_of x) + length (all_bytes xs) = length-append (bytes_of x) (all_bytes xs) in
    let row : length (bytes_of x) ≡ length x.content + length (joined x.attrs) = length-append x.content (joined x.attrs) in
    fit_append (attr_records (b + length x.content) x.attrs) (all_attrs (b + length (bytes_of x)) xs) (row-fit x.attrs (b + length x.content) h.0 (omega arith)) (attrs-fit xs (b + length (bytes_of x)) h.1 (omega arith))

-- the checks of the nodes of accepted records
nodes-granted : (t : Table) → accepts t ≡ true → granted (table.answer t) (of_nodes 0 (length t.nodes)) ≡ true
nodes-granted t h = (and_parts (table.in_range Bytes (length t.bytes)) _ (and_parts (table.in_range Attributes (length t.attrs)) _ (and_parts (table.in_range Nodes (length t.nodes)) _ h).1).1).1

-- the file of a tree that fits is accepted, and its tree is that one
pub encoded-tree : (t : Forest) → Fits t → (verdict (encode t) ≡ None) × (tree_of (table_of (encode t)) ≡ t)
encoded-tree t h =
    let rows = flatten 0 t in
    let fit = rows_fit t h in
    let T = tabulate rows in
    let a = tree-accepted t h in
    let z = (accepted T a.0).sizes in
    let r = reread T z.some_nodes z.few_nodes z.few_attrs z.few_bytes (nodes-fit rows 0 0 (omega (arith, fit.attrs)) (omega (arith, fit.bytes))) (attrs-fit rows 0 (narrow-flatten t 0 h.widths) (omega (arith, fit.bytes))) in
    let f = encode t in
    let nodes : granted (answer f) (of_nodes 0 (count f Nodes)) ≡ true =
    accepting.same-granted f (count f Nodes) 0 ∙ (ap (λ k. granted (table.answer (table_of f)) (of_nodes 0 k)) (sym (accepting.length-nodes f)) ∙ (ap (λ (s : Table). granted (table.answer s) (of_nodes 0 (length s.nodes))) r.1 ∙ nodes-granted T a.0)) in
    (none-refused (answer f) (checks f) (granted-join (answer f) of_sections (of_nodes 0 (count f Nodes)) r.0 nodes), ap tree_of r.1 ∙ a.1)
