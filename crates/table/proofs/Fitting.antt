-- Trees that fit and records that are accepted are one.
use Rattle.std.proofs.Common.{◌≡◌, ℕ, zero, suc, ◌+◌, ◌<◌, ◌≤◌, true, false, cond, not, ◌&&◌, ◌||◌, eqb, leb, List, [], ◌∷◌, ◌++◌, length, take, drop, Some, Option, sym, refl, ap, ◌∙◌, subst, append_assoc, arith, length-append}
use Rattle.std.proofs.lemmas.Bool.{both_ways, le-leb, eqb-true, and_from}
use Rattle.page.specs.declared.kind.NodeKind.{NodeKind}
use Rattle.page.specs.declared.kind.NodeKind.TheVariants.{Document, Doctype, Text, Comment, Element}
use Rattle.page.specs.Kinds.{is_element, is_document}
use Rattle.page.specs.Forest.{Forest, none, node, kind_of, content_of, size, levels, height_of, texts}
use Rattle.page.specs.Kept.{Plain, Inner, WellFormed, Kept}
use Rattle.table.specs.Rows.{Row, flatten, parse, is_parent, reach, empty, bare, steps, total, formed, RowsFormed}
use Rattle.table.specs.Table.{Table, node_at, attr_at, part, kind_with, attrs_from, row_at, rows_from, rows_of, tree_of}
use Rattle.table.specs.Checks.{accepts}
use Rattle.table.specs.Tabulate.{joined, bytes_of, all_bytes, tabulate}
use Rattle.table.specs.Fits.{attr_total, byte_total, Narrow, Widths, Fits}
use Rattle.table.proofs.Parse.{parse-at}
use Rattle.table.proofs.Lawful.{form, parse-levels}
use Rattle.table.proofs.Round.{size-flatten, rows_of-tree, tree_of-rows}
use Rattle.table.proofs.Accepted.{Accepted, laid, length-rows_of, table-formed, table_kept}
use Rattle.table.proofs.Tabulated.{tabulated}
use Rattle.table.proofs.Reread.{attr_count, RowsFit, reread, length-all_attrs}

-- counts over rows one after the other
attr_count-append : (xs ys : List Row) → attr_count (xs ++ ys) ≡ attr_count xs + attr_count ys
attr_count-append [] ys = omega arith
attr_count-append (x ∷ xs) ys = omega (arith, attr_count-append xs ys)

all_bytes-append : (xs ys : List Row) → length (all_bytes (xs ++ ys)) ≡ length (all_bytes xs) + length (all_bytes ys)
all_bytes-append [] ys = omega arith
all_bytes-append (x ∷ xs) ys = omega (arith, all_bytes-append xs ys, length-append (bytes_of x) (all_bytes (xs ++ ys)), length-append (bytes_of x) (all_bytes xs))

total-append : (xs ys : List Row) → total (xs ++ ys) ≡ total xs + total ys
total-append [] ys = omega arith
total-append (x ∷ xs) ys = omega (arith, total-append xs ys)

formed-append : (xs ys : List Row) → RowsFormed xs → RowsFormed ys → RowsFormed (xs ++ ys)
formed-append [] ys h k = k
formed-append (x ∷ xs) ys h k = (h.0, h.1, formed-append xs ys h.2 k)

-- a tree's counts are those of its rows
pub attrs-flatten : (t : Forest) (d : ℕ) → attr_count (flatten d t) ≡ attr_total t
attrs-flatten none d = refl
attrs-flatten (node m k c a kids rest) d = omega (arith, attr_count-append (flatten (suc d) kids) (flatten d rest), attrs-flatten kids (suc d), attrs-flatten rest d)

pub bytes-flatten : (t : Forest) (d : ℕ) → length (all_bytes (flatten d t)) ≡ byte_total t
bytes-flatten none d = refl
bytes-flatten (node m k c a kids rest) d =
    let x : Row = record { kind = k; depth = d; content = c; attrs = a } in
    omega (arith, length-append (bytes_of x) (all_bytes (flatten (suc d) kids ++ flatten d rest)), length-append c (joined a), all_bytes-append (flatten (suc d) kids) (flatten d rest), bytes-flatten kids (suc d), bytes-flatten rest d)

texts-flatten : (t : Forest) (d : ℕ) → total (flatten d t) ≡ texts t
texts-flatten none d = refl
texts-flatten (node m k c a kids rest) d = omega (arith, total-append (flatten (suc d) kids) (flatten d rest), texts-flatten kids (suc d), texts-flatten rest d)

formed-flatten : (t : Forest) (d : ℕ) → WellFormed t → RowsFormed (flatten d t)
formed-flatten none d h = tt
formed-flatten (node m k c a kids rest) d h = (h.0, h.1, formed-append (flatten (suc d) kids) (flatten d rest) (formed-flatten kids (suc d) h.2) (formed-flatten rest d h.3))

-- a row without attributes unless it is an element
bare-row : (k : NodeKind) (d : ℕ) (c : List ℕ) (a : List (List ℕ × List ℕ)) → (is_element k ≡ false → a ≡ []) → bare (record { kind = k; depth = d; content = c; attrs = a }) ≡ true
bare-row Document d c a h = ap empty (h refl)
bare-row Doctype d c a h = ap empty (h refl)
bare-row Text d c a h = ap empty (h refl)
bare-row Comment d c a h = ap empty (h refl)
bare-row Element d c a h = refl

-- the rows of what stands below a root, one step after the other
steps-flatten : (t : Forest) (d m : ℕ) (ys : List Row) → 1 ≤ d → d ≤ m → Inner t → Plain t → d + levels t ≤ 63 → ((n : ℕ) → d ≤ n → steps n ys ≡ true) → steps m (flatten d t ++ ys) ≡ true
steps-flatten none d m ys l u i p h f = f m u
steps-flatten (node q k c a kids rest) d m ys l u i p h f =
    and_from (leb 1 d && (leb d m && (leb d 62 && (not (is_document k) && bare x)))) (steps (reach x) ((flatten (suc d) kids ++ flatten d rest) ++ ys))
    (and_from (leb 1 d) _ (le-leb 1 d l) (and_from (leb d m) _ (le-leb d m u) (and_from (leb d 62) _ (le-leb d 62 (omega arith)) (and_from (not (is_document k)) (bare x) (ap not i.0) (bare-row k d c a p.0)))))
    (ap (steps (reach x)) (append_assoc (flatten (suc d) kids) (flatten d rest) ys) ∙ go k refl i.1 (λ n v. steps-flatten rest d n ys l v i.3 p.2 (omega arith) f) (λ v. steps-flatten kids (suc d) (suc d) (flatten d rest ++ ys) (omega arith) (omega arith) i.2 p.1 (omega arith) (λ n w. v n (omega arith))))
  where
    x : Row
    x = record { kind = k; depth = d; content = c; attrs = a }

    under : (j : NodeKind) → k ≡ j → is_parent j ≡ false → (kids ≡ none) → ((n : ℕ) → d ≤ n → steps n (flatten d rest ++ ys) ≡ true) → steps (reach x) (flatten (suc d) kids ++ (flatten d rest ++ ys)) ≡ true
    under j e z none-there r = (λ q. steps (cond (is_parent (e q)) (suc d) d) (flatten (suc d) (none-there q) ++ (flatten d rest ++ ys))) ∙ (ap (λ b. steps (cond b (suc d) d) (flatten d rest ++ ys)) z ∙ r d (omega arith))

    go : (j : NodeKind) → k ≡ j → (is_element k ≡ false → kids ≡ none) → ((n : ℕ) → d ≤ n → steps n (flatten d rest ++ ys) ≡ true)
        → (((n : ℕ) → d ≤ n → steps n (flatten d rest ++ ys) ≡ true) → steps (suc d) (flatten (suc d) kids ++ (flatten d rest ++ ys)) ≡ true)
        → steps (reach x) (flatten (suc d) kids ++ (flatten d rest ++ ys)) ≡ true
    go Document e z r s = absurd (both_ways true (sym (ap is_document e) ∙ i.0) refl)
    go Doctype e z r s = under Doctype e refl (z (ap is_element e)) r
    go Text e z r s = under Text e refl (z (ap is_element e)) r
    go Comment e z r s = under Comment e refl (z (ap is_element e)) r
    go Element e z r s = (λ q. steps (cond (is_parent (e q)) (suc d) d) (flatten (suc d) kids ++ (flatten d rest ++ ys))) ∙ s r

document-is : (k : NodeKind) → ◌≡◌ {A = Option NodeKind} (Some k) (Some Document) → is_document k ≡ true
document-is Document h = refl
document-is Doctype h = absurd (let z : ◌≡◌ {A = ℕ} 0 1 = cc in omega arith)
document-is Text h = absurd (let z : ◌≡◌ {A = ℕ} 0 1 = cc in omega arith)
document-is Comment h = absurd (let z : ◌≡◌ {A = ℕ} 0 1 = cc in omega arith)
document-is Element h = absurd (let z : ◌≡◌ {A = ℕ} 0 1 = cc in omega arith)

parent-document : (k : NodeKind) → is_document k ≡ true → is_parent k ≡ true
parent-document Document h = refl
parent-document Doctype h = absurd (both_ways false refl h)
parent-document Text h = absurd (both_ways false refl h)
parent-document Comment h = absurd (both_ways false refl h)
parent-document Element h = absurd (both_ways false refl h)

-- the rows of a tree that fits
pub rows_fit : (t : Forest) → Fits t → RowsFit (flatten 0 t)
rows_fit none h = absurd (both_ways false refl h.law.some)
rows_fit (node m k c a kids rest) h =
    let x : Row = record { kind = k; depth = 0; content = c; attrs = a } in
    let law = h.law in
    let doc = document-is k h.document in
    let alone : rest ≡ none = law.alone in
    let more = flatten 1 kids ++ flatten 0 rest in
    let long : suc (length more) ≡ size (node m k c a kids rest) = size-flatten (node m k c a kids rest) 0 in
    let text : total (x ∷ more) ≡ texts (node m k c a kids rest) = texts-flatten (node m k c a kids rest) 0 in
    let short = law.short in
    let few = h.nodes in
    let high = h.height in
    let next : steps (reach x) more ≡ true =
    (λ q. steps (cond (parent-document k doc q) 1 0) (flatten 1 kids ++ flatten 0 (alone q)))
    ∙ steps-flatten kids 1 1 [] (omega arith) (omega arith) law.inner law.plain.1 (omega arith) (λ n l. refl) in
    record {
      shape =
          and_from (eqb 0 0 && (is_document k && (bare x && (leb (suc (length more)) 4096 && leb (total (x ∷ more)) 131072)))) (steps (reach x) more)
          (and_from (is_document k) _ doc (and_from (bare x) _ (bare-row k 0 c a law.plain.0) (and_from (leb (suc (length more)) 4096) _ (le-leb _ _ (omega arith)) (le-leb (total (x ∷ more)) 131072 (omega arith)))))
          next;
      root = h.empty;
      texts = formed-flatten (node m k c a kids rest) 0 law.formed;
      attrs = omega (arith, attrs-flatten (node m k c a kids rest) 0, h.attrs);
      bytes = omega (arith, bytes-flatten (node m k c a kids rest) 0, h.bytes);
    }

-- a tree that fits has records that are accepted and mean it
pub tree-accepted : (t : Forest) → Fits t → (accepts (tabulate (flatten 0 t)) ≡ true) × (tree_of (tabulate (flatten 0 t)) ≡ t)
tree-accepted t h = let r = reread (flatten 0 t) (rows_fit t h) in (r.0, ap (parse 0 0) r.1 ∙ tree_of-rows t h.ordered)

-- attribute records whose lengths fit two bytes
abbrev pub NarrowRecords : Table → Type 0
NarrowRecords t = (j : ℕ) → ((attr_at t j).name < 65536) × ((attr_at t j).value < 65536)

length-take-most : (n : ℕ) (l : List ℕ) → length (take n l) ≤ n
length-take-most zero l = omega arith
length-take-most (suc n) [] = omega arith
length-take-most (suc n) (x ∷ l) = let r = length-take-most n l in omega arith

narrow-attrs : (t : Table) → NarrowRecords t → (k j : ℕ) → Narrow (attrs_from t j k)
narrow-attrs t h zero j = tt
narrow-attrs t h (suc k) j =
    let a = attr_at t j in
    let l = h j in
    (omega (arith, length-take-most a.name (drop a.start t.bytes)), omega (arith, length-take-most a.value (drop (a.start + a.name) t.bytes)), narrow-attrs t h k (suc j))

-- rows whose names and values fit two bytes
abbrev pub RowsNarrow : List Row → Type 0
RowsNarrow [] = Unit {0}
RowsNarrow (x ∷ xs) = Narrow x.attrs × RowsNarrow xs

rows-narrow : (t : Table) → NarrowRecords t → (k i : ℕ) → RowsNarrow (rows_from t i k)
rows-narrow t h zero i = tt
rows-narrow t h (suc k) i = (narrow-attrs t h (node_at t i).attrs (node_at t i).first, rows-narrow t h k (suc i))

narrow-left : (xs ys : List Row) → RowsNarrow (xs ++ ys) → RowsNarrow xs × RowsNarrow ys
narrow-left [] ys h = (tt, h)
narrow-left (x ∷ xs) ys h = let r = narrow-left xs ys h.1 in ((h.0, r.0), r.1)

widths-flatten : (t : Forest) (d : ℕ) → RowsNarrow (flatten d t) → Widths t
widths-flatten none d h = tt
widths-flatten (node m k c a kids rest) d h = let r = narrow-left (flatten (suc d) kids) (flatten d rest) h.1 in (h.0, widths-flatten kids (suc d) r.0, widths-flatten rest d r.1)

narrow-append : (xs ys : List Row) → RowsNarrow xs → RowsNarrow ys → RowsNarrow (xs ++ ys)
narrow-append [] ys h k = k
narrow-append (x ∷ xs) ys h k = (h.0, narrow-append xs ys h.1 k)

pub narrow-flatten : (t : Forest) (d : ℕ) → Widths t → RowsNarrow (flatten d t)
narrow-flatten none d h = tt
narrow-flatten (node m k c a kids rest) d h = (h.0, narrow-append (flatten (suc d) kids) (flatten d rest) (narrow-flatten kids (suc d) h.1) (narrow-flatten rest d h.2))

is-document : (k : NodeKind) → is_document k ≡ true → k ≡ Document
is-document Document h = refl
is-document Doctype h = absurd (both_ways false refl h)
is-document Text h = absurd (both_ways false refl h)
is-document Comment h = absurd (both_ways false refl h)
is-document Element h = absurd (both_ways false refl h)

-- the first row of accepted records
first-row : (t : Table) (n : ℕ) → n ≡ length t.nodes → Accepted t → (kind_of (parse 0 0 (rows_from t 0 n)) ≡ Some Document) × (content_of (parse 0 0 (rows_from t 0 n)) ≡ [])
first-row t zero e a = absurd (omega (arith, a.sizes.some_nodes))
first-row t (suc k) e a =
    let rows = rows_from t 1 k in
    let ok : formed (rows_from t 0 (suc k)) ≡ true = ap (λ n. formed (rows_from t 0 n)) e ∙ table-formed t a in
    let f = form (row_at t 0) rows ok in
    let is = parse-at 0 0 (row_at t 0) rows f.root in
    let g = a.good 0 (omega (arith, a.sizes.some_nodes)) in
    let zero-kind : (node_at t 0).kind ≡ 0 = eqb-true (node_at t 0).kind 0 g.kind in
    let none-there : (node_at t 0).len ≡ 0 = eqb-true _ _ ((λ q. not (eqb (sym zero-kind q) 0) || eqb (node_at t 0).len 0) ∙ (laid t 0 g.layout).document) in
    (ap kind_of is ∙ ap Some (is-document (kind_with (node_at t 0).kind) f.document), ap content_of is ∙ ap (part t (node_at t 0).start) none-there)

-- the counts of accepted records are those of their tree
pub table-totals : (t : Table) → Accepted t → (size (tree_of t) ≡ length t.nodes) × (attr_total (tree_of t) ≡ length t.attrs) × (byte_total (tree_of t) ≡ length t.bytes)
table-totals t a =
    let r = (rows_of-tree (rows_of t) (table-formed t a)).0 in
    let same = ap tabulate r ∙ tabulated t a in (
      sym (size-flatten (tree_of t) 0) ∙ (ap length r ∙ length-rows_of t),
      sym (attrs-flatten (tree_of t) 0) ∙ (sym (length-all_attrs 0 (flatten 0 (tree_of t))) ∙ ap (λ (s : Table). length s.attrs) same),
      sym (bytes-flatten (tree_of t) 0) ∙ ap (λ (s : Table). length s.bytes) same,
    )

-- accepted records mean a tree that fits, and are its records
pub accepted-tree : (t : Table) → Accepted t → NarrowRecords t → Fits (tree_of t) × (tabulate (flatten 0 (tree_of t)) ≡ t)
accepted-tree t a narrow =
    let ok = table-formed t a in
    let r = rows_of-tree (rows_of t) ok in
    let same = ap tabulate r.0 ∙ tabulated t a in
    let counts = table-totals t a in
    let first = first-row t (length t.nodes) refl a in
    let law = table_kept t a in (
      record {
        law = subst (λ n. Kept n (tree_of t)) (sym counts.0) law;
        document = first.0;
        empty = first.1;
        ordered = r.1;
        nodes = omega (arith, counts.0, a.sizes.few_nodes);
        attrs = omega (arith, counts.1, a.sizes.few_attrs);
        bytes = omega (arith, counts.2, a.sizes.few_bytes);
        height = low-enough (rows_of t) ok;
        widths = widths-flatten (tree_of t) 0 (subst RowsNarrow (sym r.0) (rows-narrow t narrow (length t.nodes) 0));
      },
      same,
    )
  where
    low-enough : (xs : List Row) → formed xs ≡ true → height_of (parse 0 0 xs) ≤ 62
    low-enough [] h = absurd (both_ways false refl h)
    low-enough (x ∷ xs) h =
        let f = form x xs h in
        omega (arith, ap height_of (parse-at 0 0 x xs f.root), parse-levels xs (reach x) 1 1 f.next, parse-levels xs (reach x) 1 0 f.next)
