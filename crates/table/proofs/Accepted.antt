-- What it means that every check of the nodes was answered yes.
use Rattle.std.proofs.Common.{◌≡◌, ℕ, zero, suc, ◌+◌, ◌-◌, ◌<◌, ◌≤◌, Bool, true, false, cond, not, ◌&&◌, ◌||◌, eqb, leb, ◌⊎◌, length, sym, refl, ap, ◌∙◌, subst, inl, inr, arith, length-take}
use Rattle.std.proofs.lemmas.Bool.{and_parts, or_cases, eqb-true, ne_eqb, leb-true, both_ways, cond-true, cond-false, le-leb, cases_eq}
use Rattle.page.specs.declared.kind.NodeKind.{NodeKind}
use Rattle.page.specs.declared.kind.NodeKind.TheVariants.{Document, Doctype, Text, Comment, Element}
use Rattle.page.specs.Kinds.{is_element, is_document, if_text}
use Rattle.page.specs.Kept.{AttrsFormed, Kept}
use Rattle.utf8.specs.Table.{well_formed}
use Rattle.table.specs.declared.record.NodeRecord.{NodeRecord}
use Rattle.table.specs.declared.record.Section.{Section}
use Rattle.table.specs.declared.record.Section.TheVariants.{Nodes, Attributes, Bytes}
use Rattle.table.specs.declared.record.Check.TheVariants.{SectionsEnd}
use Rattle.table.specs.Rows.{is_parent, reach, empty, bare, steps, total, formed, RowsFormed}
use Rattle.table.specs.Table.{Table, node_at, attr_at, part, kind_with, attrs_from, row_at, rows_from, rows_of, tree_of}
use Rattle.table.specs.Checks.{each, kind_ok, depth_ok, is_parent_code, layout_ok, formed_ok, attr_ok, attr_formed, attr_end, attr_start, attrs_before, bytes_before, ends_ok, in_range, least, most, answer, granted, of_node, of_nodes, accepts}
use Rattle.table.proofs.Each.{each_at}
use Rattle.table.proofs.Asked.{granted-parts}
use Rattle.table.proofs.Lawful.{kept}

-- what the layout of a node says
pub record Laid (t : Table) (i : ℕ) : Type 0 where
  pub element : (eqb (node_at t i).attrs 0 || eqb (node_at t i).kind 4) ≡ true
  pub document : (not (eqb (node_at t i).kind 0) || eqb (node_at t i).len 0) ≡ true
  pub first : (node_at t i).first ≡ attrs_before t i
  pub attrs : (node_at t i).first + (node_at t i).attrs ≤ length t.attrs
  pub start : (node_at t i).start ≡ bytes_before t i
  pub bytes : (node_at t i).start + (node_at t i).len ≤ length t.bytes
  pub run : each (node_at t i).attrs (attr_ok t (node_at t i)) ≡ true

pub laid : (t : Table) (i : ℕ) → layout_ok t i ≡ true → Laid t i
laid t i h =
    let x = node_at t i in
    let a = and_parts (eqb x.attrs 0 || eqb x.kind 4) _ h in
    let b = and_parts (not (eqb x.kind 0) || eqb x.len 0) _ a.1 in
    let c = and_parts (eqb x.first (attrs_before t i)) _ b.1 in
    let d = and_parts (leb (x.first + x.attrs) (length t.attrs)) _ c.1 in
    let e = and_parts (eqb x.start (bytes_before t i)) _ d.1 in
    let g = and_parts (leb (x.start + x.len) (length t.bytes)) _ e.1 in
    record { element = a.0; document = b.0; first = eqb-true _ _ c.0; attrs = leb-true _ _ d.0; start = eqb-true _ _ e.0; bytes = leb-true _ _ g.0; run = g.1 }

-- a node whose checks were answered yes
pub record Good (t : Table) (i : ℕ) : Type 0 where
  pub kind : kind_ok t i ≡ true
  pub depth : depth_ok t i ≡ true
  pub layout : layout_ok t i ≡ true
  pub formed : formed_ok t i ≡ true

good-here : (t : Table) (i : ℕ) → granted (answer t) (of_node i) ≡ true → Good t i
good-here t i h =
    let a = and_parts (kind_ok t i) _ h in
    let b = and_parts (depth_ok t i) _ a.1 in
    let c = and_parts (layout_ok t i) _ b.1 in
    let d = and_parts (formed_ok t i) true c.1 in
    record { kind = a.0; depth = b.0; layout = c.0; formed = d.0 }

pub goods : (t : Table) (k i n : ℕ) → granted (answer t) (of_nodes i k) ≡ true → i ≤ n → n < i + k → Good t n
goods t zero i n h a b = absurd (omega arith)
goods t (suc k) i n h a b =
    let p = granted-parts (answer t) (of_node i) (of_nodes (suc i) k) h in
    go (cases_eq i n) (good-here t i p.0) (λ (l : suc i ≤ n). goods t k (suc i) n p.1 l (omega arith))
  where
    go : (i ≡ n) ⊎ (i ≡ n → ⊥) → Good t i → (suc i ≤ n → Good t n) → Good t n
    go (inl e) g r = subst (Good t) e g
    go (inr e) g r = r (omega arith)

pub last-good : (t : Table) (k i n : ℕ) → n ≡ i + k → granted (answer t) (of_nodes i k) ≡ true → answer t (SectionsEnd n) ≡ true
last-good t zero i n e h = let z : n ≡ i = omega arith in subst (λ m. answer t (SectionsEnd m) ≡ true) (sym z) (and_parts (answer t (SectionsEnd i)) true h).0
last-good t (suc k) i n e h = last-good t k (suc i) n (omega arith) (granted-parts (answer t) (of_node i) (of_nodes (suc i) k) h).1

-- what a later node's kind and depth say
not-zero : (k : ℕ) → 1 ≤ k → is_document (kind_with k) ≡ false
not-zero k l = go (eqb k 0) (eqb k 1) (eqb k 2) (eqb k 3) (ne_eqb k 0 (λ e. omega arith))
  where
    go : (a b c d : Bool) → a ≡ false → is_document (cond a Document (cond b Doctype (cond c Text (cond d Comment Element)))) ≡ false
    go true b c d e = absurd (both_ways true e refl)
    go false true c d e = refl
    go false false true d e = refl
    go false false false true e = refl
    go false false false false e = refl

four : (k : ℕ) → eqb k 4 ≡ true → is_element (kind_with k) ≡ true
four k h = ap (λ n. is_element (kind_with n)) (eqb-true k 4 h)

parent-kind : (k : ℕ) → is_parent_code k ≡ true → is_parent (kind_with k) ≡ true
parent-kind k h = go (or_cases (eqb k 0) (eqb k 4) h)
  where
    go : (eqb k 0 ≡ true) ⊎ (eqb k 4 ≡ true) → is_parent (kind_with k) ≡ true
    go (inl e) = ap (λ n. is_parent (kind_with n)) (eqb-true k 0 e)
    go (inr e) = ap (λ n. is_parent (kind_with n)) (eqb-true k 4 e)

no-attrs : (t : Table) (j n : ℕ) → eqb n 0 ≡ true → empty (attrs_from t j n) ≡ true
no-attrs t j n e = ap (λ k. empty (attrs_from t j k)) (eqb-true n 0 e)

row-bare : (t : Table) (i : ℕ) → layout_ok t i ≡ true → bare (row_at t i) ≡ true
row-bare t i h = go (or_cases (eqb (node_at t i).attrs 0) (eqb (node_at t i).kind 4) (laid t i h).element)
  where
    either : (a b : Bool) → (a ≡ true) ⊎ (b ≡ true) → (a || b) ≡ true
    either true b h = refl
    either false true h = refl
    either false false (inl e) = e
    either false false (inr e) = e

    go : (eqb (node_at t i).attrs 0 ≡ true) ⊎ (eqb (node_at t i).kind 4 ≡ true) → bare (row_at t i) ≡ true
    go (inl e) = either (is_element (kind_with (node_at t i).kind)) _ (inr (no-attrs t (node_at t i).first (node_at t i).attrs e))
    go (inr e) = either (is_element (kind_with (node_at t i).kind)) _ (inl (four (node_at t i).kind e))

record Later (t : Table) (i : ℕ) : Type 0 where
  kind : 1 ≤ (node_at t (suc i)).kind
  low : 1 ≤ (node_at t (suc i)).depth
  high : (node_at t (suc i)).depth ≤ 62
  near : (node_at t (suc i)).depth ≤ reach (row_at t i)

suc_one : (i : ℕ) → suc i - 1 ≡ i
suc_one i = omega arith

later : (t : Table) (i : ℕ) → Good t (suc i) → Later t i
later t i g =
    let off = ne_eqb (suc i) 0 (λ e. omega arith) in
    let k = (node_at t (suc i)).kind in
    let d = (node_at t (suc i)).depth in
    let q = node_at t i in
    let kind = and_parts (leb 1 k) (leb k 4) (sym (cond-false (eqb (suc i) 0) (eqb k 0) (leb 1 k && leb k 4) off) ∙ g.kind) in
    let b = node_at t (suc i - 1) in
    let deep = sym (cond-false (eqb (suc i) 0) (eqb d 0) (leb 1 d && (leb d 62 && (leb d b.depth || (eqb d (b.depth + 1) && is_parent_code b.kind)))) off) ∙ g.depth in
    let a = and_parts (leb 1 d) (leb d 62 && (leb d b.depth || (eqb d (b.depth + 1) && is_parent_code b.kind))) deep in
    let c = and_parts (leb d 62) (leb d b.depth || (eqb d (b.depth + 1) && is_parent_code b.kind)) a.1 in
    let same : (leb d q.depth || (eqb d (q.depth + 1) && is_parent_code q.kind)) ≡ true = subst (λ n. (leb d (node_at t n).depth || (eqb d ((node_at t n).depth + 1) && is_parent_code (node_at t n).kind)) ≡ true) (suc_one i) c.1 in
    record { kind = leb-true _ _ kind.0; low = leb-true _ _ a.0; high = leb-true _ _ c.0; near = go d (or_cases (leb d q.depth) (eqb d (q.depth + 1) && is_parent_code q.kind) same) }
  where
    wide : (b : Bool) (n : ℕ) → n ≤ cond b (suc n) n
    wide true n = omega arith
    wide false n = omega arith

    go : (d : ℕ) → (leb d (node_at t i).depth ≡ true) ⊎ ((eqb d ((node_at t i).depth + 1) && is_parent_code (node_at t i).kind) ≡ true) → d ≤ reach (row_at t i)
    go d (inl e) = omega (arith, leb-true _ _ e, wide (is_parent (kind_with (node_at t i).kind)) (node_at t i).depth)
    go d (inr e) =
        let p = and_parts (eqb d ((node_at t i).depth + 1)) _ e in
        let up = cond-true (is_parent (kind_with (node_at t i).kind)) (suc (node_at t i).depth) (node_at t i).depth (parent-kind (node_at t i).kind p.1) in
        omega (arith, up, eqb-true _ _ p.0)

all_true : (a b c d e g : Bool) → a ≡ true → b ≡ true → c ≡ true → d ≡ true → e ≡ true → g ≡ true → ((a && (b && (c && (d && e)))) && g) ≡ true
all_true true true true true true true h1 h2 h3 h4 h5 h6 = refl
all_true false b c d e g h1 h2 h3 h4 h5 h6 = h1
all_true true false c d e g h1 h2 h3 h4 h5 h6 = h2
all_true true true false d e g h1 h2 h3 h4 h5 h6 = h3
all_true true true true false e g h1 h2 h3 h4 h5 h6 = h4
all_true true true true true false g h1 h2 h3 h4 h5 h6 = h5
all_true true true true true true false h1 h2 h3 h4 h5 h6 = h6

rows_step : (t : Table) (k i : ℕ) → ((n : ℕ) → i < n → n < suc i + k → Good t n) → steps (reach (row_at t i)) (rows_from t (suc i) k) ≡ true
rows_step t zero i g = refl
rows_step t (suc k) i g =
    let h = g (suc i) (omega arith) (omega arith) in
    let l = later t i h in
    all_true (leb 1 (node_at t (suc i)).depth) (leb (node_at t (suc i)).depth (reach (row_at t i))) (leb (node_at t (suc i)).depth 62) (not (is_document (kind_with (node_at t (suc i)).kind))) (bare (row_at t (suc i))) (steps (reach (row_at t (suc i))) (rows_from t (suc (suc i)) k))
    (le-leb _ _ l.low) (le-leb _ _ l.near) (le-leb _ _ l.high) (ap not (not-zero (node_at t (suc i)).kind l.kind)) (row-bare t (suc i) h.layout)
    (rows_step t k (suc i) (λ n a b. g n (omega arith) (omega arith)))

pub start-next : (t : Table) (x : NodeRecord) (n : ℕ) → attr_start t x (suc n) ≡ attr_end t (x.first + n)
start-next t x n =
    cond-false (eqb (suc n) 0) (x.start + x.len) (attr_end t (x.first + (suc n - 1))) (ne_eqb (suc n) 0 (λ e. omega arith)) ∙ ap (λ m. attr_end t (x.first + m)) (suc_one n)

pub start-grows : (t : Table) (x : NodeRecord) (n : ℕ) → each n (attr_ok t x) ≡ true → x.start + x.len ≤ attr_start t x n
start-grows t x zero h = omega arith
start-grows t x (suc n) h =
    let p = and_parts (attr_ok t x n) (each n (attr_ok t x)) h in
    let s = eqb-true _ _ (and_parts (eqb (attr_at t (x.first + n)).start (attr_start t x n)) _ p.0).0 in
    omega (arith, start-next t x n, s, start-grows t x n p.1)

pub bytes_next : (t : Table) (i : ℕ) → bytes_before t (suc i) ≡ attr_start t (node_at t i) (node_at t i).attrs
bytes_next t i =
    cond-false (eqb (suc i) 0) 0 (attr_start t (node_at t (suc i - 1)) (node_at t (suc i - 1)).attrs) (ne_eqb (suc i) 0 (λ e. omega arith)) ∙ ap (λ m. attr_start t (node_at t m) (node_at t m).attrs) (suc_one i)

text-most : (k : NodeKind) (n : ℕ) → if_text k n ≤ n
text-most Document n = omega arith
text-most Doctype n = omega arith
text-most Text n = omega arith
text-most Comment n = omega arith
text-most Element n = omega arith

total-rows : (t : Table) (k i : ℕ) → ((n : ℕ) → i ≤ n → n < i + k → Good t n) → total (rows_from t i k) + bytes_before t i ≤ bytes_before t (i + k)
total-rows t zero i g = let z : i + 0 ≡ i = omega arith in subst (λ n. 0 + bytes_before t i ≤ bytes_before t n) (sym z) (omega arith)
total-rows t (suc k) i g =
    let h = laid t i (g i (omega arith) (omega arith)).layout in
    let x = node_at t i in
    let z : suc i + k ≡ i + suc k = omega arith in
    let rest = subst (λ n. total (rows_from t (suc i) k) + bytes_before t (suc i) ≤ bytes_before t n) z (total-rows t k (suc i) (λ n a b. g n (omega arith) (omega arith))) in
    let long : length (part t x.start x.len) ≤ x.len = simp length-take (omega arith) in
    omega (arith, text-most (kind_with x.kind) (length (part t x.start x.len)), rest, bytes_next t i, start-grows t x x.attrs h.run, h.start)

length-rows : (t : Table) (k i : ℕ) → length (rows_from t i k) ≡ k
length-rows t zero i = refl
length-rows t (suc k) i = ap suc (length-rows t k (suc i))

-- the counts
pub record Sized (t : Table) : Type 0 where
  pub some_nodes : 1 ≤ length t.nodes
  pub few_nodes : length t.nodes ≤ 4096
  pub few_attrs : length t.attrs ≤ 8192
  pub few_bytes : length t.bytes ≤ 131072

-- the whole
pub record Accepted (t : Table) : Type 0 where
  pub sizes : Sized t
  pub good : (n : ℕ) → n < length t.nodes → Good t n
  pub ends : ends_ok t (length t.nodes) ≡ true

in-range : (s : Section) (n : ℕ) → in_range s n ≡ true → (least s ≤ n) × (n ≤ most s)
in-range s n h = let a = and_parts (leb (least s) n) (leb n (most s)) h in (leb-true (least s) n a.0, leb-true n (most s) a.1)

pub accepted : (t : Table) → accepts t ≡ true → Accepted t
accepted t h =
    let a = and_parts (in_range Nodes (length t.nodes)) _ h in
    let b = and_parts (in_range Attributes (length t.attrs)) _ a.1 in
    let c = and_parts (in_range Bytes (length t.bytes)) (granted (answer t) (of_nodes 0 (length t.nodes))) b.1 in
    record {
      sizes = record { some_nodes = (in-range Nodes _ a.0).0; few_nodes = (in-range Nodes _ a.0).1; few_attrs = (in-range Attributes _ b.0).1; few_bytes = (in-range Bytes _ c.0).1 };
      good = λ n l. goods t (length t.nodes) 0 n c.1 (omega arith) (omega arith);
      ends = last-good t (length t.nodes) 0 (length t.nodes) (omega arith) c.1;
    }

pub bytes-end : (t : Table) → Accepted t → bytes_before t (length t.nodes) ≡ length t.bytes
bytes-end t a = eqb-true _ _ (and_parts (eqb (attrs_before t (length t.nodes)) (length t.attrs)) (eqb (bytes_before t (length t.nodes)) (length t.bytes)) a.ends).1

rows-formed : (t : Table) (n : ℕ) → n ≡ length t.nodes → Accepted t → formed (rows_from t 0 n) ≡ true
rows-formed t zero e a = absurd (omega (arith, a.sizes.some_nodes))
rows-formed t (suc k) e a =
    let g = a.good 0 (omega (arith, a.sizes.some_nodes)) in
    let first = eqb-true (node_at t 0).kind 0 g.kind in
    let all = total-rows t (suc k) 0 (λ n x y. a.good n (omega arith)) in
    let end : bytes_before t (0 + suc k) ≡ length t.bytes = (let z : 0 + suc k ≡ length t.nodes = omega arith in ap (bytes_before t) z) ∙ bytes-end t a in
    all_true (eqb (node_at t 0).depth 0) (is_document (kind_with (node_at t 0).kind)) (bare (row_at t 0)) (leb (suc (length (rows_from t 1 k))) 4096) (leb (total (rows_from t 0 (suc k))) 131072) (steps (reach (row_at t 0)) (rows_from t 1 k))
    g.depth (ap (λ n. is_document (kind_with n)) first) (row-bare t 0 g.layout)
    (le-leb _ _ (omega (arith, length-rows t k 1, a.sizes.few_nodes)))
    (le-leb _ _ (omega (arith, all, end, a.sizes.few_bytes)))
    (rows_step t k 0 (λ n x y. a.good n (omega arith)))

pub table-formed : (t : Table) → Accepted t → formed (rows_of t) ≡ true
table-formed t a = rows-formed t (length t.nodes) refl a

pub length-rows_of : (t : Table) → length (rows_of t) ≡ length t.nodes
length-rows_of t = length-rows t (length t.nodes) 0

-- the parts of an attribute, and of a node, are well-formed
attrs-formed : (t : Table) (k j : ℕ) → ((q : ℕ) → q < k → attr_formed t (j + q) ≡ true) → AttrsFormed (attrs_from t j k)
attrs-formed t zero j h = tt
attrs-formed t (suc k) j h =
    let z : j + 0 ≡ j = omega arith in
    let p = and_parts (well_formed (part t (attr_at t j).start (attr_at t j).name)) _ (subst (λ m. attr_formed t m ≡ true) z (h 0 (omega arith))) in
    (p.0, p.1, attrs-formed t k (suc j) (λ q l. let y : j + suc q ≡ suc j + q = omega arith in subst (λ m. attr_formed t m ≡ true) y (h (suc q) (omega arith))))

texts-formed : (t : Table) (k i : ℕ) → ((n : ℕ) → i ≤ n → n < i + k → Good t n) → RowsFormed (rows_from t i k)
texts-formed t zero i g = tt
texts-formed t (suc k) i g =
    let x = node_at t i in
    let h = (g i (omega arith) (omega arith)).formed in
    let p = and_parts (well_formed (part t x.start x.len)) _ h in
    (p.0, attrs-formed t x.attrs x.first (λ q l. each_at (λ k. attr_formed t (x.first + k)) x.attrs q l p.1), texts-formed t k (suc i) (λ n a b. g n (omega arith) (omega arith)))

pub table-texts : (t : Table) → Accepted t → RowsFormed (rows_of t)
table-texts t a = texts-formed t (length t.nodes) 0 (λ n x y. a.good n (omega arith))

-- the tree of accepted records keeps the law of a page
pub table_kept : (t : Table) → Accepted t → Kept (length t.nodes) (tree_of t)
table_kept t a = subst (λ n. Kept n (tree_of t)) (length-rows_of t) (kept (rows_of t) (table-formed t a) (table-texts t a))

-- only the root stands at depth 0
pub root-depth : (t : Table) → Accepted t → (node_at t 0).depth ≡ 0
root-depth t a = eqb-true (node_at t 0).depth 0 (a.good 0 (omega (arith, a.sizes.some_nodes))).depth

pub later-depth : (t : Table) → Accepted t → (k : ℕ) → 0 < k → k < length t.nodes → 1 ≤ (node_at t k).depth
later-depth t a zero l b = absurd (omega arith)
later-depth t a (suc k) l b = (later t k (a.good (suc k) b)).low

pub attrs-next : (t : Table) (i : ℕ) → attrs_before t (suc i) ≡ (node_at t i).first + (node_at t i).attrs
attrs-next t i =
    cond-false (eqb (suc i) 0) 0 ((node_at t (suc i - 1)).first + (node_at t (suc i - 1)).attrs) (ne_eqb (suc i) 0 (λ e. omega arith)) ∙ ap (λ m. (node_at t m).first + (node_at t m).attrs) (suc_one i)

pub attrs-end : (t : Table) → Accepted t → attrs_before t (length t.nodes) ≡ length t.attrs
attrs-end t a = eqb-true _ _ (and_parts (eqb (attrs_before t (length t.nodes)) (length t.attrs)) (eqb (bytes_before t (length t.nodes)) (length t.bytes)) a.ends).0

pub kind-most : (t : Table) (i : ℕ) → Good t i → (node_at t i).kind ≤ 4
kind-most t zero g = omega (arith, eqb-true (node_at t 0).kind 0 g.kind)
kind-most t (suc i) g =
    let k = (node_at t (suc i)).kind in
    let h = and_parts (leb 1 k) (leb k 4) (sym (cond-false (eqb (suc i) 0) (eqb k 0) (leb 1 k && leb k 4) (ne_eqb (suc i) 0 (λ e. omega arith))) ∙ g.kind) in
    leb-true k 4 h.1
