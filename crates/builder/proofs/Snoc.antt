-- One row more, and one attribute more of the last row: the records, and that they still fit.
use Rattle.std.proofs.Common.{◌≡◌, ℕ, zero, suc, ◌+◌, ◌<◌, ◌≤◌, true, false, not, ◌&&◌, ◌||◌, eqb, leb, List, [], ◌∷◌, ◌++◌, length, sym, refl, ap, ◌∙◌, append_assoc, append-nil, arith, length-append}
use Rattle.std.proofs.lemmas.Bool.Decides.{nat_tests}
use Rattle.std.proofs.lemmas.Bool.{and_parts, and_from, eqb-true, both_ways}
use Rattle.utf8.specs.Table.{well_formed}
use Rattle.page.specs.declared.kind.NodeKind.{NodeKind}
use Rattle.page.specs.declared.kind.NodeKind.TheVariants.{Document, Doctype, Text, Comment, Element}
use Rattle.page.specs.Kinds.{code, is_document, if_text}
use Rattle.page.specs.Kept.{AttrsFormed}
use Rattle.table.specs.declared.record.NodeRecord.{NodeRecord}
use Rattle.table.specs.Rows.{Row, reach, bare, steps, total, formed, RowsFormed}
use Rattle.table.specs.Table.{Table, node_at, part, row_at, rows_from, rows_of}
use Rattle.table.specs.Tabulate.{joined, bytes_of, node_records, attr_records, all_attrs, all_bytes, tabulate}
use Rattle.table.proofs.Lawful.{form}
use Rattle.table.proofs.Accepted.{Accepted, laid, table-formed, table-texts}
use Rattle.table.proofs.Tabulated.{tabulated}
use Rattle.table.proofs.Reread.{attr_count, RootEmpty, RowsFit, length-all_attrs}

-- the rows of accepted records fit
module _ (t : Table) (acc : Accepted t) where
  root-empty : (n : ℕ) → n ≡ length t.nodes → RootEmpty (rows_from t 0 n)
  root-empty zero e = tt
  root-empty (suc k) e =
      let g = acc.good 0 (omega arith) in
      let zero-kind : (node_at t 0).kind ≡ 0 = eqb-true (node_at t 0).kind 0 g.kind in
      let none-there : (node_at t 0).len ≡ 0 = eqb-true _ _ ((λ q. not (eqb (sym zero-kind q) 0) || eqb (node_at t 0).len 0) ∙ (laid t 0 g.layout).document) in
      ap (part t (node_at t 0).start) none-there

  pub rows_fit : RowsFit (rows_of t)
  rows_fit =
      record {
        shape = table-formed t acc;
        root = root-empty (length t.nodes) refl;
        texts = table-texts t acc;
        attrs = omega (arith, length-all_attrs 0 (rows_of t), ap (λ (s : Table). length s.attrs) (tabulated t acc), acc.sizes.few_attrs);
        bytes = omega (arith, ap (λ (s : Table). length s.bytes) (tabulated t acc), acc.sizes.few_bytes);
      }

-- the rows with the last one apart
pub rows_last : (t : Table) (k i : ℕ) → rows_from t i (suc k) ≡ rows_from t i k ++ (row_at t (i + k) ∷ [])
rows_last t zero i = let z : i ≡ i + 0 = omega arith in ap (λ n. row_at t n ∷ []) z
rows_last t (suc k) i = let z : suc i + k ≡ i + suc k = omega arith in ap (λ l. row_at t i ∷ l) (rows_last t k (suc i) ∙ ap (λ n. rows_from t (suc i) k ++ (row_at t n ∷ [])) z)

-- the records of rows one after the other
nodes-append : (xs ys : List Row) (a b : ℕ) → node_records a b (xs ++ ys) ≡ node_records a b xs ++ node_records (a + attr_count xs) (b + length (all_bytes xs)) ys
nodes-append [] ys a b = let y : a ≡ a + 0 = omega arith in let z : b ≡ b + 0 = omega arith in λ q. node_records (y q) (z q) ys
nodes-append (x ∷ xs) ys a b =
    let y : a + length x.attrs + attr_count xs ≡ a + attr_count (x ∷ xs) = omega arith in
    let z : b + length (bytes_of x) + length (all_bytes xs) ≡ b + length (all_bytes (x ∷ xs)) = omega (arith, length-append (bytes_of x) (all_bytes xs)) in
    ap (λ l. record { kind = code x.kind; depth = x.depth; attrs = length x.attrs; first = a; start = b; len = length x.content } ∷ l)
    (nodes-append xs ys (a + length x.attrs) (b + length (bytes_of x)) ∙ (λ q. node_records (a + length x.attrs) (b + length (bytes_of x)) xs ++ node_records (y q) (z q) ys))

attrs-append : (xs ys : List Row) (b : ℕ) → all_attrs b (xs ++ ys) ≡ all_attrs b xs ++ all_attrs (b + length (all_bytes xs)) ys
attrs-append [] ys b = let z : b ≡ b + 0 = omega arith in ap (λ n. all_attrs n ys) z
attrs-append (x ∷ xs) ys b =
    let A = attr_records (b + length x.content) x.attrs in
    let z : b + length (bytes_of x) + length (all_bytes xs) ≡ b + length (all_bytes (x ∷ xs)) = omega (arith, length-append (bytes_of x) (all_bytes xs)) in
    ap (λ l. A ++ l) (attrs-append xs ys (b + length (bytes_of x))) ∙ (sym (append_assoc A (all_attrs (b + length (bytes_of x)) xs) (all_attrs (b + length (bytes_of x) + length (all_bytes xs)) ys))
    ∙ ap (λ n. (A ++ all_attrs (b + length (bytes_of x)) xs) ++ all_attrs n ys) z)

bytes-append : (xs ys : List Row) → all_bytes (xs ++ ys) ≡ all_bytes xs ++ all_bytes ys
bytes-append [] ys = refl
bytes-append (x ∷ xs) ys = ap (λ l. bytes_of x ++ l) (bytes-append xs ys) ∙ sym (append_assoc (bytes_of x) (all_bytes xs) (all_bytes ys))

-- the record of a row behind the records u
abbrev pub record_behind : Table → Row → NodeRecord
record_behind u y = record { kind = code y.kind; depth = y.depth; attrs = length y.attrs; first = length u.attrs; start = length u.bytes; len = length y.content }

abbrev pub behind : Table → Row → Table
behind u y = record {
  nodes = u.nodes ++ (record_behind u y ∷ []);
  attrs = u.attrs ++ attr_records (length u.bytes + length y.content) y.attrs;
  bytes = u.bytes ++ bytes_of y;
}

pub tabulate-snoc : (xs : List Row) (y : Row) → tabulate (xs ++ (y ∷ [])) ≡ behind (tabulate xs) y
tabulate-snoc xs y =
    let a : 0 + attr_count xs ≡ length (all_attrs 0 xs) = omega (arith, length-all_attrs 0 xs) in
    let b : 0 + length (all_bytes xs) ≡ length (all_bytes xs) = omega arith in
    let n = nodes-append xs (y ∷ []) 0 0 ∙ (λ q. node_records 0 0 xs ++ (record { kind = code y.kind; depth = y.depth; attrs = length y.attrs; first = a q; start = b q; len = length y.content } ∷ [])) in
    let t = attrs-append xs (y ∷ []) 0 ∙ ap (λ l. all_attrs 0 xs ++ l) (append-nil _ ∙ ap (λ m. attr_records (m + length y.content) y.attrs) b) in
    let s = bytes-append xs (y ∷ []) ∙ ap (λ l. all_bytes xs ++ l) (append-nil (bytes_of y)) in
    λ q. record { nodes = n q; attrs = t q; bytes = s q }

-- one attribute more
pub attr_records-snoc : (xs : List (List ℕ × List ℕ)) (a : List ℕ × List ℕ) (b : ℕ)
    → attr_records b (xs ++ (a ∷ [])) ≡ attr_records b xs ++ (record { name = length a.0; value = length a.1; start = b + length (joined xs) } ∷ [])
attr_records-snoc [] a b = let z : b ≡ b + 0 = omega arith in ap (λ n. record { name = length a.0; value = length a.1; start = n } ∷ []) z
attr_records-snoc (x ∷ xs) a b =
    let z : b + length x.0 + length x.1 + length (joined xs) ≡ b + length (joined (x ∷ xs)) = omega (arith, length-append x.0 (x.1 ++ joined xs), length-append x.1 (joined xs)) in
    ap (λ l. record { name = length x.0; value = length x.1; start = b } ∷ l)
    (attr_records-snoc xs a (b + length x.0 + length x.1) ∙ ap (λ n. attr_records (b + length x.0 + length x.1) xs ++ (record { name = length a.0; value = length a.1; start = n } ∷ [])) z)

pub joined_snoc : (xs : List (List ℕ × List ℕ)) (a : List ℕ × List ℕ) → joined (xs ++ (a ∷ [])) ≡ joined xs ++ (a.0 ++ a.1)
joined_snoc [] a = ap (λ l. a.0 ++ l) (append-nil a.1)
joined_snoc (x ∷ xs) a =
    ap (λ l. x.0 ++ (x.1 ++ l)) (joined_snoc xs a) ∙ (ap (λ l. x.0 ++ l) (sym (append_assoc x.1 (joined xs) (a.0 ++ a.1))) ∙ sym (append_assoc x.0 (x.1 ++ joined xs) (a.0 ++ a.1)))

-- counts of rows one after the other
attr_count-append : (xs ys : List Row) → attr_count (xs ++ ys) ≡ attr_count xs + attr_count ys
attr_count-append [] ys = omega arith
attr_count-append (x ∷ xs) ys = omega (arith, attr_count-append xs ys)

formed-append : (xs ys : List Row) → RowsFormed xs → RowsFormed ys → RowsFormed (xs ++ ys)
formed-append [] ys h k = k
formed-append (x ∷ xs) ys h k = (h.0, h.1, formed-append xs ys h.2 k)

pub formed-parts : (xs ys : List Row) → RowsFormed (xs ++ ys) → RowsFormed xs × RowsFormed ys
formed-parts [] ys h = (tt, h)
formed-parts (x ∷ xs) ys h = let r = formed-parts xs ys h.2 in ((h.0, h.1, r.0), r.1)

root-append : (xs ys : List Row) → (xs ≡ [] → ⊥) → RootEmpty xs → RootEmpty (xs ++ ys)
root-append [] ys n h = absurd (n refl)
root-append (x ∷ xs) ys n h = h

text-most : (k : NodeKind) (n : ℕ) → if_text k n ≤ n
text-most Document n = omega arith
text-most Doctype n = omega arith
text-most Text n = omega arith
text-most Comment n = omega arith
text-most Element n = omega arith

-- texts are bytes
total-bytes : (xs : List Row) → total xs ≤ length (all_bytes xs)
total-bytes [] = omega arith
total-bytes (x ∷ xs) =
    omega (arith, text-most x.kind (length x.content), length-append x.content (joined x.attrs), length-append (bytes_of x) (all_bytes xs), total-bytes xs)

-- how deep the row behind may stand
abbrev pub last_reach : ℕ → List Row → ℕ
last_reach m [] = m
last_reach m (x ∷ xs) = last_reach (reach x) xs

pub last-reach : (xs : List Row) (z : Row) (m : ℕ) → last_reach m (xs ++ (z ∷ [])) ≡ reach z
last-reach [] z m = refl
last-reach (x ∷ xs) z m = last-reach xs z (reach x)

-- what is asked of one row more
pub record Next (m : ℕ) (y : Row) : Type 0 where
  pub low : 1 ≤ y.depth
  pub near : y.depth ≤ m
  pub high : y.depth ≤ 62
  pub inner : is_document y.kind ≡ false
  pub plain : bare y ≡ true

steps-snoc : (xs : List Row) (m : ℕ) (y : Row) → steps m xs ≡ true → Next (last_reach m xs) y → steps m (xs ++ (y ∷ [])) ≡ true
steps-snoc [] m y h n = grind (arith, nat_tests)
steps-snoc (x ∷ xs) m y h n = let p = and_parts _ (steps (reach x) xs) h in and_from _ _ p.0 (steps-snoc xs (reach x) y p.1 n)

pub fit-snoc : (xs : List Row) (y : Row) → RowsFit xs → Next (last_reach 0 xs) y → length xs < 4096 → well_formed y.content ≡ true → AttrsFormed y.attrs
    → attr_count xs + length y.attrs ≤ 8192 → length (all_bytes xs) + length (bytes_of y) ≤ 131072 → RowsFit (xs ++ (y ∷ []))
fit-snoc [] y fit n few text formed a b = absurd (both_ways false refl fit.shape)
fit-snoc (x ∷ xs) y fit n few text attrs a b =
    let all = (x ∷ xs) ++ (y ∷ []) in
    let f = form x xs fit.shape in
    let one : length (xs ++ (y ∷ [])) ≡ length xs + 1 = length-append xs (y ∷ []) in
    let long : length (all_bytes all) ≡ length (all_bytes (x ∷ xs)) + length (bytes_of y) = ap length (bytes-append (x ∷ xs) (y ∷ []) ∙ ap (λ l. all_bytes (x ∷ xs) ++ l) (append-nil (bytes_of y))) ∙ length-append (all_bytes (x ∷ xs)) (bytes_of y) in
    record {
      shape = let head = fit.shape in let more = steps-snoc xs (reach x) y f.next n in let most = total-bytes all in grind (arith, nat_tests);
      root = fit.root;
      texts = formed-append (x ∷ xs) (y ∷ []) fit.texts (text, attrs, tt);
      attrs = omega (arith, attr_count-append (x ∷ xs) (y ∷ []));
      bytes = omega arith;
    }

-- the last row is an element, which may have other attributes
steps-attrs : (ys : List Row) (m d : ℕ) (c : List ℕ) (a b : List (List ℕ × List ℕ))
    → steps m (ys ++ (record { kind = Element; depth = d; content = c; attrs = a } ∷ [])) ≡ steps m (ys ++ (record { kind = Element; depth = d; content = c; attrs = b } ∷ []))
steps-attrs [] m d c a b = refl
steps-attrs (y ∷ ys) m d c a b = ap (λ v. (leb 1 y.depth && (leb y.depth m && (leb y.depth 62 && (not (is_document y.kind) && bare y)))) && v) (steps-attrs ys (reach y) d c a b)

pub fit-attrs : (ys : List Row) (d : ℕ) (c : List ℕ) (a b : List (List ℕ × List ℕ))
    → RowsFit (ys ++ (record { kind = Element; depth = d; content = c; attrs = a } ∷ [])) → AttrsFormed b
    → attr_count ys + length b ≤ 8192 → length (all_bytes ys) + (length c + length (joined b)) ≤ 131072
    → RowsFit (ys ++ (record { kind = Element; depth = d; content = c; attrs = b } ∷ []))
fit-attrs [] d c a b fit fb na nb = absurd (both_ways false refl (let p = and_parts (eqb d 0 && false) true fit.shape in (and_parts (eqb d 0) false p.0).1))
fit-attrs (x ∷ xs) d c a b fit fb na nb =
    let y : Row = record { kind = Element; depth = d; content = c; attrs = a } in
    let z : Row = record { kind = Element; depth = d; content = c; attrs = b } in
    let all = (x ∷ xs) ++ (z ∷ []) in
    let f = form x (xs ++ (y ∷ [])) fit.shape in
    let texts = formed-parts (x ∷ xs) (y ∷ []) fit.texts in
    let few = f.few in
    let one : length (xs ++ (z ∷ [])) ≡ length (xs ++ (y ∷ [])) = length-append xs (z ∷ []) ∙ sym (length-append xs (y ∷ [])) in
    let long : length (all_bytes all) ≡ length (all_bytes (x ∷ xs)) + (length c + length (joined b)) = ap length (bytes-append (x ∷ xs) (z ∷ []) ∙ ap (λ l. all_bytes (x ∷ xs) ++ l) (append-nil (bytes_of z))) ∙ (length-append (all_bytes (x ∷ xs)) (bytes_of z) ∙ ap (λ n. length (all_bytes (x ∷ xs)) + n) (length-append c (joined b))) in
    record {
      shape = let head = fit.shape in let more = sym (steps-attrs xs (reach x) d c a b) ∙ f.next in let most = total-bytes all in grind (arith, nat_tests);
      root = fit.root;
      texts = formed-append (x ∷ xs) (z ∷ []) texts.0 (texts.1.0, fb, tt);
      attrs = omega (arith, attr_count-append (x ∷ xs) (z ∷ []));
      bytes = omega arith;
    }
