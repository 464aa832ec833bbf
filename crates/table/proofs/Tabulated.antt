-- Accepted records are those of their rows.
use Rattle.std.proofs.Common.{◌≡◌, ℕ, zero, suc, ◌+◌, ◌<◌, ◌≤◌, true, eqb, ◌∷◌, ◌++◌, length, drop, sym, refl, ap, ◌∙◌, append_assoc, arith, length-append, length-drop, take-append-drop, length-take, drop-cons}
use Rattle.std.proofs.lemmas.List.{drop-drop, drop_all}
use Rattle.std.proofs.lemmas.Bool.{and_parts, eqb-true, leb-true}
use Rattle.page.specs.Kinds.{code}
use Rattle.table.specs.Table.{Table, node_at, attr_at, no_node, no_attr, part, kind_with, attrs_from, row_at, rows_from, rows_of}
use Rattle.table.specs.Checks.{attr_ok, attr_end, attr_start, attrs_before, bytes_before}
use Rattle.table.specs.Tabulate.{joined, bytes_of, node_records, attr_records, all_attrs, all_bytes, tabulate}
use Rattle.table.proofs.Each.{each_at}
use Rattle.table.proofs.Accepted.{Accepted, Laid, laid, start-next, bytes_next, attrs-next, bytes-end, attrs-end, kind-most}

code-back : (k : ℕ) → k ≤ 4 → code (kind_with k) ≡ k
code-back zero l = refl
code-back (suc zero) l = refl
code-back (suc (suc zero)) l = refl
code-back (suc (suc (suc zero))) l = refl
code-back (suc (suc (suc (suc zero)))) l = refl
code-back (suc (suc (suc (suc (suc k))))) l = absurd (omega arith)

pub length-attrs : (t : Table) (k j : ℕ) → length (attrs_from t j k) ≡ k
length-attrs t zero j = refl
length-attrs t (suc k) j = ap suc (length-attrs t k (suc j))

-- a part and what follows it
part-rest : (t : Table) (s l : ℕ) → part t s l ++ drop (s + l) t.bytes ≡ drop s t.bytes
part-rest t s l = ap (λ r. part t s l ++ r) (sym (drop-drop l s t.bytes)) ∙ take-append-drop l (drop s t.bytes)

module _ (t : Table) (acc : Accepted t) where
  pub length_part : (s l : ℕ) → s + l ≤ length t.bytes → length (part t s l) ≡ l
  length_part s l h = simp (length-take, length-drop) (omega arith)

  module _ (i : ℕ) (at : i < length t.nodes) where
    put : Laid t i
    put = laid t i (acc.good i at).layout

    run_ok : (q : ℕ) → q < (node_at t i).attrs → attr_ok t (node_at t i) q ≡ true
    run_ok q l = each_at (attr_ok t (node_at t i)) (node_at t i).attrs q l put.run

    attr-start : (q : ℕ) → q < (node_at t i).attrs → (attr_at t ((node_at t i).first + q)).start ≡ attr_start t (node_at t i) q
    attr-start q l = eqb-true _ _ (and_parts (eqb (attr_at t ((node_at t i).first + q)).start (attr_start t (node_at t i) q)) _ (run_ok q l)).0

    pub attr-in : (q : ℕ) → q < (node_at t i).attrs → attr_end t ((node_at t i).first + q) ≤ length t.bytes
    attr-in q l = leb-true _ _ (and_parts (eqb (attr_at t ((node_at t i).first + q)).start (attr_start t (node_at t i) q)) _ (run_ok q l)).1

    -- the bytes of the attributes from m on, and what follows them
    joined-run : (k m : ℕ) → m + k ≡ (node_at t i).attrs
        → joined (attrs_from t ((node_at t i).first + m) k) ++ drop (attr_start t (node_at t i) (m + k)) t.bytes ≡ drop (attr_start t (node_at t i) m) t.bytes
    joined-run zero m e = let z : m + 0 ≡ m = omega arith in ap (λ q. drop (attr_start t (node_at t i) q) t.bytes) z
    joined-run (suc k) m e =
        let j = (node_at t i).first + m in
        let a = attr_at t j in
        let z : suc j ≡ (node_at t i).first + suc m = omega arith in
        let y : m + suc k ≡ suc m + k = omega arith in
        let N = part t a.start a.name in
        let V = part t (a.start + a.name) a.value in
        let R = joined (attrs_from t (suc j) k) in
        let D = drop (attr_start t (node_at t i) (m + suc k)) t.bytes in
        let rest : R ++ D ≡ drop (a.start + a.name + a.value) t.bytes =
        (λ q. joined (attrs_from t (z q) k) ++ drop (attr_start t (node_at t i) (y q)) t.bytes) ∙ (joined-run k (suc m) (omega arith) ∙ ap (λ p. drop p t.bytes) (start-next t (node_at t i) m)) in
        append_assoc N (V ++ R) D
        ∙ (ap (λ l. N ++ l) (append_assoc V R D ∙ (ap (λ l. V ++ l) rest ∙ part-rest t (a.start + a.name) a.value))
        ∙ (part-rest t a.start a.name ∙ ap (λ p. drop p t.bytes) (attr-start m (omega arith))))

    -- the records of the attributes from m on, and what follows them
    attrs-run : (k m : ℕ) → m + k ≡ (node_at t i).attrs
        → attr_records (attr_start t (node_at t i) m) (attrs_from t ((node_at t i).first + m) k) ++ drop ((node_at t i).first + (m + k)) t.attrs ≡ drop ((node_at t i).first + m) t.attrs
    attrs-run zero m e = let z : m + 0 ≡ m = omega arith in ap (λ q. drop ((node_at t i).first + q) t.attrs) z
    attrs-run (suc k) m e =
        let f = (node_at t i).first in
        let j = f + m in
        let a = attr_at t j in
        let inside = attr-in m (omega arith) in
        let few = put.attrs in
        let n-long : length (part t a.start a.name) ≡ a.name = length_part a.start a.name (omega arith) in
        let v-long : length (part t (a.start + a.name) a.value) ≡ a.value = length_part (a.start + a.name) a.value (omega arith) in
        let s = attr-start m (omega arith) in
        let next : attr_start t (node_at t i) m + length (part t a.start a.name) + length (part t (a.start + a.name) a.value) ≡ attr_start t (node_at t i) (suc m) = omega (arith, start-next t (node_at t i) m) in
        let z : suc j ≡ f + suc m = omega arith in
        let y : f + (m + suc k) ≡ f + (suc m + k) = omega arith in
        (λ q. record { name = n-long q; value = v-long q; start = sym s q } ∷ (attr_records (next q) (attrs_from t (z q) k) ++ drop (y q) t.attrs))
        ∙ (ap (λ l. a ∷ l) (attrs-run k (suc m) (omega arith) ∙ ap (λ p. drop p t.attrs) (sym z)) ∙ sym (drop-cons t.attrs j no_attr (omega arith)))

    row-bytes : bytes_of (row_at t i) ++ drop (bytes_before t (suc i)) t.bytes ≡ drop (bytes_before t i) t.bytes
    row-bytes =
        let r = node_at t i in
        let z : r.first ≡ r.first + 0 = omega arith in
        let n : r.attrs ≡ 0 + r.attrs = omega arith in
        let y : bytes_before t (suc i) ≡ attr_start t r (0 + r.attrs) = bytes_next t i ∙ ap (attr_start t r) n in
        append_assoc (part t r.start r.len) (joined (attrs_from t r.first r.attrs)) _
        ∙ (ap (λ l. part t r.start r.len ++ l)
        ((λ q. joined (attrs_from t (z q) r.attrs) ++ drop (y q) t.bytes) ∙ joined-run r.attrs 0 (omega arith))
        ∙ (part-rest t r.start r.len ∙ ap (λ p. drop p t.bytes) put.start))

    row-attrs : attr_records (bytes_before t i + length (part t (node_at t i).start (node_at t i).len)) (attrs_from t (node_at t i).first (node_at t i).attrs) ++ drop (attrs_before t (suc i)) t.attrs ≡ drop (attrs_before t i) t.attrs
    row-attrs =
        let r = node_at t i in
        let z : r.first ≡ r.first + 0 = omega arith in
        let y : attrs_before t (suc i) ≡ r.first + (0 + r.attrs) = omega (arith, attrs-next t i) in
        let b : bytes_before t i + length (part t r.start r.len) ≡ attr_start t r 0 = omega (arith, put.start, length_part r.start r.len put.bytes) in
        let a : r.first + 0 ≡ attrs_before t i = omega (arith, put.first) in
        (λ q. attr_records (b q) (attrs_from t (z q) r.attrs) ++ drop (y q) t.attrs) ∙ (attrs-run r.attrs 0 (omega arith) ∙ ap (λ p. drop p t.attrs) a)

    start-in : (q : ℕ) → q ≤ (node_at t i).attrs → attr_start t (node_at t i) q ≤ length t.bytes
    start-in zero l = put.bytes
    start-in (suc q) l = omega (arith, start-next t (node_at t i) q, attr-in q (omega arith))

    row-length : bytes_before t i + length (bytes_of (row_at t i)) ≡ bytes_before t (suc i)
    row-length =
        let here : bytes_before t i ≤ length t.bytes = omega (arith, put.start, put.bytes) in
        let next : bytes_before t (suc i) ≤ length t.bytes = omega (arith, bytes_next t i, start-in (node_at t i).attrs (omega arith)) in
        omega (arith, length-append (bytes_of (row_at t i)) (drop (bytes_before t (suc i)) t.bytes), ap length row-bytes, length-drop (bytes_before t (suc i)) t.bytes, length-drop (bytes_before t i) t.bytes)

  -- the records, attributes and bytes of the rows from i on are what is left of them
  nodes-from : (k i : ℕ) → i + k ≡ length t.nodes → node_records (attrs_before t i) (bytes_before t i) (rows_from t i k) ≡ drop i t.nodes
  nodes-from zero i e = sym (drop_all i t.nodes (omega arith))
  nodes-from (suc k) i e =
      let at : i < length t.nodes = omega arith in
      let r = node_at t i in
      let p = put i at in
      let kind = code-back r.kind (kind-most t i (acc.good i at)) in
      let attrs = length-attrs t r.attrs r.first in
      let len = length_part r.start r.len p.bytes in
      let a : attrs_before t i + length (attrs_from t r.first r.attrs) ≡ attrs_before t (suc i) = omega (arith, attrs-next t i, p.first) in
      (λ q. record { kind = kind q; depth = r.depth; attrs = attrs q; first = sym p.first q; start = sym p.start q; len = len q } ∷ node_records (a q) (row-length i at q) (rows_from t (suc i) k))
      ∙ (ap (λ l. r ∷ l) (nodes-from k (suc i) (omega arith)) ∙ sym (drop-cons t.nodes i no_node at))

  attrs-from : (k i : ℕ) → i + k ≡ length t.nodes → all_attrs (bytes_before t i) (rows_from t i k) ≡ drop (attrs_before t i) t.attrs
  attrs-from zero i e =
      let z : i ≡ length t.nodes = omega arith in
      sym (ap (λ p. drop (attrs_before t p) t.attrs) z ∙ (ap (λ p. drop p t.attrs) (attrs-end t acc) ∙ drop_all (length t.attrs) t.attrs (omega arith)))
  attrs-from (suc k) i e =
      let at : i < length t.nodes = omega arith in
      let A = attr_records (bytes_before t i + length (part t (node_at t i).start (node_at t i).len)) (attrs_from t (node_at t i).first (node_at t i).attrs) in
      ap (λ l. A ++ l) (ap (λ b. all_attrs b (rows_from t (suc i) k)) (row-length i at) ∙ attrs-from k (suc i) (omega arith)) ∙ row-attrs i at

  bytes-from : (k i : ℕ) → i + k ≡ length t.nodes → all_bytes (rows_from t i k) ≡ drop (bytes_before t i) t.bytes
  bytes-from zero i e =
      let z : i ≡ length t.nodes = omega arith in
      sym (ap (λ p. drop (bytes_before t p) t.bytes) z ∙ (ap (λ p. drop p t.bytes) (bytes-end t acc) ∙ drop_all (length t.bytes) t.bytes (omega arith)))
  bytes-from (suc k) i e = ap (λ l. bytes_of (row_at t i) ++ l) (bytes-from k (suc i) (omega arith)) ∙ row-bytes i (omega arith)

  -- accepted records are those of their rows
  pub tabulated : tabulate (rows_of t) ≡ t
  tabulated =
      let n = length t.nodes in
      λ q. record { nodes = nodes-from n 0 (omega arith) q; attrs = attrs-from n 0 (omega arith) q; bytes = bytes-from n 0 (omega arith) q }
