-- The records of rows that fit are accepted, and mean those rows.
use Rattle.std.proofs.Common.{◌≡◌, ℕ, zero, suc, ◌+◌, ◌-◌, ◌<◌, ◌≤◌, Bool, true, false, cond, not, ◌&&◌, ◌||◌, eqb, leb, ◌⊎◌, List, [], ◌∷◌, ◌++◌, length, sym, refl, ap, ◌∙◌, subst, inl, inr, append-nil, arith, length-append}
use Rattle.std.proofs.lemmas.Bool.{eq-eqb, le-leb, cases_eq, cond-false, ne_eqb, both_ways, or_left, or_right, and_from}
use Rattle.utf8.specs.Table.{well_formed}
use Rattle.page.specs.declared.kind.NodeKind.{NodeKind}
use Rattle.page.specs.declared.kind.NodeKind.TheVariants.{Document, Doctype, Text, Comment, Element}
use Rattle.page.specs.Kinds.{code, is_element, is_document}
use Rattle.page.specs.Kept.{AttrsFormed}
use Rattle.table.specs.declared.record.NodeRecord.{NodeRecord}
use Rattle.table.specs.declared.record.AttrRecord.{AttrRecord}
use Rattle.table.specs.declared.record.Section.{Section}
use Rattle.table.specs.declared.record.Section.TheVariants.{Nodes, Attributes, Bytes}
use Rattle.table.specs.Rows.{Row, is_parent, empty, bare, reach, steps, formed, RowsFormed}
use Rattle.table.specs.Table.{Table, node_at, attr_at, no_node, no_attr, part, kind_with, attr_of, attrs_from, row_at, rows_from, rows_of}
use Rattle.table.specs.Checks.{each, attr_ok, attr_end, attr_formed, attr_start, layout_ok, formed_ok, kind_ok, depth_ok, ends_ok, is_parent_code, attrs_before, bytes_before, in_range, least, most, answer, granted, of_node, of_nodes, accepts}
use Rattle.table.specs.Tabulate.{joined, bytes_of, node_records, attr_records, all_attrs, all_bytes, tabulate}
use Rattle.table.proofs.Parse.{step}
use Rattle.table.proofs.Lawful.{form}
use Rattle.table.proofs.Asked.{granted-join}
use Rattle.table.proofs.Accepted.{start-next, attrs-next, bytes_next}
use Rattle.table.proofs.At.{At, at_left, at_right, at-get, at_part}

abbrev pub attr_count : List Row → ℕ
attr_count [] = 0
attr_count (x ∷ xs) = length x.attrs + attr_count xs

abbrev pub RootEmpty : List Row → Type 0
RootEmpty [] = Unit {0}
RootEmpty (x ∷ xs) = x.content ≡ []

-- rows that fit a stored page
pub record RowsFit (xs : List Row) : Type 0 where
  pub shape : formed xs ≡ true
  pub root : RootEmpty xs
  pub texts : RowsFormed xs
  pub attrs : attr_count xs ≤ 8192
  pub bytes : length (all_bytes xs) ≤ 131072

each_all : (t : ℕ → Bool) (n : ℕ) → ((q : ℕ) → q < n → t q ≡ true) → each n t ≡ true
each_all t zero h = refl
each_all t (suc n) h = and_from (t n) (each n t) (h n (omega arith)) (each_all t n (λ q l. h q (omega arith)))

seven : (a b c d e g h : Bool) → a ≡ true → b ≡ true → c ≡ true → d ≡ true → e ≡ true → g ≡ true → h ≡ true → (a && (b && (c && (d && (e && (g && h)))))) ≡ true
seven a b c d e g h p1 p2 p3 p4 p5 p6 p7 = and_from a _ p1 (and_from b _ p2 (and_from c _ p3 (and_from d _ p4 (and_from e _ p5 (and_from g h p6 p7)))))

pick : (P : ℕ → Type 0) (m q : ℕ) → m ≤ q → (q ≡ m) ⊎ (q ≡ m → ⊥) → P m → (suc m ≤ q → P q) → P q
pick P m q c (inl e) here there = subst P (sym e) here
pick P m q c (inr e) here there = there (omega arith)

pub length-records : (s : ℕ) (more : List (List ℕ × List ℕ)) → length (attr_records s more) ≡ length more
length-records s [] = refl
length-records s (a ∷ more) = ap suc (length-records (s + length a.0 + length a.1) more)

pub length-nodes : (a b : ℕ) (xs : List Row) → length (node_records a b xs) ≡ length xs
length-nodes a b [] = refl
length-nodes a b (x ∷ xs) = ap suc (length-nodes (a + length x.attrs) (b + length (bytes_of x)) xs)

pub length-all_attrs : (b : ℕ) (xs : List Row) → length (all_attrs b xs) ≡ attr_count xs
length-all_attrs b [] = refl
length-all_attrs b (x ∷ xs) =
    omega (arith, length-append (attr_records (b + length x.content) x.attrs) (all_attrs (b + length (bytes_of x)) xs), length-records (b + length x.content) x.attrs, length-all_attrs (b + length (bytes_of x)) xs)

kind-same : (k : NodeKind) → kind_with (code k) ≡ k
kind-same Document = refl
kind-same Doctype = refl
kind-same Text = refl
kind-same Comment = refl
kind-same Element = refl

element-code : (k : NodeKind) (l : List (List ℕ × List ℕ)) → (is_element k || empty l) ≡ true → (eqb (length l) 0 || eqb (code k) 4) ≡ true
element-code k [] h = refl
element-code Element (a ∷ l) h = go (eqb (length (a ∷ l)) 0)
  where
    go : (v : Bool) → (v || true) ≡ true
    go true = refl
    go false = refl
element-code Document (a ∷ l) h = absurd (both_ways false refl h)
element-code Doctype (a ∷ l) h = absurd (both_ways false refl h)
element-code Text (a ∷ l) h = absurd (both_ways false refl h)
element-code Comment (a ∷ l) h = absurd (both_ways false refl h)

document-code : (k : NodeKind) (c : List ℕ) → (is_document k ≡ true → c ≡ []) → (not (eqb (code k) 0) || eqb (length c) 0) ≡ true
document-code Document c h = ap (λ l. not (eqb 0 0) || eqb (length l) 0) (h refl)
document-code Doctype c h = refl
document-code Text c h = refl
document-code Comment c h = refl
document-code Element c h = refl

later-code : (k : NodeKind) → is_document k ≡ false → (leb 1 (code k) && leb (code k) 4) ≡ true
later-code Document h = absurd (both_ways true h refl)
later-code Doctype h = refl
later-code Text h = refl
later-code Comment h = refl
later-code Element h = refl

first_code : (k : NodeKind) → is_document k ≡ true → code k ≡ 0
first_code Document h = refl
first_code Doctype h = absurd (both_ways false refl h)
first_code Text h = absurd (both_ways false refl h)
first_code Comment h = absurd (both_ways false refl h)
first_code Element h = absurd (both_ways false refl h)

-- a depth at most one more than the node before, and more only under one that has children
leaf : (d p : ℕ) (v : Bool) → d ≤ p → (leb d p || v) ≡ true
leaf d p v l = or_left (leb d p) v (le-leb d p l)

inner : (d p : ℕ) → d ≤ suc p → (leb d p || (eqb d (p + 1) && true)) ≡ true
inner d p l = go (cases_eq d (p + 1))
  where
    go : (d ≡ p + 1) ⊎ (d ≡ p + 1 → ⊥) → (leb d p || (eqb d (p + 1) && true)) ≡ true
    go (inl e) = or_right (leb d p) _ (and_from (eqb d (p + 1)) true (eq-eqb d (p + 1) e) refl)
    go (inr e) = leaf d p _ (omega arith)

near : (k : NodeKind) (d p : ℕ) → d ≤ cond (is_parent k) (suc p) p → (leb d p || (eqb d (p + 1) && is_parent_code (code k))) ≡ true
near Document d p l = inner d p l
near Doctype d p l = leaf d p _ l
near Text d p l = leaf d p _ l
near Comment d p l = leaf d p _ l
near Element d p l = inner d p l

module _ (t : Table) where
  record AttrsRead (x : NodeRecord) (m s : ℕ) (more : List (List ℕ × List ℕ)) : Type 0 where
    same : attrs_from t (x.first + m) (length more) ≡ more
    ok : (q : ℕ) → m ≤ q → q < m + length more → attr_ok t x q ≡ true
    formed : (q : ℕ) → m ≤ q → q < m + length more → attr_formed t (x.first + q) ≡ true
    after : attr_start t x (m + length more) ≡ s + length (joined more)

  attrs-read : (more : List (List ℕ × List ℕ)) (x : NodeRecord) (m s : ℕ) → AttrsFormed more
      → At t.attrs (x.first + m) (attr_records s more) → At t.bytes s (joined more)
      → attr_start t x m ≡ s → s + length (joined more) ≤ length t.bytes → AttrsRead x m s more
  attrs-read [] x m s fit ha hb e l =
      record {
        same = refl;
        ok = λ q a b. absurd (omega arith);
        formed = λ q a b. absurd (omega arith);
        after = (let z : m + 0 ≡ m = omega arith in ap (attr_start t x) z) ∙ (e ∙ omega arith);
      }
  attrs-read (a ∷ more) x m s fit ha hb e l =
      let j = x.first + m in
      let la = length a.0 in
      let lv = length a.1 in
      let sum : length (joined (a ∷ more)) ≡ la + (lv + length (joined more)) = length-append a.0 (a.1 ++ joined more) ∙ ap (λ k. la + k) (length-append a.1 (joined more)) in
      let R : AttrRecord = record { name = la; value = lv; start = s } in
      let rec : attr_at t j ≡ R = at-get t.attrs j R (attr_records (s + la + lv) more) no_attr ha in
      let name : part t s la ≡ a.0 = at_part t.bytes s a.0 (at_left t.bytes s a.0 (a.1 ++ joined more) hb) in
      let hv = at_right t.bytes s (s + la) a.0 (a.1 ++ joined more) refl hb in
      let value : part t (s + la) lv ≡ a.1 = at_part t.bytes (s + la) a.1 (at_left t.bytes (s + la) a.1 (joined more) hv) in
      let hn = at_right t.bytes (s + la) (s + la + lv) a.1 (joined more) refl hv in
      let one : attr_of t j ≡ a = ap (λ (r : AttrRecord). (part t r.start r.name, part t (r.start + r.name) r.value)) rec ∙ (λ q. (name q, value q)) in
      let end : attr_end t j ≡ s + la + lv = ap (λ (r : AttrRecord). r.start + r.name + r.value) rec in
      let next : attr_start t x (suc m) ≡ s + la + lv = start-next t x m ∙ end in
      let hr = at_right t.attrs j (x.first + suc m) (R ∷ []) (attr_records (s + la + lv) more) (omega arith) ha in
      let r = attrs-read more x (suc m) (s + la + lv) fit.2 hr hn next (omega arith) in
      let z : suc j ≡ x.first + suc m = omega arith in
      let y : m + suc (length more) ≡ suc m + length more = omega arith in
      let start : (attr_at t j).start ≡ attr_start t x m = ap (λ (r : AttrRecord). r.start) rec ∙ sym e in
      let ok-here : attr_ok t x m ≡ true = and_from (eqb (attr_at t j).start (attr_start t x m)) (leb (attr_end t j) (length t.bytes)) (eq-eqb _ _ start) (le-leb _ _ (omega arith)) in
      let formed-here : attr_formed t j ≡ true =
      and_from (well_formed (attr_of t j).0) (well_formed (attr_of t j).1) (ap (λ (k : List ℕ × List ℕ). well_formed k.0) one ∙ fit.0) (ap (λ (k : List ℕ × List ℕ). well_formed k.1) one ∙ fit.1) in
      record {
        same = (λ q. one q ∷ attrs_from t (z q) (length more)) ∙ ap (λ k. a ∷ k) r.same;
        ok = λ q c d. pick (λ k. attr_ok t x k ≡ true) m q c (cases_eq q m) ok-here (λ (h : suc m ≤ q). r.ok q h (omega arith));
        formed = λ q c d. pick (λ k. attr_formed t (x.first + k) ≡ true) m q c (cases_eq q m) formed-here (λ (h : suc m ≤ q). r.formed q h (omega arith));
        after = ap (attr_start t x) y ∙ (r.after ∙ omega arith);
      }

  -- what is left to read at node i, after a attributes and b bytes
  record State (i a b : ℕ) (xs : List Row) : Type 0 where
    nodes : At t.nodes i (node_records a b xs)
    attrs : At t.attrs a (all_attrs b xs)
    bytes : At t.bytes b (all_bytes xs)
    all-attrs : a + attr_count xs ≡ length t.attrs
    all-bytes : b + length (all_bytes xs) ≡ length t.bytes
    before-attrs : attrs_before t i ≡ a
    before-bytes : bytes_before t i ≡ b

  record RowRead (i a b : ℕ) (x : Row) (xs : List Row) : Type 0 where
    is : row_at t i ≡ x
    kind : (node_at t i).kind ≡ code x.kind
    depth : (node_at t i).depth ≡ x.depth
    layout : layout_ok t i ≡ true
    formed : formed_ok t i ≡ true
    next : State (suc i) (a + length x.attrs) (b + length (bytes_of x)) xs

  row_read : (x : Row) (xs : List Row) (i a b : ℕ) → well_formed x.content ≡ true → AttrsFormed x.attrs → bare x ≡ true → (is_document x.kind ≡ true → x.content ≡ []) → State i a b (x ∷ xs) → RowRead i a b x xs
  row_read x xs i a b text fit plain doc st =
      let c = length x.content in
      let n = length x.attrs in
      let rows : length (bytes_of x) ≡ c + length (joined x.attrs) = length-append x.content (joined x.attrs) in
      let sum : length (all_bytes (x ∷ xs)) ≡ length (bytes_of x) + length (all_bytes xs) = length-append (bytes_of x) (all_bytes xs) in
      let aa = st.all-attrs in
      let bb = st.all-bytes in
      let R : NodeRecord = record { kind = code x.kind; depth = x.depth; attrs = n; first = a; start = b; len = c } in
      let N = node_records (a + n) (b + length (bytes_of x)) xs in
      let rec : node_at t i ≡ R = at-get t.nodes i R N no_node st.nodes in
      let r = node_at t i in
      let ek : r.kind ≡ code x.kind = ap (λ (y : NodeRecord). y.kind) rec in
      let et : r.attrs ≡ n = ap (λ (y : NodeRecord). y.attrs) rec in
      let ef : r.first ≡ a = ap (λ (y : NodeRecord). y.first) rec in
      let es : r.start ≡ b = ap (λ (y : NodeRecord). y.start) rec in
      let el : r.len ≡ c = ap (λ (y : NodeRecord). y.len) rec in
      let A = attr_records (b + c) x.attrs in
      let A2 = all_attrs (b + length (bytes_of x)) xs in
      let pa : a ≡ r.first + 0 = omega arith in
      let ha = subst (λ p. At t.attrs p A) pa (at_left t.attrs a A A2 st.attrs) in
      let hb = at_left t.bytes b (bytes_of x) (all_bytes xs) st.bytes in
      let hc = at_left t.bytes b x.content (joined x.attrs) hb in
      let hj = at_right t.bytes b (b + c) x.content (joined x.attrs) refl hb in
      let p0 : attr_start t r 0 ≡ b + c = omega arith in
      let ar = attrs-read x.attrs r 0 (b + c) fit ha hj p0 (omega arith) in
      let content : part t b c ≡ x.content = at_part t.bytes b x.content hc in
      let za : 0 + n ≡ r.attrs = omega arith in
      let attrs : attrs_from t a n ≡ x.attrs = ap (λ k. attrs_from t k n) pa ∙ ar.same in
      record {
        is = ap (λ (y : NodeRecord). record { kind = kind_with y.kind; depth = y.depth; content = part t y.start y.len; attrs = attrs_from t y.first y.attrs }) rec ∙ (λ q. record { kind = kind-same x.kind q; depth = x.depth; content = content q; attrs = attrs q });
        kind = ek;
        depth = ap (λ (y : NodeRecord). y.depth) rec;
        layout =
            seven (eqb r.attrs 0 || eqb r.kind 4) (not (eqb r.kind 0) || eqb r.len 0) (eqb r.first (attrs_before t i)) (leb (r.first + r.attrs) (length t.attrs)) (eqb r.start (bytes_before t i)) (leb (r.start + r.len) (length t.bytes)) (each r.attrs (attr_ok t r))
            ((λ q. eqb (et q) 0 || eqb (ek q) 4) ∙ element-code x.kind x.attrs plain)
            ((λ q. not (eqb (ek q) 0) || eqb (el q) 0) ∙ document-code x.kind x.content doc)
            (eq-eqb _ _ (ef ∙ sym st.before-attrs))
            (le-leb _ _ (omega arith))
            (eq-eqb _ _ (es ∙ sym st.before-bytes))
            (le-leb _ _ (omega arith))
            (each_all (attr_ok t r) r.attrs (λ q l. ar.ok q (omega arith) (omega arith)));
        formed =
            and_from (well_formed (part t r.start r.len)) (each r.attrs (λ k. attr_formed t (r.first + k)))
            ((λ q. well_formed (part t (es q) (el q))) ∙ (ap well_formed content ∙ text))
            (each_all (λ k. attr_formed t (r.first + k)) r.attrs (λ q l. ar.formed q (omega arith) (omega arith)));
        next =
            record {
              nodes = at_right t.nodes i (suc i) (R ∷ []) N (omega arith) st.nodes;
              attrs = at_right t.attrs a (a + n) A A2 (ap (λ k. a + k) (length-records (b + c) x.attrs)) st.attrs;
              bytes = at_right t.bytes b (b + length (bytes_of x)) (bytes_of x) (all_bytes xs) refl st.bytes;
              all-attrs = omega arith;
              all-bytes = omega arith;
              before-attrs = attrs-next t i ∙ (λ q. ef q + et q);
              before-bytes = bytes_next t i ∙ (ap (attr_start t r) (sym za) ∙ (ar.after ∙ omega arith));
            };
      }

  rows-read : (xs : List Row) (i a b : ℕ) (prev : Row) → (node_at t i).kind ≡ code prev.kind → (node_at t i).depth ≡ prev.depth
      → steps (reach prev) xs ≡ true → RowsFormed xs → State (suc i) a b xs → (granted (answer t) (of_nodes (suc i) (length xs)) ≡ true) × (rows_from t (suc i) (length xs) ≡ xs)
  rows-read [] i a b prev ek ed h fit st =
      let aa = st.all-attrs in
      let bb = st.all-bytes in
      (and_from (ends_ok t (suc i)) true (and_from (eqb (attrs_before t (suc i)) (length t.attrs)) (eqb (bytes_before t (suc i)) (length t.bytes)) (eq-eqb _ _ (st.before-attrs ∙ omega arith)) (eq-eqb _ _ (st.before-bytes ∙ omega arith))) refl, refl)
  rows-read (x ∷ xs) i a b prev ek ed h fit st =
      let s = step (reach prev) x xs h in
      let doc : is_document x.kind ≡ true → x.content ≡ [] = λ e. absurd (both_ways (is_document x.kind) s.inner e) in
      let r = row_read x xs (suc i) a b fit.0 fit.1 s.plain doc st in
      let off = ne_eqb (suc i) 0 (λ e. omega arith) in
      let n = node_at t (suc i) in
      let one : suc i - 1 ≡ i = omega arith in
      let kind : kind_ok t (suc i) ≡ true = cond-false (eqb (suc i) 0) (eqb n.kind 0) (leb 1 n.kind && leb n.kind 4) off ∙ (ap (λ k. leb 1 k && leb k 4) r.kind ∙ later-code x.kind s.inner) in
      let tail : (d p k : ℕ) → Bool = λ d p k. leb 1 d && (leb d 62 && (leb d p || (eqb d (p + 1) && is_parent_code k))) in
      let deep : tail x.depth prev.depth (code prev.kind) ≡ true = and_from (leb 1 x.depth) _ (le-leb _ _ s.low) (and_from (leb x.depth 62) _ (le-leb _ _ s.flat) (near prev.kind x.depth prev.depth s.high)) in
      let depth : depth_ok t (suc i) ≡ true =
      cond-false (eqb (suc i) 0) (eqb n.depth 0) (tail n.depth (node_at t (suc i - 1)).depth (node_at t (suc i - 1)).kind) off
      ∙ (ap (λ q. tail n.depth (node_at t q).depth (node_at t q).kind) one ∙ ((λ q. tail (r.depth q) (ed q) (ek q)) ∙ deep)) in
      let more = rows-read xs (suc i) (a + length x.attrs) (b + length (bytes_of x)) x r.kind r.depth s.next fit.2 r.next in (
        granted-join (answer t) (of_node (suc i)) (of_nodes (suc (suc i)) (length xs))
            (and_from (kind_ok t (suc i)) _ kind (and_from (depth_ok t (suc i)) _ depth (and_from (layout_ok t (suc i)) _ r.layout (and_from (formed_ok t (suc i)) true r.formed refl)))) more.0,
        (λ q. r.is q ∷ more.1 q),
      )

  -- from the first node on
  first_read : (x : Row) (xs : List Row) → RowsFit (x ∷ xs) → State 0 0 0 (x ∷ xs) → (granted (answer t) (of_nodes 0 (suc (length xs))) ≡ true) × (rows_from t 0 (suc (length xs)) ≡ x ∷ xs)
  first_read x xs fit st =
      let g = form x xs fit.shape in
      let r = row_read x xs 0 0 0 fit.texts.0 fit.texts.1 g.plain (λ e. fit.root) st in
      let more = rows-read xs 0 (0 + length x.attrs) (0 + length (bytes_of x)) x r.kind r.depth g.next fit.texts.2 r.next in (
        granted-join (answer t) (of_node 0) (of_nodes 1 (length xs))
            (and_from (kind_ok t 0) _ (eq-eqb _ _ (r.kind ∙ first_code x.kind g.document)) (and_from (depth_ok t 0) _ (eq-eqb _ _ (r.depth ∙ g.root)) (and_from (layout_ok t 0) _ r.layout (and_from (formed_ok t 0) true r.formed refl)))) more.0,
        (λ q. r.is q ∷ more.1 q),
      )

pub in-range : (s : Section) (n : ℕ) → least s ≤ n → n ≤ most s → in_range s n ≡ true
in-range s n a b = and_from (leb (least s) n) (leb n (most s)) (le-leb (least s) n a) (le-leb n (most s) b)

-- the records of rows that fit are accepted, and mean those rows
pub reread : (xs : List Row) → RowsFit xs → (accepts (tabulate xs) ≡ true) × (rows_of (tabulate xs) ≡ xs)
reread [] fit = absurd (both_ways false refl fit.shape)
reread (x ∷ xs) fit =
    let t = tabulate (x ∷ xs) in
    let few = (form x xs fit.shape).few in
    let fa = fit.attrs in
    let fb = fit.bytes in
    let ln = length-nodes 0 0 (x ∷ xs) in
    let la = length-all_attrs 0 (x ∷ xs) in
    let st : State t 0 0 0 (x ∷ xs) =
    record {
      nodes = record { rest = []; is = sym (append-nil t.nodes) };
      attrs = record { rest = []; is = sym (append-nil t.attrs) };
      bytes = record { rest = []; is = sym (append-nil t.bytes) };
      all-attrs = omega arith;
      all-bytes = omega arith;
      before-attrs = refl;
      before-bytes = refl;
    } in
    let r = first_read t x xs fit st in (
      and_from (in_range Nodes (length t.nodes)) _ (in-range Nodes (length t.nodes) (omega arith) (omega arith))
          (and_from (in_range Attributes (length t.attrs)) _ (in-range Attributes (length t.attrs) (omega arith) (omega arith))
          (and_from (in_range Bytes (length t.bytes)) _ (in-range Bytes (length t.bytes) (omega arith) (omega arith))
          (ap (λ k. granted (answer t) (of_nodes 0 k)) ln ∙ r.0))),
      ap (rows_from t 0) ln ∙ r.1,
    )
