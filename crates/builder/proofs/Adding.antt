-- One node more: the records are those of one row more, the links match, and the state stays sound.
use Rattle.std.proofs.Common.{◌≡◌, ℕ, zero, suc, ◌+◌, ◌-◌, ◌<◌, ◌≤◌, max, Bool, true, false, cond, ltb, ◌≢◌, ◌⊎◌, List, [], ◌∷◌, ◌++◌, length, get_or, take, drop, set, Some, None, Option, sym, refl, ap, ◌∙◌, subst, inl, inr, append_assoc, append-nil, add-one, arith, length-append, length-drop, length-set, length-take-le, get_or-set_other, get_or-take, get_or-set_same, take-suc-set, take_at}
use lib.Seq.{take-set-lt, map-set_same, get_or_at}
use Rattle.std.proofs.lemmas.List.{map-append, get_or_past, get_or_append_left}
use Rattle.std.proofs.lemmas.Bool.Decides.{nat_tests}
use Rattle.std.proofs.lemmas.Bool.{cases_lt, cases_eq, cases_order, cond-true, cond-false, lt-ltb, le-ltb}
use Rattle.utf8.specs.Table.{well_formed}
use Rattle.page.specs.declared.kind.NodeKind.{NodeKind}
use Rattle.page.specs.declared.kind.NodeKind.TheVariants.{Document, Doctype, Text, Comment, Element}
use Rattle.page.specs.Kinds.{code, is_document}
use Rattle.table.specs.declared.record.NodeRecord.{NodeRecord}
use Rattle.table.specs.Rows.{Row, is_parent, reach, bare}
use Rattle.table.specs.Table.{Table, no_node, node_at, kind_with, row_at, rows_from, rows_of}
use Rattle.table.specs.Checks.{is_parent_code, accepts}
use Rattle.table.specs.Tabulate.{bytes_of, all_bytes, tabulate}
use Rattle.table.specs.Links.{depth_at, deepest}
use Rattle.table.proofs.Accepted.{length-rows_of}
use Rattle.table.proofs.Tabulated.{tabulated}
use Rattle.table.proofs.Reread.{RowsFit, reread}
use Rattle.linked.specs.declared.node.LinkedNode.{LinkedNode}
use Rattle.linked.specs.Links.{first_at, child_link, sibling_link}
use Rattle.linked.specs.Records.{no_linked, records_of, links_ok}
use Rattle.linked.proofs.Linked.{Linked, are-links, linked-at}
use Rattle.linked.proofs.Depths.{Above, is-above}
use Rattle.builder.specs.Put.{put}
use Rattle.builder.specs.State.{State, used_nodes, used_table}
use Rattle.builder.specs.Events.{row}
use Rattle.builder.specs.After.{next_depth, with_child, with_next, enter, new_node, with_node, inside}
use Rattle.builder.proofs.Snoc.{rows_fit, rows_last, behind, tabulate-snoc, last_reach, last-reach, fit-snoc}
use Rattle.builder.proofs.Depths.{parent-same, child-same, sibling-kept, sibling-new, sibling-none}
use Rattle.builder.proofs.Sound.{each_from, Deeper, Last, Sound, used-nodes, table-nodes, used-attrs, used-bytes, table-accepted, open_in}

-- bytes that were put, as far as they reach
pub take_put : (l : List ℕ) (at : ℕ) (c : List ℕ) → at ≤ length l → take (at + length c) (put l at c) ≡ take at l ++ c
take_put l at c h =
    ap (take (at + length c)) (sym (append_assoc (take at l) c (drop (at + length c) l))) ∙ take_at (take at l ++ c) (drop (at + length c) l) (at + length c) (length-append (take at l) c ∙ ap (λ n. n + length c) (length-take-le at l h))

-- entering a node changes no record but its links
records-set : (xs : List LinkedNode) (i : ℕ) (x : LinkedNode) → x.node ≡ (get_or xs i no_linked).node → records_of (set xs i x) ≡ records_of xs
records-set xs i x e = map-set_same (λ (y : LinkedNode). y.node) xs i x no_linked e

take-enter : (xs : List LinkedNode) (n p m : ℕ) (o : Option ℕ) → p < n → ((q : ℕ) → o ≡ Some q → q < n) → records_of (take n (enter xs p o m)) ≡ records_of (take n xs)
take-enter xs n p m None l h = ap records_of (take-set-lt n xs p (with_child (get_or xs p no_linked) m) l) ∙ records-set (take n xs) p _ (ap (λ x. x.node) (sym (get_or-take n xs p no_linked l)))
take-enter xs n p m (Some q) l h = ap records_of (take-set-lt n xs q (with_next (get_or xs q no_linked) m) (h q refl)) ∙ records-set (take n xs) q _ (ap (λ x. x.node) (sym (get_or-take n xs q no_linked (h q refl))))

length-enter : (xs : List LinkedNode) (p m : ℕ) (o : Option ℕ) → length (enter xs p o m) ≡ length xs
length-enter xs p m None = length-set xs p _
length-enter xs p m (Some q) = length-set xs q _

-- what is asked of a state to which a node is added
pub record Granted (s : State) (k : NodeKind) (c : List ℕ) : Type 0 where
  pub free : s.used.nodes < length s.nodes
  pub few : s.used.nodes < 4096
  pub fits : s.used.bytes + length c ≤ length s.bytes
  pub short : s.used.bytes + length c ≤ 131072
  pub shallow : next_depth s ≤ 62
  pub formed : well_formed c ≡ true
  pub inner : is_document k ≡ false

parent-kind : (k : ℕ) → is_parent_code k ≡ true → is_parent (kind_with k) ≡ true
parent-kind k h = grind (arith, nat_tests)

reach-own : (b : Bool) (n : ℕ) → n ≤ cond b (suc n) n
reach-own b n = grind arith

bare-none : (k : NodeKind) (d : ℕ) (c : List ℕ) → bare (row k d c []) ≡ true
bare-none Document d c = refl
bare-none Doctype d c = refl
bare-none Text d c = refl
bare-none Comment d c = refl
bare-none Element d c = refl

-- some node between stands no deeper than i, or all stand deeper
scan : (t : Table) (i k : ℕ) → ((m : ℕ) × (i < m) × (m < k) × (depth_at t m ≤ depth_at t i)) ⊎ ((m : ℕ) → i < m → m < k → depth_at t i < depth_at t m)
scan t i zero = inr (λ m a b. absurd (omega arith))
scan t i (suc k) = go (scan t i k) (cases_lt i k) (cases_lt (depth_at t i) (depth_at t k))
  where
    go : ((m : ℕ) × (i < m) × (m < k) × (depth_at t m ≤ depth_at t i)) ⊎ ((m : ℕ) → i < m → m < k → depth_at t i < depth_at t m) → (i < k) ⊎ (k ≤ i) → (depth_at t i < depth_at t k) ⊎ (depth_at t k ≤ depth_at t i)
        → ((m : ℕ) × (i < m) × (m < suc k) × (depth_at t m ≤ depth_at t i)) ⊎ ((m : ℕ) → i < m → m < suc k → depth_at t i < depth_at t m)
    go (inl f) a b = inl (f.0, f.1, (let l = f.2 in omega arith), f.3)
    go (inr f) (inl a) (inr b) = inl (k, a, omega arith, b)
    go (inr f) (inr a) b = inr (λ m x y. absurd (omega arith))
    go (inr f) (inl a) (inl b) = inr (λ m x y. near m x y (cases_eq m k))
      where
        near : (m : ℕ) → i < m → m < suc k → (m ≡ k) ⊎ (m ≡ k → ⊥) → depth_at t i < depth_at t m
        near m x y (inl z) = subst (λ v. depth_at t i < depth_at t v) (sym z) b
        near m x y (inr z) = f m x (omega arith)

pub deepest-snoc : (xs : List NodeRecord) (r : NodeRecord) → deepest (xs ++ (r ∷ [])) ≡ max (deepest xs) r.depth
deepest-snoc [] r = omega arith
deepest-snoc (x ∷ xs) r = omega (arith, deepest-snoc xs r)

pub length-put : (l : List ℕ) (at : ℕ) (c : List ℕ) → at + length c ≤ length l → length (put l at c) ≡ length l
length-put l at c h =
    length-append (take at l) (c ++ drop (at + length c) l) ∙ omega (arith, length-take-le at l (omega arith), length-append c (drop (at + length c) l), length-drop (at + length c) l)

module _ (s : State) (k : NodeKind) (c : List ℕ) (h : Sound s) (g : Granted s k c) where
  abbrev t : Table
  t = used_table s

  abbrev u : Table
  u = used_table (with_node s k c)

  abbrev n : ℕ
  n = s.used.nodes

  abbrev d : ℕ
  d = next_depth s

  abbrev x0 : Row
  x0 = row k d c []

  -- the records that are lent, with the new one entered
  abbrev E : List LinkedNode
  E = enter s.nodes s.current s.last n

  open-depth : depth_at t s.current + 1 ≡ d
  open-depth = ap (λ (x : NodeRecord). x.depth + 1) (open_in s h)

  last-in : (q : ℕ) → s.last ≡ Some q → q < n
  last-in q e = (subst (Last t n s.current) e h.last).1

  nodes-are : used_nodes (with_node s k c) ≡ take n E ++ (new_node s k c ∷ [])
  nodes-are =
      ap (λ m. take m (set E n (new_node s k c))) (add-one n)
      ∙ take-suc-set E n (new_node s k c) (omega (arith, length-enter s.nodes s.current n s.last, g.free))

  records-are : u.nodes ≡ t.nodes ++ ((new_node s k c).node ∷ [])
  records-are =
      ap records_of nodes-are
      ∙ (map-append (λ (x : LinkedNode). x.node) (take n E) (new_node s k c ∷ []) ∙ ap (λ l. l ++ ((new_node s k c).node ∷ [])) (take-enter s.nodes n s.current n s.last h.inside last-in))

  behind-is : u ≡ behind t x0
  behind-is =
      let a = used-attrs s h in
      let b = used-bytes s h in
      let nodes = records-are ∙ (λ q. t.nodes ++ (record { kind = code k; depth = d; attrs = 0; first = sym a q; start = sym b q; len = length c } ∷ [])) in
      let attrs : u.attrs ≡ t.attrs ++ [] = sym (append-nil t.attrs) in
      let bytes = take_put s.bytes s.used.bytes c h.bytes ∙ ap (λ l. t.bytes ++ l) (sym (append-nil c)) in
      λ q. record { nodes = nodes q; attrs = attrs q; bytes = bytes q }

  rows_are : u ≡ tabulate (rows_of t ++ (x0 ∷ []))
  rows_are = behind-is ∙ sym (tabulate-snoc (rows_of t) x0 ∙ ap (λ v. behind v x0) (tabulated t (table-accepted s h)))

  -- the new node may stand where it stands
  near : (m : ℕ) → n ≡ suc m → d ≤ reach (row_at t m)
  near m e = go s.last h.last
    where
      go : (o : Option ℕ) → Last t n s.current o → d ≤ reach (row_at t m)
      go None l =
          let z : s.current ≡ m = omega arith in
          let up : reach (row_at t s.current) ≡ suc (depth_at t s.current) = cond-true (is_parent (kind_with (node_at t s.current).kind)) _ _ (parent-kind (node_at t s.current).kind h.parent) in
          subst (λ i. d ≤ reach (row_at t i)) z (omega (arith, up, open-depth))
      go (Some q) l =
          let own : depth_at t m ≤ reach (row_at t m) = reach-own (is_parent (kind_with (node_at t m).kind)) (depth_at t m) in
          deep (cases_eq q m) own
        where
          deep : (q ≡ m) ⊎ (q ≡ m → ⊥) → depth_at t m ≤ reach (row_at t m) → d ≤ reach (row_at t m)
          deep (inl z) own = let w : depth_at t q ≡ depth_at t m = ap (depth_at t) z in omega (arith, l.2, open-depth)
          deep (inr z) own = let w = l.1 in omega (arith, l.3 m (omega arith) (omega arith), l.2, open-depth)

  near-rows : d ≤ last_reach 0 (rows_of t)
  near-rows = go n refl
    where
      go : (v : ℕ) → n ≡ v → d ≤ last_reach 0 (rows_of t)
      go zero e = absurd (let l = h.inside in omega arith)
      go (suc m) e =
          let is : last_reach 0 (rows_of t) ≡ reach (row_at t (0 + m)) = ap (λ j. last_reach 0 (rows_from t 0 j)) (table-nodes s h ∙ e) ∙ (ap (last_reach 0) (rows_last t m 0) ∙ last-reach (rows_from t 0 m) (row_at t (0 + m)) 0) in
          let z : m ≡ 0 + m = omega arith in
          omega (arith, is, subst (λ i. d ≤ reach (row_at t i)) z (near m e))

  fit : RowsFit (rows_of t ++ (x0 ∷ []))
  fit =
      let acc = table-accepted s h in
      let old = rows_fit t acc in
      let few = g.few in
      let short = g.short in
      let fa = old.attrs in
      let long : length (all_bytes (rows_of t)) ≡ s.used.bytes = ap (λ (v : Table). length v.bytes) (tabulated t acc) ∙ used-bytes s h in
      let more : length (bytes_of x0) ≡ length c = ap length (append-nil c) in
      fit-snoc (rows_of t) x0 old
      (record { low = omega arith; near = near-rows; high = g.shallow; inner = g.inner; plain = bare-none k d c })
      (omega (arith, length-rows_of t, table-nodes s h)) g.formed tt (omega arith) (omega arith)

  pub added-rows : rows_of u ≡ rows_of t ++ (x0 ∷ [])
  added-rows = ap rows_of rows_are ∙ (reread (rows_of t ++ (x0 ∷ [])) fit).1

  added-accepted : accepts u ≡ true
  added-accepted = ap accepts rows_are ∙ (reread (rows_of t ++ (x0 ∷ [])) fit).0

  -- the depths
  long : length t.nodes ≡ n
  long = table-nodes s h

  longer : length u.nodes ≡ suc n
  longer = ap length records-are ∙ omega (arith, length-append t.nodes ((new_node s k c).node ∷ []), long)

  node-same : (i : ℕ) → i < n → node_at u i ≡ node_at t i
  node-same i l = ap (λ v. get_or v i no_node) records-are ∙ get_or_append_left t.nodes ((new_node s k c).node ∷ []) no_node i (omega (arith, long))

  pub same : (i : ℕ) → i < n → depth_at u i ≡ depth_at t i
  same i l = ap (λ (x : NodeRecord). x.depth) (node-same i l)

  node-new : node_at u n ≡ (new_node s k c).node
  node-new = ap (λ v. get_or v n no_node) records-are ∙ get_or_at t.nodes (new_node s k c).node [] no_node n long

  pub new : depth_at u n ≡ d
  new = ap (λ (x : NodeRecord). x.depth) node-new

  past : depth_at u (suc n) ≡ 0
  past = ap (λ (x : NodeRecord). x.depth) (get_or_past u.nodes (suc n) no_node (omega (arith, longer)))

  -- links that stay
  child-keeps : (i : ℕ) → i < n → (suc i < n) ⊎ (d ≤ depth_at t i) → child_link u i ≡ child_link t i
  child-keeps i l (inl a) = child-same t u n same i a
  child-keeps i l (inr a) = go (cases_lt (suc i) n)
    where
      go : (suc i < n) ⊎ (n ≤ suc i) → child_link u i ≡ child_link t i
      go (inl b) = child-same t u n same i b
      go (inr b) =
          let e : suc i ≡ n = omega arith in
          let gone : depth_at t (suc i) ≡ 0 = ap (λ (x : NodeRecord). x.depth) (get_or_past t.nodes (suc i) no_node (omega (arith, long))) in
          let there : depth_at u (suc i) ≡ d = ap (depth_at u) e ∙ new in
          let before = same i l in grind (arith, nat_tests)

  sibling-keeps : (i : ℕ) → i < n → (((m : ℕ) → i < m → m < n → depth_at t i < depth_at t m) → d ≡ depth_at t i → ⊥) → sibling_link u i ≡ sibling_link t i
  sibling-keeps i l off = go (scan t i n)
    where
      go : ((m : ℕ) × (i < m) × (m < n) × (depth_at t m ≤ depth_at t i)) ⊎ ((m : ℕ) → i < m → m < n → depth_at t i < depth_at t m) → sibling_link u i ≡ sibling_link t i
      go (inl f) = sibling-kept t u n same long longer i f.0 f.1 f.2 f.3
      go (inr f) = sibling-none t u n same long longer i l f (λ e. off f (sym new ∙ e))

  linked-old : (i : ℕ) → i < n → Linked (used_nodes s) t i
  linked-old i l = linked-at (used_nodes s) t h.linked i (omega (arith, used-nodes s h))

  abbrev ys : List LinkedNode
  ys = used_nodes (with_node s k c)

  in-old : (i : ℕ) → i < n → get_or ys i no_linked ≡ get_or E i no_linked
  in-old i l =
      let e : length (take n E) ≡ n = length-take-le n E (omega (arith, length-enter s.nodes s.current n s.last, g.free)) in
      ap (λ v. get_or v i no_linked) nodes-are ∙ (get_or_append_left (take n E) (new_node s k c ∷ []) no_linked i (omega arith) ∙ get_or-take n E i no_linked l)

  old : (i : ℕ) → i < n → get_or (used_nodes s) i no_linked ≡ get_or s.nodes i no_linked
  old i l = get_or-take n s.nodes i no_linked l

  -- a node whose record stays has the links that it had
  linked-kept : (i : ℕ) → i < n → get_or E i no_linked ≡ get_or s.nodes i no_linked → (suc i < n) ⊎ (d ≤ depth_at t i) → (((m : ℕ) → i < m → m < n → depth_at t i < depth_at t m) → d ≡ depth_at t i → ⊥) → Linked ys u i
  linked-kept i l e child sibling =
      let o = linked-old i l in
      let x : get_or ys i no_linked ≡ get_or (used_nodes s) i no_linked = in-old i l ∙ (e ∙ sym (old i l)) in
      record {
        up = ap (λ (y : LinkedNode). y.parent) x ∙ (o.up ∙ sym (parent-same t u n same i l));
        down = ap (λ (y : LinkedNode). y.first_child) x ∙ (o.down ∙ sym (child-keeps i l child));
        next = ap (λ (y : LinkedNode). y.next_sibling) x ∙ (o.next ∙ sym (sibling-keeps i l sibling));
      }

  linked-old-first : s.last ≡ None → (i : ℕ) → i < n → Linked ys u i
  linked-old-first e i l = go (cases_eq i s.current)
    where
      is : E ≡ set s.nodes s.current (with_child (get_or s.nodes s.current no_linked) n)
      is = ap (λ o. enter s.nodes s.current o n) e

      at-end : s.current + 1 ≡ n
      at-end = subst (Last t n s.current) e h.last

      go : (i ≡ s.current) ⊎ (i ≡ s.current → ⊥) → Linked ys u i
      go (inl z) =
          let o = linked-old i l in
          let lent = g.free in
          let y : get_or E i no_linked ≡ with_child (get_or (used_nodes s) i no_linked) n =
          ap (λ v. get_or v i no_linked) is ∙ (ap (λ p. get_or (set s.nodes p (with_child (get_or s.nodes p no_linked) n)) i no_linked) (sym z) ∙ (get_or-set_same s.nodes i (with_child (get_or s.nodes i no_linked) n) no_linked (omega arith) ∙ ap (λ v. with_child v n) (sym (old i l)))) in
          let x = in-old i l ∙ y in
          let next : suc i ≡ n = omega (arith, at-end) in
          let own : depth_at t i + 1 ≡ d = ap (λ p. depth_at t p + 1) z ∙ open-depth in
          record {
            up = ap (λ (v : LinkedNode). v.parent) x ∙ (o.up ∙ sym (parent-same t u n same i l));
            down = ap (λ (v : LinkedNode). v.first_child) x ∙ sym (cond-true (ltb (depth_at u i) (depth_at u (suc i))) _ _ (lt-ltb _ _ (omega (arith, same i l, ap (depth_at u) next, new))) ∙ ap Some next);
            next = ap (λ (v : LinkedNode). v.next_sibling) x ∙ (o.next ∙ sym (sibling-keeps i l (λ f w. omega arith)));
          }
      go (inr z) =
          let ne : i ≢ s.current = z in
          linked-kept i l (ap (λ v. get_or v i no_linked) is ∙ get_or-set_other s.nodes s.current i _ no_linked ne) (inl (omega (arith, at-end))) (λ f w. let m = f s.current (omega (arith, at-end)) (omega (arith, at-end)) in omega (arith, open-depth))

  linked-old-next : (q : ℕ) → s.last ≡ Some q → (i : ℕ) → i < n → Linked ys u i
  linked-old-next q e i l = go (cases_order i q)
    where
      is : E ≡ set s.nodes q (with_next (get_or s.nodes q no_linked) n)
      is = ap (λ o. enter s.nodes s.current o n) e

      at : Last t n s.current (Some q)
      at = subst (Last t n s.current) e h.last

      own : depth_at t q ≡ d
      own = at.2 ∙ open-depth

      off : i ≢ q → get_or E i no_linked ≡ get_or s.nodes i no_linked
      off ne = ap (λ v. get_or v i no_linked) is ∙ get_or-set_other s.nodes q i _ no_linked ne

      go : (i ≡ q) ⊎ ((i < q) ⊎ (q < i)) → Linked ys u i
      go (inl z) =
          let o = linked-old i l in
          let lent = g.free in
          let y : get_or E i no_linked ≡ with_next (get_or (used_nodes s) i no_linked) n =
          ap (λ v. get_or v i no_linked) is ∙ (ap (λ p. get_or (set s.nodes p (with_next (get_or s.nodes p no_linked) n)) i no_linked) (sym z) ∙ (get_or-set_same s.nodes i (with_next (get_or s.nodes i no_linked) n) no_linked (omega arith) ∙ ap (λ v. with_next v n) (sym (old i l)))) in
          let x = in-old i l ∙ y in
          let mine : depth_at t i ≡ d = ap (depth_at t) z ∙ own in
          record {
            up = ap (λ (v : LinkedNode). v.parent) x ∙ (o.up ∙ sym (parent-same t u n same i l));
            down = ap (λ (v : LinkedNode). v.first_child) x ∙ (o.down ∙ sym (child-keeps i l (inr (omega arith))));
            next = ap (λ (v : LinkedNode). v.next_sibling) x ∙ sym (sibling-new t u n same long longer i l (subst (Deeper t n) (sym z) at.3) (new ∙ sym mine));
          }
      go (inr (inl z)) = let ne : i ≢ q = omega arith in linked-kept i l (off ne) (inl (let b = at.1 in omega arith)) (λ f w. let m = f q z at.1 in omega (arith, own))
      go (inr (inr z)) = let ne : i ≢ q = omega arith in let m = at.3 i z l in linked-kept i l (off ne) (inr (omega (arith, own))) (λ f w. omega (arith, own))

  linked-new : Linked ys u n
  linked-new =
      let e : length (take n E) ≡ n = length-take-le n E (omega (arith, length-enter s.nodes s.current n s.last, g.free)) in
      let x : get_or ys n no_linked ≡ new_node s k c = ap (λ v. get_or v n no_linked) nodes-are ∙ get_or_at (take n E) (new_node s k c) [] no_linked n e in
      let up : Above u (depth_at u n) n s.current =
      record {
        before = h.inside;
        less = omega (arith, same s.current h.inside, new, open-depth);
        between = λ j a b. omega (arith, h.under j a b, same j b, new, open-depth);
      } in
      let none_left : length u.nodes - suc n ≡ 0 = omega (arith, longer) in
      record {
        up = ap (λ (v : LinkedNode). v.parent) x ∙ sym (is-above u (depth_at u n) n s.current up);
        down = ap (λ (v : LinkedNode). v.first_child) x ∙ sym (cond-false (ltb (depth_at u n) (depth_at u (suc n))) _ _ (le-ltb _ _ (omega (arith, past))));
        next = ap (λ (v : LinkedNode). v.next_sibling) x ∙ sym (ap (first_at u (depth_at u n) (suc n)) none_left);
      }

  linked-all : (i : ℕ) → i < n + 1 → Linked ys u i
  linked-all i l = go (cases_eq i n)
    where
      by : (o : Option ℕ) → s.last ≡ o → i < n → Linked ys u i
      by None e b = linked-old-first e i b
      by (Some q) e b = linked-old-next q e i b

      go : (i ≡ n) ⊎ (i ≡ n → ⊥) → Linked ys u i
      go (inl z) = subst (Linked ys u) (sym z) linked-new
      go (inr z) = by s.last refl (omega arith)

  lent-nodes : length (with_node s k c).nodes ≡ length s.nodes
  lent-nodes = length-set E n (new_node s k c) ∙ length-enter s.nodes s.current n s.last

  deeper-more : Deeper u (n + 1) s.current
  deeper-more j a b = go (cases_eq j n)
    where
      go : (j ≡ n) ⊎ (j ≡ n → ⊥) → depth_at u s.current < depth_at u j
      go (inl z) = omega (arith, same s.current h.inside, ap (depth_at u) z, new, open-depth)
      go (inr z) = let l : j < n = omega arith in omega (arith, h.under j a l, same s.current h.inside, same j l)

  pub added-sound : Sound (with_node s k c)
  added-sound =
      let lent = lent-nodes in
      let free = g.free in
      let many : length ys ≡ n + 1 = length-take-le (n + 1) (with_node s k c).nodes (omega arith) in
      let low = h.inside in
      record {
        nodes = omega arith;
        attrs = h.attrs;
        bytes = omega (arith, length-put s.bytes s.used.bytes c g.fits, g.fits);
        accepted = added-accepted;
        linked = each_from (links_ok ys u) (length ys) (λ i l. are-links ys u i (linked-all i (omega arith)));
        height = (λ q. max (h.height q) d) ∙ sym (ap deepest records-are ∙ deepest-snoc t.nodes (new_node s k c).node);
        inside = omega arith;
        parent = ap (λ (x : NodeRecord). is_parent_code x.kind) (node-same s.current h.inside) ∙ h.parent;
        under = deeper-more;
        last = (h.inside, omega arith, new ∙ sym (ap (λ v. v + 1) (same s.current h.inside) ∙ open-depth), (λ j a b. absurd (omega arith)));
        fresh = tt;
      }

  -- an element is open at once
  pub opened-sound : k ≡ Element → Sound (inside (with_node s k c) n)
  opened-sound e =
      let a = added-sound in
      let kind : (node_at u n).kind ≡ 4 = ap (λ (x : NodeRecord). x.kind) node-new ∙ ap code e in
      record {
        nodes = a.nodes;
        attrs = a.attrs;
        bytes = a.bytes;
        accepted = a.accepted;
        linked = a.linked;
        height = a.height;
        inside = omega arith;
        parent = ap is_parent_code kind;
        under = λ j x y. absurd (omega arith);
        last = refl;
        fresh = (refl, kind);
      }
