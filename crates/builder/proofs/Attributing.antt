-- One attribute more of the last node, which is an open element.
use Rattle.std.proofs.Common.{◌≡◌, ℕ, zero, suc, ◌+◌, ◌<◌, ◌≤◌, true, cond, ltb, ◌≢◌, ◌⊎◌, List, [], ◌∷◌, ◌++◌, length, get_or, take, set, Some, None, sym, refl, ap, ◌∙◌, subst, inl, inr, append_assoc, add-one, arith, length-append, length-set, length-take-le, get_or-set_other, get_or-take, get_or-set_same, take-suc-set}
use lib.Seq.{take-set-lt, map-set, get_or_at, set_at}
use Rattle.std.proofs.lemmas.Bool.{cases_eq}
use Rattle.utf8.specs.Table.{well_formed}
use Rattle.page.specs.declared.kind.NodeKind.TheVariants.{Element}
use Rattle.page.specs.Kept.{AttrsFormed}
use Rattle.table.specs.declared.record.NodeRecord.{NodeRecord}
use Rattle.table.specs.Rows.{Row}
use Rattle.table.specs.Table.{Table, no_node, node_at, part, kind_with, attrs_from, row_at, rows_from, rows_of}
use Rattle.table.specs.Checks.{is_parent_code, accepts}
use Rattle.table.specs.Tabulate.{joined, bytes_of, attr_records, tabulate}
use Rattle.table.specs.Links.{depth_at, deepest}
use Rattle.table.proofs.Accepted.{Accepted}
use Rattle.table.proofs.Tabulated.{tabulated}
use Rattle.table.proofs.Reread.{attr_count, RowsFit, reread, length-records, length-nodes, length-all_attrs}
use Rattle.linked.specs.declared.node.LinkedNode.{LinkedNode}
use Rattle.linked.specs.Links.{child_link}
use Rattle.linked.specs.Records.{no_linked, records_of, links_ok}
use Rattle.linked.proofs.Linked.{Linked, are-links, linked-at}
use Rattle.builder.specs.State.{State, used_nodes, used_table}
use Rattle.builder.specs.Events.{row}
use Rattle.builder.specs.After.{open_node, one_more, with_attr}
use Rattle.builder.proofs.Snoc.{rows_fit, rows_last, record_behind, behind, tabulate-snoc, attr_records-snoc, joined_snoc, formed-parts, fit-attrs}
use Rattle.builder.proofs.Depths.{parent-same, sibling-same}
use Rattle.builder.proofs.Sound.{each_from, Last, Sound, used-nodes, table-nodes, used-attrs, used-bytes, table-accepted, open_in}
use Rattle.builder.proofs.Adding.{take_put, length-put, deepest-snoc}

formed-snoc : (xs : List (List ℕ × List ℕ)) (a : List ℕ × List ℕ) → AttrsFormed xs → well_formed a.0 ≡ true → well_formed a.1 ≡ true → AttrsFormed (xs ++ (a ∷ []))
formed-snoc [] a h x y = (x, y, tt)
formed-snoc (b ∷ xs) a h x y = (h.0, h.1, formed-snoc xs a h.2 x y)

-- what is asked of a state to which an attribute is added
pub record AttrGranted (s : State) (name value : List ℕ) : Type 0 where
  pub free : s.used.attrs < length s.attrs
  pub few : s.used.attrs < 8192
  pub fits : s.used.bytes + (length name + length value) ≤ length s.bytes
  pub short : s.used.bytes + (length name + length value) ≤ 131072
  pub name_formed : well_formed name ≡ true
  pub value_formed : well_formed value ≡ true
  pub element : (node_at (used_table s) s.current).kind ≡ 4
  pub childless : s.last ≡ None
  pub end : s.current + 1 ≡ s.used.nodes

module _ (s : State) (name value : List ℕ) (h : Sound s) (g : AttrGranted s name value) where
  abbrev t : Table
  t = used_table s

  abbrev u : Table
  u = used_table (with_attr s name value)

  abbrev n : ℕ
  n = s.used.nodes

  abbrev m : ℕ
  m = s.current

  acc : Accepted t
  acc = table-accepted s h

  -- the rows before, and the last one
  abbrev ys : List Row
  ys = rows_from t 0 m

  abbrev bs : List ℕ
  bs = part t (node_at t m).start (node_at t m).len

  abbrev aa : List (List ℕ × List ℕ)
  aa = attrs_from t (node_at t m).first (node_at t m).attrs

  abbrev z : Row
  z = row Element (depth_at t m) bs aa

  abbrev z2 : Row
  z2 = row Element (depth_at t m) bs (aa ++ ((name, value) ∷ []))

  abbrev U : Table
  U = tabulate ys

  pub rows_before : rows_of t ≡ ys ++ (z ∷ [])
  rows_before =
      let many : length t.nodes ≡ suc m = omega (arith, table-nodes s h, g.end) in
      let zero : 0 + m ≡ m = omega arith in
      ap (rows_from t 0) many ∙ (rows_last t m 0 ∙ ((λ q. ys ++ (row_at t (zero q) ∷ [])) ∙ (λ q. ys ++ (row (kind_with (g.element q)) (depth_at t m) bs aa ∷ []))))

  was : t ≡ behind U z
  was = sym (tabulated t acc) ∙ (ap tabulate rows_before ∙ tabulate-snoc ys z)

  size : length U.nodes ≡ m
  size = length-nodes 0 0 ys ∙ length_from m 0
    where
      length_from : (k i : ℕ) → length (rows_from t i k) ≡ k
      length_from zero i = refl
      length_from (suc k) i = ap suc (length_from k (suc i))

  -- the record of the element with one attribute more
  more : NodeRecord
  more = (one_more (open_node s)).node

  element-record : (open_node s).node ≡ record_behind U z
  element-record = sym (open_in s h) ∙ (ap (λ (v : Table). node_at v m) was ∙ get_or_at U.nodes (record_behind U z) [] no_node m size)

  more-is : more ≡ record_behind U z2
  unfolding more
  more-is =
      let long : length aa + 1 ≡ length (aa ++ ((name, value) ∷ [])) = sym (length-append aa ((name, value) ∷ [])) in
      ap (λ (x : NodeRecord). record { kind = x.kind; depth = x.depth; attrs = x.attrs + 1; first = x.first; start = x.start; len = x.len }) element-record
      ∙ (λ q. record { kind = 4; depth = depth_at t m; attrs = long q; first = length U.attrs; start = length U.bytes; len = length bs })

  nodes-set : used_nodes (with_attr s name value) ≡ set (used_nodes s) m (one_more (open_node s))
  nodes-set = take-set-lt n s.nodes m (one_more (open_node s)) h.inside

  records-set : u.nodes ≡ set t.nodes m more
  unfolding more
  records-set = ap records_of nodes-set ∙ map-set (λ (x : LinkedNode). x.node) (used_nodes s) m (one_more (open_node s))

  nodes-are : u.nodes ≡ U.nodes ++ (record_behind U z2 ∷ [])
  nodes-are = records-set ∙ ((λ q. set (was q).nodes m (more-is q)) ∙ set_at U.nodes (record_behind U z) [] (record_behind U z2) m size)

  start : s.used.bytes ≡ length U.bytes + length bs + length (joined aa)
  start = sym (used-bytes s h) ∙ (ap (λ (v : Table). length v.bytes) was ∙ (length-append U.bytes (bytes_of z) ∙ omega (arith, length-append bs (joined aa))))

  attrs-are : u.attrs ≡ U.attrs ++ attr_records (length U.bytes + length bs) (aa ++ ((name, value) ∷ []))
  attrs-are =
      let b = length U.bytes + length bs in
      let one = take-suc-set s.attrs s.used.attrs (record { name = length name; value = length value; start = s.used.bytes }) g.free in
      ap (λ k. take k (with_attr s name value).attrs) (add-one s.used.attrs)
      ∙ (one ∙ ((λ q. (was q).attrs ++ (record { name = length name; value = length value; start = start q } ∷ []))
      ∙ (append_assoc U.attrs (attr_records b aa) _ ∙ ap (λ l. U.attrs ++ l) (sym (attr_records-snoc aa (name, value) b)))))

  bytes-are : u.bytes ≡ U.bytes ++ (bs ++ joined (aa ++ ((name, value) ∷ [])))
  bytes-are =
      let long : length name + length value ≡ length (name ++ value) = sym (length-append name value) in
      ap (λ k. take (s.used.bytes + k) (with_attr s name value).bytes) long
      ∙ (take_put s.bytes s.used.bytes (name ++ value) h.bytes
      ∙ ((λ q. (was q).bytes ++ (name ++ value))
      ∙ (append_assoc U.bytes (bs ++ joined aa) (name ++ value) ∙ ap (λ l. U.bytes ++ l) (append_assoc bs (joined aa) (name ++ value) ∙ ap (λ l. bs ++ l) (sym (joined_snoc aa (name, value)))))))

  rows_are : u ≡ tabulate (ys ++ (z2 ∷ []))
  rows_are = (λ q. record { nodes = nodes-are q; attrs = attrs-are q; bytes = bytes-are q }) ∙ sym (tabulate-snoc ys z2)

  fit : RowsFit (ys ++ (z2 ∷ []))
  fit =
      let old : RowsFit (ys ++ (z ∷ [])) = subst RowsFit rows_before (rows_fit t acc) in
      let texts = (formed-parts ys (z ∷ []) old.texts).1 in
      let few = g.few in
      let short = g.short in
      let attrs : attr_count ys + length aa ≡ s.used.attrs = omega (arith, ap (λ (v : Table). length v.attrs) was, used-attrs s h, length-append U.attrs (attr_records (length U.bytes + length bs) aa), length-all_attrs 0 ys, length-records (length U.bytes + length bs) aa) in
      let bytes : length (joined (aa ++ ((name, value) ∷ []))) ≡ length (joined aa) + (length name + length value) = ap length (joined_snoc aa (name, value)) ∙ (length-append (joined aa) (name ++ value) ∙ ap (λ k. length (joined aa) + k) (length-append name value)) in
      fit-attrs ys (depth_at t m) bs aa (aa ++ ((name, value) ∷ [])) old (formed-snoc aa (name, value) texts.1 g.name_formed g.value_formed)
      (omega (arith, length-append aa ((name, value) ∷ []))) (omega (arith, start))

  pub attributed-rows : rows_of u ≡ ys ++ (z2 ∷ [])
  attributed-rows = ap rows_of rows_are ∙ (reread (ys ++ (z2 ∷ [])) fit).1

  -- no depth and no kind changes
  longer : length u.nodes ≡ n
  longer = ap length records-set ∙ (length-set t.nodes m more ∙ table-nodes s h)

  node-like : (i : ℕ) → ((node_at u i).depth ≡ (node_at t i).depth) × ((node_at u i).kind ≡ (node_at t i).kind)
  unfolding more
  node-like i = go (cases_eq i m)
    where
      go : (i ≡ m) ⊎ (i ≡ m → ⊥) → ((node_at u i).depth ≡ (node_at t i).depth) × ((node_at u i).kind ≡ (node_at t i).kind)
      go (inl e) =
          let at : node_at u i ≡ more = ap (λ l. get_or l i no_node) records-set ∙ (ap (λ j. get_or (set t.nodes m more) j no_node) e ∙ get_or-set_same t.nodes m more no_node (omega (arith, table-nodes s h, h.inside))) in
          let own : node_at t i ≡ (open_node s).node = ap (node_at t) e ∙ open_in s h in
          (cc, cc)
      go (inr e) =
          let ne : i ≢ m = e in
          let at : node_at u i ≡ node_at t i = ap (λ l. get_or l i no_node) records-set ∙ get_or-set_other t.nodes m i more no_node ne in
          (cc, cc)

  pub same : (i : ℕ) → depth_at u i ≡ depth_at t i
  same i = (node-like i).0

  abbrev xs : List LinkedNode
  xs = used_nodes (with_attr s name value)

  linked-all : (i : ℕ) → i < n → Linked (used_nodes (with_attr s name value)) u i
  linked-all i l =
      let o = linked-at (used_nodes s) t h.linked i (omega (arith, used-nodes s h)) in
      let child : child_link u i ≡ child_link t i = λ q. cond (ltb (same i q) (same (suc i) q)) (Some (suc i)) None in
      let x = links (cases_eq i m) in
      record {
        up = x.0 ∙ (o.up ∙ sym (parent-same t u n (λ j b. same j) i l));
        down = x.1 ∙ (o.down ∙ sym child);
        next = x.2 ∙ (o.next ∙ sym (sibling-same t u n (λ j b. same j) (table-nodes s h) longer i l));
      }
    where
      links : (i ≡ m) ⊎ (i ≡ m → ⊥)
          → ((get_or xs i no_linked).parent ≡ (get_or (used_nodes s) i no_linked).parent)
          × ((get_or xs i no_linked).first_child ≡ (get_or (used_nodes s) i no_linked).first_child)
          × ((get_or xs i no_linked).next_sibling ≡ (get_or (used_nodes s) i no_linked).next_sibling)
      links (inl e) =
          let at : get_or xs i no_linked ≡ one_more (open_node s) = ap (λ v. get_or v i no_linked) nodes-set ∙ (ap (λ j. get_or (set (used_nodes s) m (one_more (open_node s))) j no_linked) e ∙ get_or-set_same (used_nodes s) m (one_more (open_node s)) no_linked (omega (arith, used-nodes s h, h.inside))) in
          let own : get_or (used_nodes s) i no_linked ≡ open_node s = ap (λ j. get_or (used_nodes s) j no_linked) e ∙ get_or-take n s.nodes m no_linked h.inside in
          (cc, cc, cc)
      links (inr e) =
          let ne : i ≢ m = e in
          let at : get_or xs i no_linked ≡ get_or (used_nodes s) i no_linked = ap (λ v. get_or v i no_linked) nodes-set ∙ get_or-set_other (used_nodes s) m i _ no_linked ne in
          (cc, cc, cc)

  pub attributed-sound : Sound (with_attr s name value)
  attributed-sound =
      let lent : length (with_attr s name value).nodes ≡ length s.nodes = length-set s.nodes m (one_more (open_node s)) in
      let room : length (with_attr s name value).attrs ≡ length s.attrs = length-set s.attrs s.used.attrs _ in
      let both : length (name ++ value) ≡ length name + length value = length-append name value in
      let fits = g.fits in
      let free = g.free in
      let low = h.inside in
      let in-nodes = h.nodes in
      let many : length (used_nodes (with_attr s name value)) ≡ n = length-take-le n (with_attr s name value).nodes (omega arith) in
      record {
        nodes = omega arith;
        attrs = omega arith;
        bytes = omega (arith, length-put s.bytes s.used.bytes (name ++ value) (omega arith));
        accepted = ap accepts rows_are ∙ (reread (ys ++ (z2 ∷ [])) fit).0;
        linked = each_from (links_ok (used_nodes (with_attr s name value)) u) _ (λ i l. are-links (used_nodes (with_attr s name value)) u i (linked-all i (omega arith)));
        height = h.height ∙ (ap (λ (v : Table). deepest v.nodes) was ∙ (deepest-snoc U.nodes (record_behind U z) ∙ sym (ap deepest nodes-are ∙ deepest-snoc U.nodes (record_behind U z2))));
        inside = h.inside;
        parent = ap is_parent_code (node-like m).1 ∙ h.parent;
        under = λ j x y. omega (arith, h.under j x y, same m, same j);
        last = subst (λ o. Last u n m o) (sym g.childless) g.end;
        fresh = (g.childless, (node-like m).1 ∙ g.element);
      }
