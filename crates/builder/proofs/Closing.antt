-- The innermost open node is closed: its parent is open, and it is the last child.
use Rattle.std.proofs.Common.{◌≡◌, ℕ, suc, ◌+◌, ◌-◌, ◌<◌, ◌≤◌, true, ◌&&◌, ◌||◌, eqb, leb, ◌⊎◌, length, Some, None, Option, unwrap_or, sym, refl, ap, ◌∙◌, subst, inl, inr, arith, get_or-take}
use Rattle.std.proofs.lemmas.Bool.{and_parts, or_cases, leb-true, eqb-true, ne_eqb, cases_eq, cases_order, cond-false}
use Rattle.table.specs.Table.{Table, node_at}
use Rattle.table.specs.Checks.{is_parent_code}
use Rattle.table.specs.Links.{depth_at}
use Rattle.table.proofs.Accepted.{Accepted, root-depth, later-depth}
use Rattle.linked.specs.declared.node.LinkedNode.{LinkedNode}
use Rattle.linked.specs.Links.{parent_link}
use Rattle.linked.specs.Records.{no_linked}
use Rattle.linked.proofs.Linked.{linked-at}
use Rattle.linked.proofs.Depths.{Above, above-is, none_above}
use Rattle.builder.specs.State.{State, used_nodes, used_table}
use Rattle.builder.specs.After.{open_node, closed}
use Rattle.builder.proofs.Sound.{Deeper, Sound, used-nodes, table-nodes, table-accepted}

-- what stands deeper than the node before stands one deeper, under a node that may have children
one_deeper : (t : Table) → Accepted t → (i : ℕ) → suc i < length t.nodes → depth_at t i < depth_at t (suc i) → (depth_at t (suc i) ≡ depth_at t i + 1) × (is_parent_code (node_at t i).kind ≡ true)
one_deeper t acc i l h =
    let d = depth_at t (suc i) in
    let one : suc i - 1 ≡ i = omega arith in
    let off = ne_eqb (suc i) 0 (λ e. omega arith) in
    let b = node_at t (suc i - 1) in
    let ok = sym (cond-false (eqb (suc i) 0) (eqb d 0) (leb 1 d && (leb d 62 && (leb d b.depth || (eqb d (b.depth + 1) && is_parent_code b.kind)))) off) ∙ (acc.good (suc i) l).depth in
    let x = and_parts (leb 1 d) _ ok in
    let y = and_parts (leb d 62) _ x.1 in
    let z = subst (λ n. (leb d (node_at t n).depth || (eqb d ((node_at t n).depth + 1) && is_parent_code (node_at t n).kind)) ≡ true) one y.1 in
    go (or_cases (leb d (depth_at t i)) _ z)
  where
    go : (leb (depth_at t (suc i)) (depth_at t i) ≡ true) ⊎ ((eqb (depth_at t (suc i)) (depth_at t i + 1) && is_parent_code (node_at t i).kind) ≡ true) → (depth_at t (suc i) ≡ depth_at t i + 1) × (is_parent_code (node_at t i).kind ≡ true)
    go (inl e) = absurd (let m = leb-true (depth_at t (suc i)) (depth_at t i) e in omega arith)
    go (inr e) = let p = and_parts (eqb (depth_at t (suc i)) (depth_at t i + 1)) _ e in (eqb-true _ _ p.0, p.1)

module _ (s : State) (h : Sound s) (some : s.current ≡ 0 → ⊥) where
  abbrev t : Table
  t = used_table s

  abbrev p : ℕ
  p = s.current

  acc : Accepted t
  acc = table-accepted s h

  parent_is : (open_node s).parent ≡ parent_link t p
  parent_is =
      ap (λ (x : LinkedNode). x.parent) (sym (get_or-take s.used.nodes s.nodes p no_linked h.inside))
      ∙ (linked-at (used_nodes s) t h.linked p (omega (arith, h.inside, used-nodes s h))).up

  pub has-parent : (open_node s).parent ≡ None → ⊥
  has-parent e =
      let low = none_above t (depth_at t p) p (sym parent_is ∙ e) 0 (omega arith) in
      omega (arith, root-depth t acc, later-depth t acc p (omega arith) (omega (arith, h.inside, table-nodes s h)))

  -- the parent stands above
  closed_at : (q : ℕ) → parent_link t p ≡ Some q → Sound (closed s)
  closed_at q e =
      let a = above-is t (depth_at t p) p q e in
      let less = a.before in
      let low = h.inside in
      let first : depth_at t p ≤ depth_at t (suc q) = between (cases_eq (suc q) p) a in
      let one = one_deeper t acc q (omega (arith, table-nodes s h)) (omega (arith, a.less)) in
      let is : unwrap_or (open_node s).parent 0 ≡ q = ap (λ o. unwrap_or o 0) (parent_is ∙ e) in
      let deep : depth_at t p ≡ depth_at t q + 1 = omega (arith, one.0, a.less) in
      record {
        nodes = h.nodes;
        attrs = h.attrs;
        bytes = h.bytes;
        accepted = h.accepted;
        linked = h.linked;
        height = h.height;
        inside = omega arith;
        parent = ap (λ i. is_parent_code (node_at t i).kind) is ∙ one.1;
        under = subst (Deeper t s.used.nodes) (sym is) (λ j x y. far j x y (cases_order j p) a);
        last = (omega arith, h.inside, deep ∙ ap (λ i. depth_at t i + 1) (sym is), h.under);
        fresh = tt;
      }
    where
      between : (suc q ≡ p) ⊎ (suc q ≡ p → ⊥) → Above t (depth_at t p) p q → depth_at t p ≤ depth_at t (suc q)
      between (inl z) a = omega (arith, ap (depth_at t) z)
      between (inr z) a = let l = a.before in a.between (suc q) (omega arith) (omega arith)

      far : (j : ℕ) → q < j → j < s.used.nodes → (j ≡ p) ⊎ ((j < p) ⊎ (p < j)) → Above t (depth_at t p) p q → depth_at t q < depth_at t j
      far j x y (inl z) a = subst (λ i. depth_at t q < depth_at t i) (sym z) a.less
      far j x y (inr (inl z)) a = omega (arith, a.less, a.between j x z)
      far j x y (inr (inr z)) a = omega (arith, a.less, h.under j z y)

  pub closed-sound : Sound (closed s)
  closed-sound = go (parent_link t p) refl
    where
      go : (o : Option ℕ) → parent_link t p ≡ o → Sound (closed s)
      go (Some q) e = closed_at q e
      go None e = absurd (has-parent (parent_is ∙ e))
