-- The links that the depths mean are the relatives in the tree.
use Rattle.std.proofs.Common.{◌≡◌, ℕ, zero, suc, ◌+◌, ◌-◌, ◌<◌, ◌≤◌, ltb, ◌⊎◌, length, Some, None, Option, sym, refl, ap, ◌∙◌, subst, inl, inr, add-one, arith}
use Rattle.std.proofs.lemmas.List.{get_or_past}
use Rattle.std.proofs.lemmas.Bool.{cases_lt, cases_eq, cases_order, lt-ltb, le-ltb, cond-true, cond-false}
use Rattle.page.specs.Forest.{find, head_of, kids_of, rest_of, parent_in}
use Rattle.table.specs.Table.{Table, no_node, tree_of}
use Rattle.table.specs.Links.{depth_at}
use Rattle.table.proofs.Accepted.{Accepted, root-depth, later-depth}
use Rattle.table.proofs.Reading.{parent-first, parent-there, child-there, child-none, child-last, sibling-there, sibling-higher, sibling-none}
use Rattle.linked.specs.Links.{last_above, first_at, parent_link, child_link, sibling_link}
use Rattle.linked.proofs.Depths.{above-is, none_above, at-deeper, at_here, at-higher}

module _ (t : Table) (acc : Accepted t) (i : ℕ) (l : i < length t.nodes) where
  pub parent-link : parent_in None (tree_of t) i ≡ parent_link t i
  parent-link = go (cases_eq i 0)
    where
      there : 0 < i → (o : Option ℕ) → last_above t (depth_at t i) i ≡ o → parent_in None (tree_of t) i ≡ o
      there z (Some q) e = let a = above-is t (depth_at t i) i q e in parent-there t acc i q l a.before a.less a.between
      there z None e = absurd (let h = none_above t (depth_at t i) i e 0 z in omega (arith, root-depth t acc, later-depth t acc i z l))

      go : (i ≡ 0) ⊎ (i ≡ 0 → ⊥) → parent_in None (tree_of t) i ≡ parent_link t i
      go (inl z) = parent-first t acc i z ∙ sym (ap (λ n. last_above t (depth_at t i) n) z)
      go (inr z) = there (omega arith) (last_above t (depth_at t i) i) refl

  pub child-link : head_of (kids_of (find (tree_of t) i)) ≡ child_link t i
  child-link = go (cases_lt (depth_at t i) (depth_at t (suc i))) (cases_lt (suc i) (length t.nodes))
    where
      one : i + 1 ≡ suc i
      one = add-one i

      go : (depth_at t i < depth_at t (suc i)) ⊎ (depth_at t (suc i) ≤ depth_at t i) → (suc i < length t.nodes) ⊎ (length t.nodes ≤ suc i) → head_of (kids_of (find (tree_of t) i)) ≡ child_link t i
      go (inl h) (inl k) =
          child-there t acc i (omega arith) (subst (λ n. depth_at t i < depth_at t n) (sym one) h) ∙ (ap Some one ∙ sym (cond-true (ltb (depth_at t i) (depth_at t (suc i))) _ _ (lt-ltb _ _ h)))
      go (inl h) (inr k) = absurd (omega (arith, ap (λ x. x.depth) (get_or_past t.nodes (suc i) no_node k)))
      go (inr h) (inl k) =
          child-none t acc i (omega arith) (subst (λ n. depth_at t n ≤ depth_at t i) (sym one) h) ∙ sym (cond-false (ltb (depth_at t i) (depth_at t (suc i))) _ _ (le-ltb _ _ h))
      go (inr h) (inr k) = child-last t acc i l (omega arith) ∙ sym (cond-false (ltb (depth_at t i) (depth_at t (suc i))) _ _ (le-ltb _ _ h))

  -- all between i and j being deeper, with k nodes left from j on
  sibling-from : (k j : ℕ) → j + k ≡ length t.nodes → i < j → ((m : ℕ) → i < m → m < j → depth_at t i < depth_at t m) → head_of (rest_of (find (tree_of t) i)) ≡ first_at t (depth_at t i) j k
  sibling-from zero j e a h = sibling-none t acc i l (λ m x y. h m x (omega arith))
  sibling-from (suc k) j e a h = go (cases_order (depth_at t j) (depth_at t i)) (sibling-from k (suc j) (omega arith) (omega arith))
    where
      near : depth_at t i < depth_at t j → (m : ℕ) → i < m → m < suc j → (m ≡ j) ⊎ (m ≡ j → ⊥) → depth_at t i < depth_at t m
      near d m x y (inl z) = subst (λ n. depth_at t i < depth_at t n) (sym z) d
      near d m x y (inr z) = h m x (omega arith)

      go : (depth_at t j ≡ depth_at t i) ⊎ ((depth_at t j < depth_at t i) ⊎ (depth_at t i < depth_at t j))
          → (((m : ℕ) → i < m → m < suc j → depth_at t i < depth_at t m) → head_of (rest_of (find (tree_of t) i)) ≡ first_at t (depth_at t i) (suc j) k)
          → head_of (rest_of (find (tree_of t) i)) ≡ first_at t (depth_at t i) j (suc k)
      go (inl d) r = sibling-there t acc i j a (omega arith) h d ∙ sym (at_here t (depth_at t i) j k d)
      go (inr (inl d)) r = sibling-higher t acc i j a (omega arith) h d ∙ sym (at-higher t (depth_at t i) j k d)
      go (inr (inr d)) r = r (λ m x y. near d m x y (cases_eq m j)) ∙ sym (at-deeper t (depth_at t i) j k d)

  pub sibling-link : head_of (rest_of (find (tree_of t) i)) ≡ sibling_link t i
  sibling-link = sibling-from (length t.nodes - suc i) (suc i) (omega arith) (omega arith) (λ m x y. absurd (omega arith))
