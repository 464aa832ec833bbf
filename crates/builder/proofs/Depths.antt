-- One node more: the links that the depths mean.
use Rattle.std.proofs.Common.{◌≡◌, ℕ, zero, suc, ◌+◌, ◌-◌, ◌<◌, ◌≤◌, cond, eqb, ltb, ◌⊎◌, length, Some, None, sym, refl, ap, ◌∙◌, inl, inr, arith}
use Rattle.std.proofs.lemmas.Bool.{cases_eq, cases_order}
use Rattle.table.specs.Table.{Table}
use Rattle.table.specs.Links.{depth_at}
use Rattle.linked.specs.Links.{last_above, first_at, parent_link, child_link, sibling_link}
use Rattle.linked.proofs.Depths.{at-deeper, at_here, at-higher}

-- the first n nodes of u stand as deep as those of t
module _ (t u : Table) (n : ℕ) (same : (i : ℕ) → i < n → depth_at u i ≡ depth_at t i) where
  pub above_same : (d k : ℕ) → k ≤ n → last_above u d k ≡ last_above t d k
  above_same d zero l = refl
  above_same d (suc k) l = (λ q. cond (ltb (same k (omega arith) q) d) (Some k) (above_same d k (omega arith) q))

  pub parent-same : (i : ℕ) → i < n → parent_link u i ≡ parent_link t i
  parent-same i l = ap (λ d. last_above u d i) (same i l) ∙ above_same (depth_at t i) i (omega arith)

  pub child-same : (i : ℕ) → suc i < n → child_link u i ≡ child_link t i
  child-same i l = λ q. cond (ltb (same i (omega arith) q) (same (suc i) l q)) (Some (suc i)) None

  first-same : (d k j : ℕ) → j + k ≤ n → first_at u d j k ≡ first_at t d j k
  first-same d zero j l = refl
  first-same d (suc k) j l = λ q. cond (ltb d (same j (omega arith) q)) (first-same d k (suc j) (omega arith) q) (cond (eqb (same j (omega arith) q) d) (Some j) None)

  pub sibling-same : length t.nodes ≡ n → length u.nodes ≡ n → (i : ℕ) → i < n → sibling_link u i ≡ sibling_link t i
  sibling-same lt lu i l =
      (λ q. first_at u (same i l q) (suc i) ((lu ∙ sym lt) q - suc i)) ∙ first-same (depth_at t i) (length t.nodes - suc i) (suc i) (omega arith)

  -- with k nodes left in t from j on and one more in u: a node that is no deeper stops both
  first-stop : (d k j m : ℕ) → j + k ≡ n → j ≤ m → m < n → depth_at t m ≤ d → first_at u d j (suc k) ≡ first_at t d j k
  first-stop d zero j m e a b h = absurd (omega arith)
  first-stop d (suc k) j m e a b h = go (cases_order (depth_at t j) d) (first-stop d k (suc j) m (omega arith))
    where
      here : depth_at u j ≡ depth_at t j
      here = same j (omega arith)

      go : (depth_at t j ≡ d) ⊎ ((depth_at t j < d) ⊎ (d < depth_at t j)) → (suc j ≤ m → m < n → depth_at t m ≤ d → first_at u d (suc j) (suc k) ≡ first_at t d (suc j) k) → first_at u d j (suc (suc k)) ≡ first_at t d j (suc k)
      go (inl z) r = at_here u d j (suc k) (here ∙ z) ∙ sym (at_here t d j k z)
      go (inr (inl z)) r = at-higher u d j (suc k) (omega arith) ∙ sym (at-higher t d j k z)
      go (inr (inr z)) r = at-deeper u d j (suc k) (omega arith) ∙ (r (next (cases_eq j m)) b h ∙ sym (at-deeper t d j k z))
        where
          next : (j ≡ m) ⊎ (j ≡ m → ⊥) → suc j ≤ m
          next (inl y) = absurd (let w : depth_at t j ≡ depth_at t m = ap (depth_at t) y in omega arith)
          next (inr y) = omega arith

  -- and where all are deeper, the one more is looked at
  first_run : (d k j : ℕ) → j + k ≡ n → ((m : ℕ) → j ≤ m → m < n → d < depth_at t m) → first_at u d j (suc k) ≡ first_at u d n 1
  first_run d zero j e h = let z : j ≡ n = omega arith in ap (λ i. first_at u d i 1) z
  first_run d (suc k) j e h =
      let z = h j (omega arith) (omega arith) in
      at-deeper u d j (suc k) (omega (arith, same j (omega arith))) ∙ first_run d k (suc j) (omega arith) (λ m a b. h m (omega arith) b)

  none_left : (d k j : ℕ) → j + k ≡ n → ((m : ℕ) → j ≤ m → m < n → d < depth_at t m) → first_at t d j k ≡ None
  none_left d zero j e h = refl
  none_left d (suc k) j e h = at-deeper t d j k (h j (omega arith) (omega arith)) ∙ none_left d k (suc j) (omega arith) (λ m a b. h m (omega arith) b)

  module _ (lt : length t.nodes ≡ n) (lu : length u.nodes ≡ suc n) where
    from_next : (i : ℕ) → i < n → sibling_link u i ≡ first_at u (depth_at t i) (suc i) (suc (n - suc i))
    from_next i l = let z : length u.nodes - suc i ≡ suc (n - suc i) = omega arith in λ q. first_at u (same i l q) (suc i) (z q)

    of-next : (i : ℕ) → sibling_link t i ≡ first_at t (depth_at t i) (suc i) (n - suc i)
    of-next i = ap (λ m. first_at t (depth_at t i) (suc i) (m - suc i)) lt

    -- a node whose sibling or end stands before n keeps it
    pub sibling-kept : (i m : ℕ) → i < m → m < n → depth_at t m ≤ depth_at t i → sibling_link u i ≡ sibling_link t i
    sibling-kept i m a b h = from_next i (omega arith) ∙ (first-stop (depth_at t i) (n - suc i) (suc i) m (omega arith) (omega arith) b h ∙ sym (of-next i))

    -- one under which all that follows stands gets n, where that is as deep
    pub sibling-new : (i : ℕ) → i < n → ((m : ℕ) → i < m → m < n → depth_at t i < depth_at t m) → depth_at u n ≡ depth_at t i → sibling_link u i ≡ Some n
    sibling-new i l h e = from_next i l ∙ (first_run (depth_at t i) (n - suc i) (suc i) (omega arith) (λ m a b. h m (omega arith) b) ∙ at_here u (depth_at t i) n 0 e)

    -- and none, where that is not
    pub sibling-none : (i : ℕ) → i < n → ((m : ℕ) → i < m → m < n → depth_at t i < depth_at t m) → (depth_at u n ≡ depth_at t i → ⊥) → sibling_link u i ≡ sibling_link t i
    sibling-none i l h e =
        from_next i l ∙ (first_run (depth_at t i) (n - suc i) (suc i) (omega arith) (λ m a b. h m (omega arith) b) ∙ (go (cases_order (depth_at u n) (depth_at t i))
        ∙ sym (of-next i ∙ none_left (depth_at t i) (n - suc i) (suc i) (omega arith) (λ m a b. h m (omega arith) b))))
      where
        go : (depth_at u n ≡ depth_at t i) ⊎ ((depth_at u n < depth_at t i) ⊎ (depth_at t i < depth_at u n)) → first_at u (depth_at t i) n 1 ≡ None
        go (inl z) = absurd (e z)
        go (inr (inl z)) = at-higher u (depth_at t i) n 0 z
        go (inr (inr z)) = at-deeper u (depth_at t i) n 0 z
