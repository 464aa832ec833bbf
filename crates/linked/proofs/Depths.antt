-- The last node above a depth, and the first at one.
use Rattle.std.proofs.Common.{◌≡◌, ℕ, zero, suc, ◌+◌, ◌-◌, ◌<◌, ◌≤◌, eqb, ltb, ◌⊎◌, Some, None, sym, refl, ap, ◌∙◌, subst, inl, inr, arith}
use Rattle.std.proofs.lemmas.Bool.{cases_lt, cases_eq, lt-ltb, le-ltb, eq-eqb, ne_eqb, cond-true, cond-false}
use Rattle.table.specs.Table.{Table}
use Rattle.table.specs.Links.{depth_at}
use Rattle.linked.specs.Links.{last_above, first_at}

-- q is the last of the first k nodes that is less deep than d
pub record Above (t : Table) (d k q : ℕ) : Type 0 where
  pub before : q < k
  pub less : depth_at t q < d
  pub between : (j : ℕ) → q < j → j < k → d ≤ depth_at t j

module _ (t : Table) where
  pub above-here : (d k : ℕ) → depth_at t k < d → last_above t d (suc k) ≡ Some k
  above-here d k h = cond-true (ltb (depth_at t k) d) _ _ (lt-ltb (depth_at t k) d h)

  pub above-skip : (d k : ℕ) → d ≤ depth_at t k → last_above t d (suc k) ≡ last_above t d k
  above-skip d k h = cond-false (ltb (depth_at t k) d) _ _ (le-ltb (depth_at t k) d h)

  -- what is answered is the last one
  pub above-is : (d k q : ℕ) → last_above t d k ≡ Some q → Above t d k q
  above-is d zero q e = absurd (let z : ◌≡◌ {A = ℕ} 0 1 = cc in omega arith)
  above-is d (suc k) q e = go (cases_lt (depth_at t k) d) (above-is d k q)
    where
      go : (depth_at t k < d) ⊎ (d ≤ depth_at t k) → (last_above t d k ≡ Some q → Above t d k q) → Above t d (suc k) q
      go (inl h) r =
          let p : Some k ≡ Some q = sym (above-here d k h) ∙ e in
          let same : k ≡ q = cc in
          record { before = omega arith; less = subst (λ n. depth_at t n < d) same h; between = λ j a b. absurd (omega arith) }
      go (inr h) r =
          let a = r (sym (above-skip d k h) ∙ e) in
          let l = a.before in
          record { before = omega arith; less = a.less; between = λ j x y. near j x y (cases_eq j k) a }
        where
          near : (j : ℕ) → q < j → j < suc k → (j ≡ k) ⊎ (j ≡ k → ⊥) → Above t d k q → d ≤ depth_at t j
          near j x y (inl z) a = subst (λ n. d ≤ depth_at t n) (sym z) h
          near j x y (inr z) a = a.between j x (omega arith)

  -- the last one is answered
  pub is-above : (d k q : ℕ) → Above t d k q → last_above t d k ≡ Some q
  is-above d zero q a = absurd (let l = a.before in omega arith)
  is-above d (suc k) q a = go (cases_eq k q) (is-above d k q)
    where
      go : (k ≡ q) ⊎ (k ≡ q → ⊥) → (Above t d k q → last_above t d k ≡ Some q) → last_above t d (suc k) ≡ Some q
      go (inl z) r = above-here d k (subst (λ n. depth_at t n < d) (sym z) a.less) ∙ ap Some z
      go (inr z) r =
          let l = a.before in
          above-skip d k (a.between k (omega arith) (omega arith)) ∙ r (record { before = omega arith; less = a.less; between = λ j x y. a.between j x (omega arith) })

  -- where none is less deep
  pub none_above : (d k : ℕ) → last_above t d k ≡ None → (j : ℕ) → j < k → d ≤ depth_at t j
  none_above d zero e j l = absurd (omega arith)
  none_above d (suc k) e j l = go (cases_lt (depth_at t k) d) (none_above d k)
    where
      go : (depth_at t k < d) ⊎ (d ≤ depth_at t k) → (last_above t d k ≡ None → (j : ℕ) → j < k → d ≤ depth_at t j) → d ≤ depth_at t j
      go (inl h) r = absurd (let p = sym (above-here d k h) ∙ e in let z : ◌≡◌ {A = ℕ} 0 1 = cc in omega arith)
      go (inr h) r = near (cases_eq j k) (r (sym (above-skip d k h) ∙ e))
        where
          near : (j ≡ k) ⊎ (j ≡ k → ⊥) → ((j : ℕ) → j < k → d ≤ depth_at t j) → d ≤ depth_at t j
          near (inl z) f = subst (λ n. d ≤ depth_at t n) (sym z) h
          near (inr z) f = f j (omega arith)

  pub above-none : (d k : ℕ) → ((j : ℕ) → j < k → d ≤ depth_at t j) → last_above t d k ≡ None
  above-none d zero h = refl
  above-none d (suc k) h = above-skip d k (h k (omega arith)) ∙ above-none d k (λ j l. h j (omega arith))

  -- on the way up from a node that is as deep: its parent is looked at next
  pub above-up : (d p q : ℕ) → d ≤ depth_at t p → last_above t (depth_at t p) p ≡ Some q → last_above t d (suc p) ≡ last_above t d (suc q)
  above-up d p q h e = above-skip d p h ∙ down p (above-is (depth_at t p) p q e)
    where
      down : (k : ℕ) → Above t (depth_at t p) k q → last_above t d k ≡ last_above t d (suc q)
      down zero a = absurd (let l = a.before in omega arith)
      down (suc k) a = go (cases_eq k q) (down k)
        where
          go : (k ≡ q) ⊎ (k ≡ q → ⊥) → (Above t (depth_at t p) k q → last_above t d k ≡ last_above t d (suc q)) → last_above t d (suc k) ≡ last_above t d (suc q)
          go (inl z) r = ap (λ n. last_above t d (suc n)) z
          go (inr z) r =
              let l = a.before in
              let b = a.between k (omega arith) (omega arith) in
              above-skip d k (omega arith) ∙ r (record { before = omega arith; less = a.less; between = λ j x y. a.between j x (omega arith) })

  pub above-out : (d p : ℕ) → d ≤ depth_at t p → last_above t (depth_at t p) p ≡ None → last_above t d (suc p) ≡ None
  above-out d p h e = above-skip d p h ∙ above-none d p (λ j l. let b = none_above (depth_at t p) p e j l in omega arith)

  -- the three ways of the first at a depth
  pub at-deeper : (d j k : ℕ) → d < depth_at t j → first_at t d j (suc k) ≡ first_at t d (suc j) k
  at-deeper d j k h = cond-true (ltb d (depth_at t j)) _ _ (lt-ltb d (depth_at t j) h)

  pub at_here : (d j k : ℕ) → depth_at t j ≡ d → first_at t d j (suc k) ≡ Some j
  at_here d j k h = cond-false (ltb d (depth_at t j)) _ _ (le-ltb d (depth_at t j) (omega arith)) ∙ cond-true (eqb (depth_at t j) d) _ _ (eq-eqb (depth_at t j) d h)

  pub at-higher : (d j k : ℕ) → depth_at t j < d → first_at t d j (suc k) ≡ None
  at-higher d j k h = cond-false (ltb d (depth_at t j)) _ _ (le-ltb d (depth_at t j) (omega arith)) ∙ cond-false (eqb (depth_at t j) d) _ _ (ne_eqb (depth_at t j) d (λ e. omega arith))

  -- what is first after a run of deeper nodes
  pub first-none : (d k j : ℕ) → ((m : ℕ) → j ≤ m → m < j + k → d < depth_at t m) → first_at t d j k ≡ None
  first-none d zero j h = refl
  first-none d (suc k) j h = at-deeper d j k (h j (omega arith) (omega arith)) ∙ first-none d k (suc j) (λ m a b. h m (omega arith) (omega arith))

  pub first-there : (d k j i : ℕ) → j ≤ i → i < j + k → ((m : ℕ) → j ≤ m → m < i → d < depth_at t m) → first_at t d j k ≡ first_at t d i (j + k - i)
  first-there d zero j i a b h = absurd (omega arith)
  first-there d (suc k) j i a b h = go (cases_eq j i) (λ (l : j < i). first-there d k (suc j) i (omega arith) (omega arith) (λ m x y. h m (omega arith) y))
    where
      go : (j ≡ i) ⊎ (j ≡ i → ⊥) → (j < i → first_at t d (suc j) k ≡ first_at t d i (suc j + k - i)) → first_at t d j (suc k) ≡ first_at t d i (j + suc k - i)
      go (inl z) r = let e : suc k ≡ j + suc k - i = omega arith in λ q. first_at t d (z q) (e q)
      go (inr z) r = let e : suc j + k - i ≡ j + suc k - i = omega arith in at-deeper d j k (h j (omega arith) (omega arith)) ∙ (r (omega arith) ∙ ap (first_at t d i) e)
