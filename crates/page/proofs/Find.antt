-- What holds of `find` in a tree where no number stands twice.
use Rattle.std.proofs.Common.{◌≡◌, ℕ, Bool, true, false, cond, ◌||◌, eqb, ◌⊎◌, List, Some, sym, refl, ap, ◌∙◌, inl, inr, arith}
use Rattle.std.proofs.lemmas.Bool.{eqb-true, eq-eqb, ne_eqb, both_ways, or_parts, or_left, or_right, cases_Bool, cond-true, cond-false}
use Rattle.page.specs.declared.kind.NodeKind.{NodeKind}
use Rattle.page.specs.Forest.{Forest, none, node, or_else, find, has, head_of, kids_of, rest_of}
use Rattle.page.specs.Kept.{Unique}

-- a number that does not stand in the forest is not found
pub find_absent : (t : Forest) (n : ℕ) → has t n ≡ false → find t n ≡ none
find_absent none n h = refl
find_absent (node m k c a kids rest) n h =
    let p = or_parts (eqb m n) (has kids n || has rest n) h in
    let q = or_parts (has kids n) (has rest n) p.1 in
    rw (p.0, find_absent kids n q.0, find_absent rest n q.1) refl

or_else_none : (g : Forest) → or_else g none ≡ g
or_else_none none = refl
or_else_none (node m k c a kids rest) = refl

-- what is found in either part
or-cases-has : (f g : Forest) (n : ℕ) → has (or_else f g) n ≡ true → ((has f n ≡ true) × (or_else f g ≡ f)) ⊎ ((f ≡ none) × (has g n ≡ true))
or-cases-has none g n h = inr (refl, h)
or-cases-has (node m k c a kids rest) g n h = inl (h, refl)

-- what stands in what is found stands in the forest
pub has-find : (t : Forest) (n m : ℕ) → has (find t n) m ≡ true → has t m ≡ true
has-find none n m h = h
has-find (node i k c a kids rest) n m h = go (eqb i n) (has-find kids n m) (has-find rest n m) h
  where
    side : (has (find kids n) m ≡ true → has kids m ≡ true) → (has (find rest n) m ≡ true → has rest m ≡ true) → ((has (find kids n) m ≡ true) × (or_else (find kids n) (find rest n) ≡ find kids n)) ⊎ ((find kids n ≡ none) × (has (find rest n) m ≡ true)) → (has kids m || has rest m) ≡ true
    side f g (inl e) = or_left (has kids m) (has rest m) (f e.0)
    side f g (inr e) = or_right (has kids m) (has rest m) (g e.1)

    go : (b : Bool) → (has (find kids n) m ≡ true → has kids m ≡ true) → (has (find rest n) m ≡ true → has rest m ≡ true) → has (cond b (node i k c a kids rest) (or_else (find kids n) (find rest n))) m ≡ true → (eqb i m || (has kids m || has rest m)) ≡ true
    go true f g e = e
    go false f g e = or_right (eqb i m) (has kids m || has rest m) (side f g (or-cases-has (find kids n) (find rest n) m e))

-- a number that stands in the forest, with its node
pub record At (t : Forest) (n : ℕ) : Type 0 where
  pub kind : NodeKind
  pub content : List ℕ
  pub attrs : List (List ℕ × List ℕ)
  pub kids : Forest
  pub rest : Forest
  pub is : find t n ≡ node n kind content attrs kids rest

pub at : (t : Forest) (n : ℕ) → has t n ≡ true → At t n
at none n h = absurd (both_ways false refl h)
at (node i k c a kids rest) n h = go (cases_Bool (eqb i n)) (cases_Bool (has kids n)) (at kids n) (at rest n)
  where
    go : (eqb i n ≡ true) ⊎ (eqb i n ≡ false) → (has kids n ≡ true) ⊎ (has kids n ≡ false) → (has kids n ≡ true → At kids n) → (has rest n ≡ true → At rest n) → At (node i k c a kids rest) n
    go (inl e) _ f g = record { kind = k; content = c; attrs = a; kids = kids; rest = rest; is = cond-true (eqb i n) _ _ e ∙ ap (λ j. node j k c a kids rest) (eqb-true i n e) }
    go (inr e) (inl y) f g =
        let r = f y in
        record { kind = r.kind; content = r.content; attrs = r.attrs; kids = r.kids; rest = r.rest; is = cond-false (eqb i n) _ _ e ∙ ap (λ x. or_else x (find rest n)) r.is }
    go (inr e) (inr y) f g =
        let hr : has rest n ≡ true = rw (e, y) at h in
        let r = g hr in
        record { kind = r.kind; content = r.content; attrs = r.attrs; kids = r.kids; rest = r.rest; is = cond-false (eqb i n) _ _ e ∙ (ap (λ x. or_else x (find rest n)) (find_absent kids n y) ∙ r.is) }

-- the first part wins where it has the number
or_else-has : (t g : Forest) (n : ℕ) → has t n ≡ true → or_else (find t n) g ≡ find t n
or_else-has t g n h = let r = at t n h in rw r.is refl

-- two numbers apart, since one stands where the other does not
pub apart : (t : Forest) (i m : ℕ) → has t i ≡ false → has t m ≡ true → eqb i m ≡ false
apart t i m x y = ne_eqb i m (λ e. both_ways (has t m) (rw e at x) y)

pub off-kids : (kids rest : Forest) (n : ℕ) → ((j : ℕ) → has kids j ≡ true → has rest j ≡ false) → has rest n ≡ true → has kids n ≡ false
off-kids kids rest n d h = go (has kids n) (d n)
  where
    go : (b : Bool) → (b ≡ true → has rest n ≡ false) → b ≡ false
    go true f = absurd (both_ways (has rest n) (f refl) h)
    go false f = refl

module _ (i : ℕ) (k : NodeKind) (c : List ℕ) (a : List (List ℕ × List ℕ)) (kids rest : Forest) (n : ℕ) (u : Unique (node i k c a kids rest)) where
  -- a node under the first is found under it
  pub find-under : has kids n ≡ true → find (node i k c a kids rest) n ≡ find kids n
  find-under h = cond-false (eqb i n) _ _ (apart kids i n u.0 h) ∙ or_else-has kids (find rest n) n h

  -- a node after the first is found there
  pub find-beside : has rest n ≡ true → find (node i k c a kids rest) n ≡ find rest n
  find-beside h = cond-false (eqb i n) _ _ (apart rest i n u.1 h) ∙ ap (λ f. or_else f (find rest n)) (find_absent kids n (off-kids kids rest n u.2 h))

-- a node of the forest that is found at n is found there as in the whole
pub find-find : (t : Forest) (n m : ℕ) → Unique t → has (find t n) m ≡ true → find t m ≡ find (find t n) m
find-find none n m u h = refl
find-find (node i k c a kids rest) n m u h =
    go (eqb i n) (has-find kids n m) (has-find rest n m) (find-find kids n m u.3) (find-find rest n m u.4) h
  where
    go : (b : Bool) → (has (find kids n) m ≡ true → has kids m ≡ true) → (has (find rest n) m ≡ true → has rest m ≡ true)
        → (has (find kids n) m ≡ true → find kids m ≡ find (find kids n) m)
        → (has (find rest n) m ≡ true → find rest m ≡ find (find rest n) m)
        → has (cond b (node i k c a kids rest) (or_else (find kids n) (find rest n))) m ≡ true
        → find (node i k c a kids rest) m ≡ find (cond b (node i k c a kids rest) (or_else (find kids n) (find rest n))) m
    go true hk hr fk fr e = refl
    go false hk hr fk fr e = side (or-cases-has (find kids n) (find rest n) m e)
      where
        side : ((has (find kids n) m ≡ true) × (or_else (find kids n) (find rest n) ≡ find kids n)) ⊎ ((find kids n ≡ none) × (has (find rest n) m ≡ true))
            → cond (eqb i m) (node i k c a kids rest) (or_else (find kids m) (find rest m)) ≡ find (or_else (find kids n) (find rest n)) m
        side (inl x) = find-under i k c a kids rest m u (hk x.0) ∙ (fk x.0 ∙ ap (λ f. find f m) (sym x.1))
        side (inr x) = find-beside i k c a kids rest m u (hr x.1) ∙ (fr x.1 ∙ ap (λ f. find (or_else f (find rest n)) m) (sym x.0))

or_else-unique : (f g : Forest) → Unique f → Unique g → Unique (or_else f g)
or_else-unique none g x y = y
or_else-unique (node i k c a kids rest) g x y = x

pub unique-find : (t : Forest) (n : ℕ) → Unique t → Unique (find t n)
unique-find none n u = u
unique-find (node i k c a kids rest) n u = go (eqb i n) (unique-find kids n u.3) (unique-find rest n u.4)
  where
    go : (b : Bool) → Unique (find kids n) → Unique (find rest n) → Unique (cond b (node i k c a kids rest) (or_else (find kids n) (find rest n)))
    go true x y = u
    go false x y = or_else-unique (find kids n) (find rest n) x y

-- the first node of what is found has the number sought
pub head-find : (t : Forest) (n : ℕ) → has t n ≡ true → head_of (find t n) ≡ Some n
head-find t n h = ap head_of (at t n h).is

eqb-self : (n : ℕ) → eqb n n ≡ true
eqb-self n = eq-eqb n n refl

-- a forest whose first node is m is what is found at m in it
pub find_first : (f : Forest) (m : ℕ) → head_of f ≡ Some m → (find f m ≡ f) × (has f m ≡ true)
find_first none m h = absurd (let z : ◌≡◌ {A = ℕ} 0 1 = cc in omega arith)
find_first (node i k c a kids rest) m h =
    let e : i ≡ m = cc in
    (cond-true (eqb i m) _ _ (eq-eqb i m e), or_left (eqb i m) _ (eq-eqb i m e))

module _ (t : Forest) (u : Unique t) (n : ℕ) where
  -- what is found at the first child is the children
  pub find-kids : (m : ℕ) → head_of (kids_of (find t n)) ≡ Some m → find t m ≡ kids_of (find t n)
  find-kids m h = go (find t n) refl (unique-find t n u) h
    where
      go : (f : Forest) → find t n ≡ f → Unique f → head_of (kids_of f) ≡ Some m → find t m ≡ kids_of f
      go none e v x = absurd (let z : ◌≡◌ {A = ℕ} 0 1 = cc in omega arith)
      go (node i k c a kids rest) e v x =
          let first = find_first kids m x in
          let inside : has (node i k c a kids rest) m ≡ true = or_right (eqb i m) _ (or_left (has kids m) (has rest m) first.1) in
          let whole : find t m ≡ find (node i k c a kids rest) m = rw e at (find-find t n m u (rw e inside)) in
          whole ∙ (find-under i k c a kids rest m v first.1 ∙ first.0)

  -- what is found at the next sibling is the later siblings
  pub find-rest : (m : ℕ) → head_of (rest_of (find t n)) ≡ Some m → find t m ≡ rest_of (find t n)
  find-rest m h = go (find t n) refl (unique-find t n u) h
    where
      go : (f : Forest) → find t n ≡ f → Unique f → head_of (rest_of f) ≡ Some m → find t m ≡ rest_of f
      go none e v x = absurd (let z : ◌≡◌ {A = ℕ} 0 1 = cc in omega arith)
      go (node i k c a kids rest) e v x =
          let first = find_first rest m x in
          let inside : has (node i k c a kids rest) m ≡ true = or_right (eqb i m) _ (or_right (has kids m) (has rest m) first.1) in
          let whole : find t m ≡ find (node i k c a kids rest) m = rw e at (find-find t n m u (rw e inside)) in
          whole ∙ (find-beside i k c a kids rest m v first.1 ∙ first.0)

-- a number whose node is found stands in the forest
pub head-has : (t : Forest) (n : ℕ) → head_of (find t n) ≡ Some n → has t n ≡ true
head-has t n h = has-find t n n (find_first (find t n) n h).1
