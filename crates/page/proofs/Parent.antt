-- What the answer of a parent says, in a tree where no number stands twice.
use Rattle.std.proofs.Common.{◌≡◌, ℕ, suc, ◌+◌, ◌<◌, ◌≤◌, Bool, true, false, cond, ◌||◌, eqb, ◌⊎◌, List, Some, None, Option, sym, refl, ap, ◌∙◌, inl, inr, arith}
use Rattle.std.proofs.lemmas.Bool.{eqb-true, ne_eqb, both_ways, or_parts, or_left, or_right, or_cases, or_from, cases_Bool, cond-true, cond-false}
use Rattle.page.specs.declared.kind.NodeKind.{NodeKind}
use Rattle.page.specs.Forest.{Forest, none, node, or_else, or_else_o, find, has, head_of, kids_of, rest_of, size, among, parent_in}
use Rattle.page.specs.Kept.{Unique, Below}
use Rattle.page.proofs.Find.{find-under, find-beside, find_first, apart, off-kids, unique-find, find-find, head-find, has-find}
use Rattle.page.proofs.Walk.{size-parts}

pub among-has : (f : Forest) (n : ℕ) → among f n ≡ true → has f n ≡ true
among-has none n h = h
among-has (node m k c a kids rest) n h = go (or_cases (eqb m n) (among rest n) h) (among-has rest n)
  where
    go : (eqb m n ≡ true) ⊎ (among rest n ≡ true) → (among rest n ≡ true → has rest n ≡ true) → (eqb m n || (has kids n || has rest n)) ≡ true
    go (inl e) f = or_left (eqb m n) _ e
    go (inr e) f = or_right (eqb m n) _ (or_right (has kids n) _ (f e))

-- where n stands whose parent is q: on the first level, or among the children of q
pub Placed : Option ℕ → Forest → ℕ → ℕ → Type 0
Placed up f n q = ((among f n ≡ true) × (up ≡ Some q)) ⊎ ((has f q ≡ true) × (among (kids_of (find f q)) n ≡ true))

pub placed : (up : Option ℕ) (f : Forest) (n q : ℕ) → Unique f → parent_in up f n ≡ Some q → Placed up f n q
unfolding Placed
placed up none n q u e = absurd (let z : ◌≡◌ {A = ℕ} 0 1 = cc in omega arith)
placed up (node m k c a kids rest) n q u e =
    go (cases_Bool (eqb m n)) (parent_in (Some m) kids n) refl (placed (Some m) kids n q u.3) (placed up rest n q u.4)
  where
    t : Forest
    t = node m k c a kids rest

    in_kids : ((among kids n ≡ true) × (◌≡◌ {A = Option ℕ} (Some m) (Some q))) ⊎ ((has kids q ≡ true) × (among (kids_of (find kids q)) n ≡ true)) → Placed up (node m k c a kids rest) n q
    in_kids (inl x) =
        let mq : m ≡ q = let y = x.1 in cc in
        let first = find_first (node m k c a kids rest) q (ap Some mq) in
        inr (first.1, rw first.0 x.0)
    in_kids (inr x) = inr (or_right (eqb m q) _ (or_left (has kids q) _ x.0), rw (find-under m k c a kids rest q u x.0) x.1)

    in_rest : ((among rest n ≡ true) × (up ≡ Some q)) ⊎ ((has rest q ≡ true) × (among (kids_of (find rest q)) n ≡ true)) → Placed up (node m k c a kids rest) n q
    in_rest (inl x) = inl (or_right (eqb m n) _ x.0, x.1)
    in_rest (inr x) = inr (or_right (eqb m q) _ (or_right (has kids q) _ x.0), rw (find-beside m k c a kids rest q u x.0) x.1)

    go : (eqb m n ≡ true) ⊎ (eqb m n ≡ false) → (o : Option ℕ) → parent_in (Some m) kids n ≡ o
        → (parent_in (Some m) kids n ≡ Some q → ((among kids n ≡ true) × (◌≡◌ {A = Option ℕ} (Some m) (Some q))) ⊎ ((has kids q ≡ true) × (among (kids_of (find kids q)) n ≡ true)))
        → (parent_in up rest n ≡ Some q → ((among rest n ≡ true) × (up ≡ Some q)) ⊎ ((has rest q ≡ true) × (among (kids_of (find rest q)) n ≡ true)))
        → Placed up (node m k c a kids rest) n q
    go (inl y) o i fk fr = inl (or_left (eqb m n) _ y, rw y at e)
    go (inr y) (Some x) i fk fr = in_kids (fk (let z : or_else_o (parent_in (Some m) kids n) (parent_in up rest n) ≡ Some q = rw y at e in i ∙ rw i at z))
    go (inr y) None i fk fr = in_rest (fr (let z : or_else_o (parent_in (Some m) kids n) (parent_in up rest n) ≡ Some q = rw y at e in rw i at z))

-- a node has fewer under it than the forest that it stands in has
or_else-size : (f g : Forest) → size (or_else f g) ≤ size f + size g
or_else-size none g = omega arith
or_else-size (node m k c a kids rest) g = omega arith

pub size-find : (t : Forest) (n : ℕ) → size (find t n) ≤ size t
size-find none n = omega arith
size-find (node i k c a kids rest) n = go (eqb i n) (size-find kids n) (size-find rest n)
  where
    go : (b : Bool) → size (find kids n) ≤ size kids → size (find rest n) ≤ size rest
        → size (cond b (node i k c a kids rest) (or_else (find kids n) (find rest n))) ≤ suc (size kids + size rest)
    go true x y = omega arith
    go false x y = omega (arith, or_else-size (find kids n) (find rest n))

-- a number of a page below its bound
pub below-has : (b : ℕ) (t : Forest) (n : ℕ) → Below b t → has t n ≡ true → n < b
below-has b none n l h = absurd (both_ways false refl h)
below-has b (node m k c a kids rest) n l h = go (or_cases (eqb m n) _ h) (below-has b kids n l.1) (below-has b rest n l.2)
  where
    side : (has kids n ≡ true) ⊎ (has rest n ≡ true) → (has kids n ≡ true → n < b) → (has rest n ≡ true → n < b) → n < b
    side (inl e) f g = f e
    side (inr e) f g = g e

    go : (eqb m n ≡ true) ⊎ ((has kids n || has rest n) ≡ true) → (has kids n ≡ true → n < b) → (has rest n ≡ true → n < b) → n < b
    go (inl e) f g = omega (arith, eqb-true m n e, l.0)
    go (inr e) f g = side (or_cases (has kids n) (has rest n) e) f g

-- the parents of what is not there, and of what is
pub parent-absent : (up : Option ℕ) (t : Forest) (n : ℕ) → has t n ≡ false → parent_in up t n ≡ None
parent-absent up none n h = refl
parent-absent up (node m k c a kids rest) n h =
    let p = or_parts (eqb m n) (has kids n || has rest n) h in
    let q = or_parts (has kids n) (has rest n) p.1 in
    cond-false (eqb m n) _ _ p.0 ∙ (ap (λ o. or_else_o o (parent_in up rest n)) (parent-absent (Some m) kids n q.0) ∙ parent-absent up rest n q.1)

pub parent-present : (x : ℕ) (t : Forest) (n : ℕ) → has t n ≡ true → (q : ℕ) × (parent_in (Some x) t n ≡ Some q)
parent-present x none n h = absurd (both_ways false refl h)
parent-present x (node m k c a kids rest) n h = go (cases_Bool (eqb m n)) (cases_Bool (has kids n)) (parent-present m kids n) (parent-present x rest n)
  where
    go : (eqb m n ≡ true) ⊎ (eqb m n ≡ false) → (has kids n ≡ true) ⊎ (has kids n ≡ false)
        → (has kids n ≡ true → (q : ℕ) × (parent_in (Some m) kids n ≡ Some q))
        → (has rest n ≡ true → (q : ℕ) × (parent_in (Some x) rest n ≡ Some q))
        → (q : ℕ) × (cond (eqb m n) (Some x) (or_else_o (parent_in (Some m) kids n) (parent_in (Some x) rest n)) ≡ Some q)
    go (inl e) _ f g = (x, cond-true (eqb m n) _ _ e)
    go (inr e) (inl y) f g = let r = f y in (r.0, cond-false (eqb m n) _ _ e ∙ ap (λ o. or_else_o o (parent_in (Some x) rest n)) r.1)
    go (inr e) (inr y) f g =
        let in_rest : has rest n ≡ true = rw (e, y) at h in
        let r = g in_rest in
        (r.0, cond-false (eqb m n) _ _ e ∙ (ap (λ o. or_else_o o (parent_in (Some x) rest n)) (parent-absent (Some m) kids n y) ∙ r.1))

module _ (up : Option ℕ) (m : ℕ) (k : NodeKind) (c : List ℕ) (a : List (List ℕ × List ℕ)) (kids rest : Forest) (n : ℕ) (u : Unique (node m k c a kids rest)) where
  pub parent-under : has kids n ≡ true → parent_in up (node m k c a kids rest) n ≡ parent_in (Some m) kids n
  parent-under h =
      let p = parent-present m kids n h in
      cond-false (eqb m n) _ _ (apart kids m n u.0 h) ∙ (ap (λ o. or_else_o o (parent_in up rest n)) p.1 ∙ sym p.1)

  pub parent-beside : has rest n ≡ true → parent_in up (node m k c a kids rest) n ≡ parent_in up rest n
  parent-beside h =
      cond-false (eqb m n) _ _ (apart rest m n u.1 h)
      ∙ ap (λ o. or_else_o o (parent_in up rest n)) (parent-absent (Some m) kids n (off-kids kids rest n u.2 h))

-- in a tree: a node with a parent, and one without
pub parent-some : (t : Forest) (n q : ℕ) → Unique t → parent_in None t n ≡ Some q → (has t q ≡ true) × (among (kids_of (find t q)) n ≡ true)
unfolding Placed
parent-some t n q u e = go (placed None t n q u e)
  where
    go : ((among t n ≡ true) × (None ≡ Some q)) ⊎ ((has t q ≡ true) × (among (kids_of (find t q)) n ≡ true)) → (has t q ≡ true) × (among (kids_of (find t q)) n ≡ true)
    go (inl x) = absurd (let y = x.1 in let z : ◌≡◌ {A = ℕ} 0 1 = cc in omega arith)
    go (inr x) = x

pub parent-has : (t : Forest) (n q : ℕ) → parent_in None t n ≡ Some q → has t n ≡ true
parent-has t n q e = go (cases_Bool (has t n))
  where
    go : (has t n ≡ true) ⊎ (has t n ≡ false) → has t n ≡ true
    go (inl x) = x
    go (inr x) = absurd (let y = parent-absent None t n x in let z : ◌≡◌ {A = ℕ} 0 1 = cc in omega arith)

pub parent-none : (t : Forest) (r n : ℕ) → head_of t ≡ Some r → rest_of t ≡ none → (n ≡ r → ⊥) → parent_in None t n ≡ None → has t n ≡ false
parent-none none r n h l d e = refl
parent-none (node m k c a kids rest) r n h l d e = or_from (eqb m n) _ off (or_from (has kids n) _ (go (cases_Bool (has kids n))) (rw l refl))
  where
    off : eqb m n ≡ false
    off = ne_eqb m n (λ x. d (sym x ∙ (let mr : m ≡ r = cc in mr)))

    go : (has kids n ≡ true) ⊎ (has kids n ≡ false) → has kids n ≡ false
    go (inl x) =
        let p = parent-present m kids n x in
        let s = sym (cond-false (eqb m n) _ _ off ∙ ap (λ o. or_else_o o (parent_in None rest n)) p.1) ∙ e in
        absurd (let z : ◌≡◌ {A = ℕ} 0 1 = cc in omega arith)
    go (inr x) = x

-- what is under a node is less than what is under its parent
pub size-up : (t : Forest) (n q : ℕ) → Unique t → parent_in None t n ≡ Some q → (size (kids_of (find t n)) < size (kids_of (find t q))) × (size (kids_of (find t q)) ≤ size t)
size-up t n q u e = go (find t q) refl (parent-some t n q u e).1 (unique-find t q u) (size-find t q)
  where
    go : (g : Forest) → find t q ≡ g → among (kids_of g) n ≡ true → Unique g → size g ≤ size t → (size (kids_of (find t n)) < size (kids_of g)) × (size (kids_of g) ≤ size t)
    go none i h v l = absurd (both_ways false refl h)
    go (node m k c a kids rest) i h v l =
        let inside = among-has kids n h in
        let has-it : has (node m k c a kids rest) n ≡ true = or_right (eqb m n) _ (or_left (has kids n) _ inside) in
        let same : find t n ≡ find kids n = (rw i at (find-find t q n u (rw i has-it))) ∙ find-under m k c a kids rest n v inside in
        let parts = size-parts (find kids n) n (head-find kids n inside) in
        (omega (arith, ap (λ g. size (kids_of g)) same, parts, size-find kids n), omega arith)

-- on the first level the parent is the one above
pub parent-among : (up : Option ℕ) (t : Forest) (n : ℕ) → Unique t → among t n ≡ true → parent_in up t n ≡ up
parent-among up none n u h = absurd (both_ways false refl h)
parent-among up (node m k c a kids rest) n u h = go (or_cases (eqb m n) _ h) (parent-among up rest n u.4)
  where
    go : (eqb m n ≡ true) ⊎ (among rest n ≡ true) → (among rest n ≡ true → parent_in up rest n ≡ up) → parent_in up (node m k c a kids rest) n ≡ up
    go (inl e) f = cond-true (eqb m n) _ _ e
    go (inr e) f = parent-beside up m k c a kids rest n u (among-has rest n e) ∙ f e

pub kids-has : (g : Forest) (j : ℕ) → has (kids_of g) j ≡ true → has g j ≡ true
kids-has none j h = h
kids-has (node m k c a kids rest) j h = or_right (eqb m j) _ (or_left (has kids j) _ h)

-- a child's parent
pub parent-child : (up : Option ℕ) (t : Forest) (n q : ℕ) → Unique t → has t q ≡ true → among (kids_of (find t q)) n ≡ true → parent_in up t n ≡ Some q
parent-child up none n q u h e = absurd (both_ways false refl h)
parent-child up (node m k c a kids rest) n q u h e =
    go (cases_Bool (eqb m q)) (cases_Bool (has kids q)) (parent-child (Some m) kids n q u.3) (parent-child up rest n q u.4)
  where
    go : (eqb m q ≡ true) ⊎ (eqb m q ≡ false) → (has kids q ≡ true) ⊎ (has kids q ≡ false)
        → (has kids q ≡ true → among (kids_of (find kids q)) n ≡ true → parent_in (Some m) kids n ≡ Some q)
        → (has rest q ≡ true → among (kids_of (find rest q)) n ≡ true → parent_in up rest n ≡ Some q)
        → parent_in up (node m k c a kids rest) n ≡ Some q
    go (inl x) _ f g =
        let here : among kids n ≡ true = rw (cond-true (eqb m q) (node m k c a kids rest) (or_else (find kids q) (find rest q)) x) at e in
        parent-under up m k c a kids rest n u (among-has kids n here) ∙ (parent-among (Some m) kids n u.3 here ∙ ap Some (eqb-true m q x))
    go (inr x) (inl y) f g =
        let here : among (kids_of (find kids q)) n ≡ true = rw (find-under m k c a kids rest q u y) at e in
        let inside : has kids n ≡ true = has-find kids q n (kids-has (find kids q) n (among-has (kids_of (find kids q)) n here)) in
        parent-under up m k c a kids rest n u inside ∙ f y here
    go (inr x) (inr y) f g =
        let z : has rest q ≡ true = rw (x, y) at h in
        let here : among (kids_of (find rest q)) n ≡ true = rw (find-beside m k c a kids rest q u z) at e in
        let inside : has rest n ≡ true = has-find rest q n (kids-has (find rest q) n (among-has (kids_of (find rest q)) n here)) in
        parent-beside up m k c a kids rest n u inside ∙ g z here
