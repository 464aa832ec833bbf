-- Where the node of a row stands, and what stands under and after it.
use Rattle.std.proofs.Common.{◌≡◌, ℕ, zero, suc, ◌+◌, ◌-◌, ◌<◌, ◌≤◌, Bool, true, false, ◌||◌, eqb, ◌⊎◌, List, [], ◌∷◌, length, get_or, drop, Some, None, sym, refl, ap, ◌∙◌, inl, inr, add-one, arith, drop-cons}
use Rattle.std.proofs.lemmas.Bool.{eq-eqb, both_ways, or_left, or_right, cases_eq, cases_order, cond-true}
use Rattle.page.specs.Forest.{none, node, find, has, among, parent_in}
use Rattle.table.specs.Rows.{Row, parse, reach, steps, formed, blank}
use Rattle.std.proofs.lemmas.List.{drop_all}
use Rattle.page.proofs.Parent.{parent-child}
use Rattle.table.proofs.Parse.{parse-at, parse-skip, parse-end, parse-range, parse-unique, parse-all, find-parse, step, reach-most}
use Rattle.table.proofs.Lawful.{Formed, form}

-- every record is a node, and is found at its place
pub parse-has : (xs : List Row) (n : ℕ) → formed xs ≡ true → n < length xs → has (parse 0 0 xs) n ≡ true
parse-has [] n h l = absurd (omega arith)
parse-has (x ∷ xs) n h l = rw is (go (cases_eq 0 n))
  where
    f : Formed x xs
    f = form x xs h

    is : parse 0 0 (x ∷ xs) ≡ node 0 x.kind x.content x.attrs (parse 1 1 xs) (parse 1 0 xs)
    is = parse-at 0 0 x xs f.root

    go : (0 ≡ n) ⊎ (0 ≡ n → ⊥) → (eqb 0 n || (has (parse 1 1 xs) n || has (parse 1 0 xs) n)) ≡ true
    go (inl e) = or_left (eqb 0 n) _ (eq-eqb 0 n e)
    go (inr e) =
        let r = parse-all xs (reach x) 1 n f.next (omega arith) (omega arith) in
        let one : r.0 ≡ 1 = omega (arith, r.1, r.2, reach-most x, f.root) in
        or_right (eqb 0 n) _ (or_left (has (parse 1 1 xs) n) _ (rw one at r.3))

pub found : (xs : List Row) (n : ℕ) (r : Row) → formed xs ≡ true → n < length xs → find (parse 0 0 xs) n ≡ parse n (get_or xs n r).depth (drop n xs)
found xs n r h l = find-parse xs 0 0 n n r (omega arith) (parse-has xs n h l)

-- a record and the rest, at its place
cut : (xs : List Row) (k : ℕ) → k < length xs → drop k xs ≡ get_or xs k blank ∷ drop (k + 1) xs
cut xs k l = rw add-one (drop-cons xs k blank l)

module _ (xs : List Row) (k d : ℕ) where
  pub head-end : length xs ≤ k → parse k d (drop k xs) ≡ none
  head-end l = ap (parse k d) (drop_all k xs l)

  pub head-skip : k < length xs → d < (get_or xs k blank).depth → parse k d (drop k xs) ≡ parse (k + 1) d (drop (k + 1) xs)
  head-skip l h = ap (parse k d) (cut xs k l) ∙ (parse-skip k d (get_or xs k blank) (drop (k + 1) xs) h ∙ ap (λ i. parse i d (drop (k + 1) xs)) (sym (add-one k)))

  pub head-stop : k < length xs → (get_or xs k blank).depth < d → parse k d (drop k xs) ≡ none
  head-stop l h = ap (parse k d) (cut xs k l) ∙ parse-end k d (get_or xs k blank) (drop (k + 1) xs) h

  pub head-here : k < length xs → (get_or xs k blank).depth ≡ d
      → parse k d (drop k xs) ≡ node k (get_or xs k blank).kind (get_or xs k blank).content (get_or xs k blank).attrs (parse (k + 1) (suc d) (drop (k + 1) xs)) (parse (k + 1) d (drop (k + 1) xs))
  head-here l h = ap (parse k d) (cut xs k l) ∙ rw add-one (parse-at k d (get_or xs k blank) (drop (suc k) xs) h)

module _ (xs : List Row) (ok : formed xs ≡ true) where
  pub node_at_lem : (n : ℕ) → n < length xs
      → find (parse 0 0 xs) n ≡ node n (get_or xs n blank).kind (get_or xs n blank).content (get_or xs n blank).attrs (parse (n + 1) (suc (get_or xs n blank).depth) (drop (n + 1) xs)) (parse (n + 1) (get_or xs n blank).depth (drop (n + 1) xs))
  node_at_lem n l = found xs n blank ok l ∙ head-here xs n (get_or xs n blank).depth l refl

  pub not_there : (n : ℕ) → length xs ≤ n → has (parse 0 0 xs) n ≡ false
  not_there n l = go (has (parse 0 0 xs) n) (parse-range xs 0 0 n)
    where
      go : (b : Bool) → (b ≡ true → (0 ≤ n) × (n < 0 + length xs)) → b ≡ false
      go true f = absurd (let r = f refl in omega arith)
      go false f = refl

-- what the steps say of each record
steps-at : (xs : List Row) (m j : ℕ) → steps m xs ≡ true → j < length xs → 1 ≤ (get_or xs j blank).depth
steps-at [] m j h l = absurd (omega arith)
steps-at (x ∷ xs) m zero h l = (step m x xs h).low
steps-at (x ∷ xs) m (suc j) h l = let t = step m x xs h in steps-at xs (reach x) j t.next (omega arith)

steps_first : (xs : List Row) (m : ℕ) → steps m xs ≡ true → 0 < length xs → (get_or xs 0 blank).depth ≤ m
steps_first [] m h l = absurd (omega arith)
steps_first (x ∷ xs) m h l = (step m x xs h).high

steps_next : (xs : List Row) (m j : ℕ) → steps m xs ≡ true → suc j < length xs → (get_or xs (suc j) blank).depth ≤ suc (get_or xs j blank).depth
steps_next [] m j h l = absurd (omega arith)
steps_next (x ∷ xs) m zero h l = omega (arith, steps_first xs (reach x) (step m x xs h).next (omega arith), reach-most x)
steps_next (x ∷ xs) m (suc j) h l = steps_next xs (reach x) j (step m x xs h).next (omega arith)

formed-step : (xs : List Row) (n : ℕ) → formed xs ≡ true → suc n < length xs → (get_or xs (suc n) blank).depth ≤ suc (get_or xs n blank).depth
formed-step [] n h l = absurd (omega arith)
formed-step (x ∷ xs) zero h l = omega (arith, steps_first xs (reach x) (form x xs h).next (omega arith), reach-most x)
formed-step (x ∷ xs) (suc n) h l = steps_next xs (reach x) n (form x xs h).next (omega arith)

pub formed-next : (xs : List Row) (n : ℕ) → formed xs ≡ true → n + 1 < length xs → (get_or xs (n + 1) blank).depth ≤ suc (get_or xs n blank).depth
formed-next xs n h l = rw add-one (formed-step xs n h (omega arith))

-- a run of records at depth d or deeper that ends at depth d
pub among-run : (xs : List Row) (d n j k : ℕ) → k + j ≡ n → n < length xs → ((i : ℕ) → k ≤ i → i ≤ n → d ≤ (get_or xs i blank).depth) → (get_or xs n blank).depth ≡ d → among (parse k d (drop k xs)) n ≡ true
among-run xs d n zero k e l f z =
    let kn : k ≡ n = omega arith in
    rw (head-here xs k d (omega arith) (ap (λ i. (get_or xs i blank).depth) kn ∙ z)) (or_left (eqb k n) _ (eq-eqb k n kn))
among-run xs d n (suc j) k e l f z = go (cases_order (get_or xs k blank).depth d) (among-run xs d n j (k + 1) (omega arith) l (λ i a b. f i (omega arith) b) z)
  where
    go : ((get_or xs k blank).depth ≡ d) ⊎ (((get_or xs k blank).depth < d) ⊎ (d < (get_or xs k blank).depth)) → among (parse (k + 1) d (drop (k + 1) xs)) n ≡ true → among (parse k d (drop k xs)) n ≡ true
    go (inl x) g = rw (head-here xs k d (omega arith) x) (or_right (eqb k n) _ g)
    go (inr (inl x)) g = absurd (let y = f k (omega arith) (omega arith) in omega arith)
    go (inr (inr x)) g = rw (head-skip xs k d (omega arith) x) g

-- the parent of a record: the last one before it that is less deep
pub parent-at : (xs : List Row) (ok : formed xs ≡ true) (n q : ℕ) → n < length xs → q < n → (get_or xs q blank).depth < (get_or xs n blank).depth
    → ((i : ℕ) → q + 1 ≤ i → i ≤ n → (get_or xs n blank).depth ≤ (get_or xs i blank).depth) → parent_in None (parse 0 0 xs) n ≡ Some q
parent-at xs ok n q l less lower f =
    let first = f (q + 1) (omega arith) (omega arith) in
    let one : (get_or xs n blank).depth ≡ suc (get_or xs q blank).depth = omega (arith, formed-next xs q ok (omega arith)) in
    let run = among-run xs (suc (get_or xs q blank).depth) n (n - (q + 1)) (q + 1) (omega arith) l (λ i a b. let y = f i a b in omega arith) one in
    parent-child None (parse 0 0 xs) n q (parse-unique xs 0 0) (parse-has xs q ok (omega arith)) (rw (node_at_lem xs ok q (omega arith)) run)

pub parent-root : (xs : List Row) (n : ℕ) → formed xs ≡ true → n ≡ 0 → parent_in None (parse 0 0 xs) n ≡ None
parent-root [] n h e = absurd (both_ways false refl h)
parent-root (x ∷ xs) n h e = ap (λ t. parent_in None t n) (parse-at 0 0 x xs (form x xs h).root) ∙ cond-true (eqb 0 n) _ _ (eq-eqb 0 n (sym e))
