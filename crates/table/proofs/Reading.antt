-- What the tree of accepted records has at each node: its parts and its relatives.
use Rattle.std.proofs.Common.{◌≡◌, ℕ, zero, suc, ◌+◌, ◌-◌, ◌<◌, ◌≤◌, true, false, ltb, ◌⊎◌, List, length, get_or, drop, is_some, Some, None, sym, refl, ap, ◌∙◌, inl, inr, arith}
use Rattle.std.specs.List.{slice_get}
use Rattle.std.proofs.lemmas.Bool.{cases_order, cases_lt, both_ways, lt-ltb, le-ltb}
use Rattle.page.specs.declared.kind.Part.{Part}
use Rattle.page.specs.declared.kind.Part.TheVariants.{Name, Value}
use Rattle.page.specs.Forest.{Forest, none, node, find, has, head_of, kids_of, rest_of, parent_in, part_of, part_in, name_in, value_in}
use Rattle.page.proofs.Find.{find_absent}
use Rattle.page.proofs.Parent.{parent-absent}
use Rattle.table.specs.Rows.{Row, parse, formed, blank, Numbered}
use Rattle.table.specs.Table.{Table, node_at, part, kind_with, attr_of, attrs_from, row_at, rows_from, rows_of, tree_of}
use Rattle.table.specs.Links.{depth_at}
use Rattle.table.proofs.Places.{node_at_lem, not_there, parse-has, head-end, head-here, head-skip, head-stop, formed-next, parent-at, parent-root}
use Rattle.table.proofs.Accepted.{Accepted, table-formed, table_kept, length-rows_of}
use Rattle.table.proofs.Round.{rows_of-tree}

get_d_rows : (t : Table) (k i j : ℕ) → j < k → get_or (rows_from t i k) j blank ≡ row_at t (i + j)
get_d_rows t zero i j l = absurd (omega arith)
get_d_rows t (suc k) i zero l = let z : i ≡ i + 0 = omega arith in ap (row_at t) z
get_d_rows t (suc k) i (suc j) l = let z : suc i + j ≡ i + suc j = omega arith in get_d_rows t k (suc i) j (omega arith) ∙ ap (row_at t) z

pub nth-attr : (t : Table) (k i j : ℕ) → j < k → slice_get (attrs_from t i k) j ≡ Some (attr_of t (i + j))
nth-attr t zero i j l = absurd (omega arith)
nth-attr t (suc k) i zero l = let z : i ≡ i + 0 = omega arith in ap (λ m. Some (attr_of t m)) z
nth-attr t (suc k) i (suc j) l = let z : suc i + j ≡ i + suc j = omega arith in nth-attr t k (suc i) j (omega arith) ∙ ap (λ m. Some (attr_of t m)) z

-- rows that are deeper are passed over
skip-run : (xs : List Row) (d e j k : ℕ) → k + j ≡ e → e ≤ length xs → ((i : ℕ) → k ≤ i → i < e → d < (get_or xs i blank).depth) → parse k d (drop k xs) ≡ parse e d (drop e xs)
skip-run xs d e zero k z l h = let same : k ≡ e = omega arith in ap (λ n. parse n d (drop n xs)) same
skip-run xs d e (suc j) k z l h = head-skip xs k d (omega arith) (h k (omega arith) (omega arith)) ∙ skip-run xs d e j (k + 1) (omega arith) l (λ i a b. h i (omega arith) b)

module _ (t : Table) (acc : Accepted t) where
  ok : formed (rows_of t) ≡ true
  ok = table-formed t acc

  long : length (rows_of t) ≡ length t.nodes
  long = length-rows_of t

  pub row-at : (i : ℕ) → i < length t.nodes → get_or (rows_of t) i blank ≡ row_at t i
  row-at i l = get_d_rows t (length t.nodes) 0 i (omega arith) ∙ (let z : 0 + i ≡ i = omega arith in ap (row_at t) z)

  deep : (i : ℕ) → i < length t.nodes → (get_or (rows_of t) i blank).depth ≡ depth_at t i
  deep i l = ap (λ x. x.depth) (row-at i l)

  pub found : (i : ℕ) → i < length t.nodes → find (tree_of t) i ≡ node i (kind_with (node_at t i).kind) (part t (node_at t i).start (node_at t i).len) (attrs_from t (node_at t i).first (node_at t i).attrs) (parse (i + 1) (suc (depth_at t i)) (drop (i + 1) (rows_of t))) (parse (i + 1) (depth_at t i) (drop (i + 1) (rows_of t)))
  found i l =
      node_at_lem (rows_of t) ok i (omega (arith, long))
      ∙ ap (λ (x : Row). node i x.kind x.content x.attrs (parse (i + 1) (suc x.depth) (drop (i + 1) (rows_of t))) (parse (i + 1) x.depth (drop (i + 1) (rows_of t)))) (row-at i l)

  pub there : (i : ℕ) → i < length t.nodes → has (tree_of t) i ≡ true
  there i l = parse-has (rows_of t) i ok (omega (arith, long))

  pub absent : (i : ℕ) → length t.nodes ≤ i → has (tree_of t) i ≡ false
  absent i l = not_there (rows_of t) ok i (omega (arith, long))

  -- a node's number is below the count
  pub inside : (i : ℕ) → has (tree_of t) i ≡ true → i < length t.nodes
  inside i h = go (cases_lt i (length t.nodes))
    where
      go : (i < length t.nodes) ⊎ (length t.nodes ≤ i) → i < length t.nodes
      go (inl l) = l
      go (inr l) = absurd (both_ways (has (tree_of t) i) (absent i l) h)

  pub has-test : (i n : ℕ) → n ≡ length t.nodes → ltb i n ≡ has (tree_of t) i
  has-test i n e = go (cases_lt i n)
    where
      go : (i < n) ⊎ (n ≤ i) → ltb i n ≡ has (tree_of t) i
      go (inl l) = lt-ltb i n l ∙ sym (there i (omega arith))
      go (inr l) = le-ltb i n l ∙ sym (absent i (omega arith))

  pub top : head_of (tree_of t) ≡ Some 0
  top = go (tree_of t) (table_kept t acc).some (rows_of-tree (rows_of t) ok).1
    where
      go : (f : Forest) → is_some (head_of f) ≡ true → Numbered 0 f → head_of f ≡ Some 0
      go none h n = absurd (both_ways false refl h)
      go (node m k c a kids rest) h n = ap Some n.0

  pub gone : (i : ℕ) → length t.nodes ≤ i → find (tree_of t) i ≡ none
  gone i l = find_absent (tree_of t) i (absent i l)

  pub parent-gone : (i : ℕ) → length t.nodes ≤ i → parent_in None (tree_of t) i ≡ None
  parent-gone i l = parent-absent None (tree_of t) i (absent i l)

  pub parent-first : (i : ℕ) → i ≡ 0 → parent_in None (tree_of t) i ≡ None
  parent-first i e = parent-root (rows_of t) i ok e

  pub parent-there : (i q : ℕ) → i < length t.nodes → q < i → depth_at t q < depth_at t i → ((j : ℕ) → q < j → j < i → depth_at t i ≤ depth_at t j) → parent_in None (tree_of t) i ≡ Some q
  parent-there i q l less lower h =
      parent-at (rows_of t) ok i q (omega (arith, long)) less (omega (arith, deep q (omega arith), deep i l))
      (λ j a b. go j a b (last j b))
    where
      last : (j : ℕ) → j ≤ i → (j ≡ i) ⊎ (j < i)
      last j b = sorted (cases_order j i)
        where
          sorted : (j ≡ i) ⊎ ((j < i) ⊎ (i < j)) → (j ≡ i) ⊎ (j < i)
          sorted (inl e) = inl e
          sorted (inr (inl e)) = inr e
          sorted (inr (inr e)) = absurd (omega arith)

      go : (j : ℕ) → q + 1 ≤ j → j ≤ i → (j ≡ i) ⊎ (j < i) → (get_or (rows_of t) i blank).depth ≤ (get_or (rows_of t) j blank).depth
      go j a b (inl e) = omega (arith, ap (λ m. (get_or (rows_of t) m blank).depth) e)
      go j a b (inr e) = omega (arith, deep i l, deep j (omega arith), h j (omega arith) e)

  pub child-there : (i : ℕ) → i + 1 < length t.nodes → depth_at t i < depth_at t (i + 1) → head_of (kids_of (find (tree_of t) i)) ≡ Some (i + 1)
  child-there i l d =
      let one = formed-next (rows_of t) i ok (omega (arith, long)) in
      ap (λ t. head_of (kids_of t)) (found i (omega arith))
      ∙ ap head_of (head-here (rows_of t) (i + 1) (suc (depth_at t i)) (omega (arith, long)) (omega (arith, one, deep i (omega arith), deep (i + 1) l)))

  pub child-none : (i : ℕ) → i + 1 < length t.nodes → depth_at t (i + 1) ≤ depth_at t i → head_of (kids_of (find (tree_of t) i)) ≡ None
  child-none i l d =
      ap (λ t. head_of (kids_of t)) (found i (omega arith))
      ∙ ap head_of (head-stop (rows_of t) (i + 1) (suc (depth_at t i)) (omega (arith, long)) (omega (arith, deep (i + 1) l)))

  pub child-last : (i : ℕ) → i < length t.nodes → length t.nodes ≤ i + 1 → head_of (kids_of (find (tree_of t) i)) ≡ None
  child-last i l d = ap (λ t. head_of (kids_of t)) (found i l) ∙ ap head_of (head-end (rows_of t) (i + 1) (suc (depth_at t i)) (omega (arith, long)))

  -- the row where what stands under i ends
  run : (i e : ℕ) → i < e → e ≤ length t.nodes → ((j : ℕ) → i < j → j < e → depth_at t i < depth_at t j) → rest_of (find (tree_of t) i) ≡ parse e (depth_at t i) (drop e (rows_of t))
  run i e l m h =
      ap rest_of (found i (omega arith))
      ∙ skip-run (rows_of t) (depth_at t i) e (e - (i + 1)) (i + 1) (omega arith) (omega (arith, long)) (λ j a b. omega (arith, deep j (omega arith), h j (omega arith) b))

  pub sibling-there : (i e : ℕ) → i < e → e < length t.nodes → ((j : ℕ) → i < j → j < e → depth_at t i < depth_at t j) → depth_at t e ≡ depth_at t i → head_of (rest_of (find (tree_of t) i)) ≡ Some e
  sibling-there i e l m h d = ap head_of (run i e l (omega arith) h ∙ head-here (rows_of t) e (depth_at t i) (omega (arith, long)) (deep e m ∙ d))

  pub sibling-higher : (i e : ℕ) → i < e → e < length t.nodes → ((j : ℕ) → i < j → j < e → depth_at t i < depth_at t j) → depth_at t e < depth_at t i → head_of (rest_of (find (tree_of t) i)) ≡ None
  sibling-higher i e l m h d = ap head_of (run i e l (omega arith) h ∙ head-stop (rows_of t) e (depth_at t i) (omega (arith, long)) (omega (arith, deep e m)))

  pub sibling-none : (i : ℕ) → i < length t.nodes → ((j : ℕ) → i < j → j < length t.nodes → depth_at t i < depth_at t j) → head_of (rest_of (find (tree_of t) i)) ≡ None
  sibling-none i l h = ap head_of (run i (length t.nodes) l (omega arith) h ∙ head-end (rows_of t) (length t.nodes) (depth_at t i) (omega (arith, long)))

  module _ (i : ℕ) (l : i < length t.nodes) where
    pub part-there : (p : Part) → part_of (find (tree_of t) i) p ≡ part_in (part t (node_at t i).start (node_at t i).len) (attrs_from t (node_at t i).first (node_at t i).attrs) p
    part-there p = ap (λ t. part_of t p) (found i l)

    pub name-there : (j : ℕ) → j < (node_at t i).attrs → part_of (find (tree_of t) i) (Name j) ≡ Some (attr_of t ((node_at t i).first + j)).0
    name-there j h = part-there (Name j) ∙ ap name_in (nth-attr t (node_at t i).attrs (node_at t i).first j h)

    pub value_there : (j : ℕ) → j < (node_at t i).attrs → part_of (find (tree_of t) i) (Value j) ≡ Some (attr_of t ((node_at t i).first + j)).1
    value_there j h = part-there (Value j) ∙ ap value_in (nth-attr t (node_at t i).attrs (node_at t i).first j h)
