-- The forest of rows: its three ways, its numbers, and where each is found.
use Rattle.std.proofs.Common.{◌≡◌, ℕ, zero, suc, ◌+◌, ◌<◌, ◌≤◌, Bool, true, false, cond, not, ◌||◌, eqb, ltb, leb, ◌⊎◌, List, [], ◌∷◌, length, get_or, drop, Some, sym, refl, ap, ◌∙◌, inl, inr, arith}
use Rattle.std.proofs.lemmas.Bool.{eqb-true, eq-eqb, ne_eqb, lt-ltb, le-ltb, leb-true, both_ways, or_left, or_right, or_cases, and_parts, cases_eq, not-true, cases_order, cond-true, cond-false}
use Rattle.page.specs.Forest.{none, node, find, has, head_of}
use Rattle.page.specs.Kinds.{is_document}
use Rattle.page.specs.Kept.{Unique}
use Rattle.page.proofs.Find.{find-under, find-beside, find_first}
use Rattle.table.specs.Rows.{Row, parse, is_parent, reach, bare, steps}

-- the three ways of a parse
module _ (i d : ℕ) (x : Row) (xs : List Row) where
  pub parse-at : x.depth ≡ d → parse i d (x ∷ xs) ≡ node i x.kind x.content x.attrs (parse (suc i) (suc d) xs) (parse (suc i) d xs)
  parse-at e = cond-true (eqb x.depth d) _ _ (eq-eqb x.depth d e)

  pub parse-skip : d < x.depth → parse i d (x ∷ xs) ≡ parse (suc i) d xs
  parse-skip h = cond-false (eqb x.depth d) _ _ (ne_eqb x.depth d (λ e. omega arith)) ∙ cond-true (ltb d x.depth) _ _ (lt-ltb d x.depth h)

  pub parse-end : x.depth < d → parse i d (x ∷ xs) ≡ none
  parse-end h = cond-false (eqb x.depth d) _ _ (ne_eqb x.depth d (λ e. omega arith)) ∙ cond-false (ltb d x.depth) _ _ (le-ltb d x.depth (omega arith))

-- a number of a parse stands first, under the first, or after it
data In (i d : ℕ) (xs : List Row) (n : ℕ) : Type 0 where
  first : i ≡ n → In i d xs n
  under : has (parse (suc i) (suc d) xs) n ≡ true → In i d xs n
  after : has (parse (suc i) d xs) n ≡ true → In i d xs n

in-node : (i d : ℕ) (x : Row) (xs : List Row) (n : ℕ) → x.depth ≡ d → has (parse i d (x ∷ xs)) n ≡ true → In i d xs n
in-node i d x xs n e h = top (or_cases (eqb i n) _ (rw (parse-at i d x xs e) at h))
  where
    side : (has (parse (suc i) (suc d) xs) n ≡ true) ⊎ (has (parse (suc i) d xs) n ≡ true) → In i d xs n
    side (inl z) = under z
    side (inr z) = after z

    top : (eqb i n ≡ true) ⊎ ((has (parse (suc i) (suc d) xs) n || has (parse (suc i) d xs) n) ≡ true) → In i d xs n
    top (inl z) = first (eqb-true i n z)
    top (inr z) = side (or_cases _ _ z)

none_has : (n : ℕ) → has none n ≡ true → ⊥
none_has n h = both_ways false refl h

pub parse-range : (xs : List Row) (i d n : ℕ) → has (parse i d xs) n ≡ true → (i ≤ n) × (n < i + length xs)
parse-range [] i d n h = absurd (none_has n h)
parse-range (x ∷ xs) i d n h = go (cases_order x.depth d) (parse-range xs (suc i) (suc d) n) (parse-range xs (suc i) d n)
  where
    node-way : (has (parse (suc i) (suc d) xs) n ≡ true → (suc i ≤ n) × (n < suc i + length xs)) → (has (parse (suc i) d xs) n ≡ true → (suc i ≤ n) × (n < suc i + length xs)) → In i d xs n → (i ≤ n) × (n < i + suc (length xs))
    node-way f g (first e) = (omega arith, omega arith)
    node-way f g (under z) = let r = f z in (omega arith, omega arith)
    node-way f g (after z) = let r = g z in (omega arith, omega arith)

    go : (x.depth ≡ d) ⊎ ((x.depth < d) ⊎ (d < x.depth)) → (has (parse (suc i) (suc d) xs) n ≡ true → (suc i ≤ n) × (n < suc i + length xs)) → (has (parse (suc i) d xs) n ≡ true → (suc i ≤ n) × (n < suc i + length xs)) → (i ≤ n) × (n < i + suc (length xs))
    go (inl e) f g = node-way f g (in-node i d x xs n e h)
    go (inr (inl e)) f g = absurd (none_has n (rw (parse-end i d x xs e) at h))
    go (inr (inr e)) f g = node-way f g (after (rw (parse-skip i d x xs e) at h))

off-below : (xs : List Row) (i d n : ℕ) → n < i → has (parse i d xs) n ≡ false
off-below xs i d n l = go (has (parse i d xs) n) (parse-range xs i d n)
  where
    go : (b : Bool) → (b ≡ true → (i ≤ n) × (n < i + length xs)) → b ≡ false
    go true f = absurd (let r = f refl in omega arith)
    go false f = refl

-- what stands at one depth does not stand at a lesser one
pub parse-apart : (xs : List Row) (i d e n : ℕ) → d < e → has (parse i e xs) n ≡ true → has (parse i d xs) n ≡ false
parse-apart [] i d e n l h = refl
parse-apart (x ∷ xs) i d e n l h =
    go (cases_order x.depth e) (parse-apart xs (suc i) d (suc e) n (omega arith)) (parse-apart xs (suc i) d e n l)
  where
    node-way : (has (parse (suc i) (suc e) xs) n ≡ true → has (parse (suc i) d xs) n ≡ false) → (has (parse (suc i) e xs) n ≡ true → has (parse (suc i) d xs) n ≡ false) → In i e xs n → has (parse (suc i) d xs) n ≡ false
    node-way f g (first z) = off-below xs (suc i) d n (omega arith)
    node-way f g (under z) = f z
    node-way f g (after z) = g z

    go : (x.depth ≡ e) ⊎ ((x.depth < e) ⊎ (e < x.depth)) → (has (parse (suc i) (suc e) xs) n ≡ true → has (parse (suc i) d xs) n ≡ false) → (has (parse (suc i) e xs) n ≡ true → has (parse (suc i) d xs) n ≡ false) → has (parse i d (x ∷ xs)) n ≡ false
    go (inl z) f g = rw (parse-skip i d x xs (omega arith)) (node-way f g (in-node i e x xs n z h))
    go (inr (inl z)) f g = absurd (none_has n (rw (parse-end i e x xs z) at h))
    go (inr (inr z)) f g = rw (parse-skip i d x xs (omega arith)) (g (rw (parse-skip i e x xs z) at h))

pub parse-unique : (xs : List Row) (i d : ℕ) → Unique (parse i d xs)
parse-unique [] i d = tt
parse-unique (x ∷ xs) i d = go (cases_order x.depth d) (parse-unique xs (suc i) (suc d)) (parse-unique xs (suc i) d)
  where
    go : (x.depth ≡ d) ⊎ ((x.depth < d) ⊎ (d < x.depth)) → Unique (parse (suc i) (suc d) xs) → Unique (parse (suc i) d xs) → Unique (parse i d (x ∷ xs))
    go (inl e) u v = rw (parse-at i d x xs e) (off-below xs (suc i) (suc d) i (omega arith), off-below xs (suc i) d i (omega arith), (λ n h. parse-apart xs (suc i) d (suc d) n (omega arith) h), u, v)
    go (inr (inl e)) u v = rw (parse-end i d x xs e) tt
    go (inr (inr e)) u v = rw (parse-skip i d x xs e) v

-- a number that stands in a parse is found at its place
pub find-parse : (xs : List Row) (i d j n : ℕ) (r : Row) → n ≡ i + j → has (parse i d xs) n ≡ true → find (parse i d xs) n ≡ parse n (get_or xs j r).depth (drop j xs)
find-parse [] i d j n r e h = absurd (none_has n h)
find-parse (x ∷ xs) i d zero n r e h = go (cases_order x.depth d)
  where
    ni : i ≡ n
    ni = omega arith

    go : (x.depth ≡ d) ⊎ ((x.depth < d) ⊎ (d < x.depth)) → find (parse i d (x ∷ xs)) n ≡ parse n x.depth (x ∷ xs)
    go (inl z) = (find_first (parse i d (x ∷ xs)) n (ap head_of (parse-at i d x xs z) ∙ ap Some ni)).0 ∙ (ap (λ k. parse k d (x ∷ xs)) ni ∙ ap (λ k. parse n k (x ∷ xs)) (sym z))
    go (inr (inl z)) = absurd (none_has n (rw (parse-end i d x xs z) at h))
    go (inr (inr z)) = absurd (let r = parse-range xs (suc i) d n (rw (parse-skip i d x xs z) at h) in omega arith)
find-parse (x ∷ xs) i d (suc j) n r e h =
    go (cases_order x.depth d) (find-parse xs (suc i) (suc d) j n r (omega arith)) (find-parse xs (suc i) d j n r (omega arith))
  where
    node-way : x.depth ≡ d → (has (parse (suc i) (suc d) xs) n ≡ true → find (parse (suc i) (suc d) xs) n ≡ parse n (get_or xs j r).depth (drop j xs))
        → (has (parse (suc i) d xs) n ≡ true → find (parse (suc i) d xs) n ≡ parse n (get_or xs j r).depth (drop j xs))
        → In i d xs n → find (parse i d (x ∷ xs)) n ≡ parse n (get_or xs j r).depth (drop j xs)
    node-way z f g (first y) = absurd (omega arith)
    node-way z f g (under y) = rw (parse-at i d x xs z) (find-under i x.kind x.content x.attrs (parse (suc i) (suc d) xs) (parse (suc i) d xs) n (rw (parse-at i d x xs z) at (parse-unique (x ∷ xs) i d)) y ∙ f y)
    node-way z f g (after y) = rw (parse-at i d x xs z) (find-beside i x.kind x.content x.attrs (parse (suc i) (suc d) xs) (parse (suc i) d xs) n (rw (parse-at i d x xs z) at (parse-unique (x ∷ xs) i d)) y ∙ g y)

    go : (x.depth ≡ d) ⊎ ((x.depth < d) ⊎ (d < x.depth)) → (has (parse (suc i) (suc d) xs) n ≡ true → find (parse (suc i) (suc d) xs) n ≡ parse n (get_or xs j r).depth (drop j xs))
        → (has (parse (suc i) d xs) n ≡ true → find (parse (suc i) d xs) n ≡ parse n (get_or xs j r).depth (drop j xs))
        → find (parse i d (x ∷ xs)) n ≡ parse n (get_or xs j r).depth (drop j xs)
    go (inl z) f g = node-way z f g (in-node i d x xs n z h)
    go (inr (inl z)) f g = absurd (none_has n (rw (parse-end i d x xs z) at h))
    go (inr (inr z)) f g = rw (parse-skip i d x xs z) (g (rw (parse-skip i d x xs z) at h))

-- what a step asks
pub record Step (m : ℕ) (x : Row) (xs : List Row) : Type 0 where
  pub low : 1 ≤ x.depth
  pub high : x.depth ≤ m
  pub flat : x.depth ≤ 62
  pub inner : is_document x.kind ≡ false
  pub plain : bare x ≡ true
  pub next : steps (reach x) xs ≡ true

pub step : (m : ℕ) (x : Row) (xs : List Row) → steps m (x ∷ xs) ≡ true → Step m x xs
step m x xs h =
    let a = and_parts _ _ h in
    let b = and_parts (leb 1 x.depth) _ a.0 in
    let c = and_parts (leb x.depth m) _ b.1 in
    let d = and_parts (leb x.depth 62) _ c.1 in
    let e = and_parts (not (is_document x.kind)) _ d.1 in
    record {
      low = leb-true _ _ b.0;
      high = leb-true _ _ c.0;
      flat = leb-true _ _ d.0;
      inner = not-true _ e.0;
      plain = e.1;
      next = a.1;
    }

pub reach-most : (x : Row) → reach x ≤ suc x.depth
reach-most x = go (is_parent x.kind)
  where
    go : (b : Bool) → cond b (suc x.depth) x.depth ≤ suc x.depth
    go true = omega arith
    go false = omega arith

-- each number stands at some depth
pub parse-all : (xs : List Row) (m i n : ℕ) → steps m xs ≡ true → i ≤ n → n < i + length xs → (e : ℕ) × (1 ≤ e) × (e ≤ m) × (has (parse i e xs) n ≡ true)
parse-all [] m i n h l k = absurd (omega arith)
parse-all (x ∷ xs) m i n h l k = go (cases_eq i n) (parse-all xs (reach x) (suc i) n st.next)
  where
    st : Step m x xs
    st = step m x xs h

    deeper : (e : ℕ) → 1 ≤ e → e ≤ reach x → has (parse (suc i) e xs) n ≡ true → (e ≡ x.depth) ⊎ ((e < x.depth) ⊎ (x.depth < e)) → (e : ℕ) × (1 ≤ e) × (e ≤ m) × (has (parse i e (x ∷ xs)) n ≡ true)
    deeper e a b y (inl z) = (x.depth, st.low, st.high, rw (parse-at i x.depth x xs refl) (or_right (eqb i n) _ (or_right (has (parse (suc i) (suc x.depth) xs) n) _ (rw z at y))))
    deeper e a b y (inr (inl z)) = (e, a, (let v = st.high in omega arith), rw (parse-skip i e x xs z) y)
    deeper e a b y (inr (inr z)) =
        let same : e ≡ suc x.depth = omega (arith, reach-most x) in
        (x.depth, st.low, st.high, rw (parse-at i x.depth x xs refl) (or_right (eqb i n) _ (or_left (has (parse (suc i) (suc x.depth) xs) n) _ (rw same at y))))

    go : (i ≡ n) ⊎ (i ≡ n → ⊥) → (suc i ≤ n → n < suc i + length xs → (e : ℕ) × (1 ≤ e) × (e ≤ reach x) × (has (parse (suc i) e xs) n ≡ true)) → (e : ℕ) × (1 ≤ e) × (e ≤ m) × (has (parse i e (x ∷ xs)) n ≡ true)
    go (inl z) f = (x.depth, st.low, st.high, rw (parse-at i x.depth x xs refl) (or_left (eqb i n) _ (eq-eqb i n z)))
    go (inr z) f = let r = f (omega arith) (omega arith) in deeper r.0 r.1 r.2 r.3 (cases_order r.0 x.depth)
