-- A tree and its rows are one.
use Rattle.std.proofs.Common.{◌≡◌, ℕ, suc, ◌+◌, ◌<◌, ◌≤◌, true, false, cond, ltb, ◌⊎◌, List, [], ◌∷◌, ◌++◌, length, sym, refl, ap, ◌∙◌, subst, inl, inr, append_assoc, append-nil, arith, length-append}
use Rattle.std.proofs.lemmas.Bool.{both_ways, cases_order, cond-true, cond-false, lt-ltb, le-ltb}
use Rattle.page.specs.Forest.{Forest, none, node, size}
use Rattle.table.specs.Rows.{Row, flatten, parse, reach, steps, formed, Numbered}
use Rattle.table.proofs.Parse.{parse-at, parse-skip, parse-end, step, Step, reach-most}
use Rattle.table.proofs.Lawful.{form}

pub size-flatten : (t : Forest) (d : ℕ) → length (flatten d t) ≡ size t
size-flatten none d = refl
size-flatten (node m k c a kids rest) d = ap suc (length-append (flatten (suc d) kids) (flatten d rest) ∙ (λ i. size-flatten kids (suc d) i + size-flatten rest d i))

-- rows that are deeper are passed over
skip : (t : Forest) (i d e : ℕ) (ys : List Row) → d < e → parse i d (flatten e t ++ ys) ≡ parse (i + size t) d ys
skip none i d e ys l = let z : i ≡ i + 0 = omega arith in ap (λ n. parse n d ys) z
skip (node m k c a kids rest) i d e ys l =
    let x : Row = record { kind = k; depth = e; content = c; attrs = a } in
    let sum : suc i + size kids + size rest ≡ i + suc (size kids + size rest) = omega arith in
    parse-skip i d x ((flatten (suc e) kids ++ flatten e rest) ++ ys) l
    ∙ (ap (parse (suc i) d) (append_assoc (flatten (suc e) kids) (flatten e rest) ys)
    ∙ (skip kids (suc i) d (suc e) (flatten e rest ++ ys) (omega arith)
    ∙ (skip rest (suc i + size kids) d e ys l ∙ ap (λ n. parse n d ys) sum)))

-- the first row, if any, is above d
abbrev Above : ℕ → List Row → Type 0
Above d [] = Unit {0}
Above d (y ∷ ys) = y.depth < d

above_more : (t : Forest) (d : ℕ) (ys : List Row) → Above d ys → Above (suc d) (flatten d t ++ ys)
above_more none d [] h = tt
above_more none d (y ∷ ys) h = omega arith
above_more (node m k c a kids rest) d ys h = omega arith

above-none : (i d : ℕ) (ys : List Row) → Above d ys → parse i d ys ≡ none
above-none i d [] h = refl
above-none i d (y ∷ ys) h = parse-end i d y ys h

read_back : (t : Forest) (i d : ℕ) (ys : List Row) → Numbered i t → Above d ys → parse i d (flatten d t ++ ys) ≡ t
read_back none i d ys h up = above-none i d ys up
read_back (node m k c a kids rest) i d ys h up =
    let x : Row = record { kind = k; depth = d; content = c; attrs = a } in
    let more = flatten (suc d) kids ++ flatten d rest in
    let under : parse (suc i) (suc d) (more ++ ys) ≡ kids =
    ap (parse (suc i) (suc d)) (append_assoc (flatten (suc d) kids) (flatten d rest) ys)
    ∙ read_back kids (suc i) (suc d) (flatten d rest ++ ys) h.1 (above_more rest d ys up) in
    let beside : parse (suc i) d (more ++ ys) ≡ rest =
    ap (parse (suc i) d) (append_assoc (flatten (suc d) kids) (flatten d rest) ys)
    ∙ (skip kids (suc i) d (suc d) (flatten d rest ++ ys) (omega arith)
    ∙ read_back rest (suc i + size kids) d ys (subst (λ n. Numbered n rest) (omega arith) h.2) up) in
    parse-at i d x (more ++ ys) refl ∙ (λ j. node (sym h.0 j) k c a (under j) (beside j))

pub tree_of-rows : (t : Forest) → Numbered 0 t → parse 0 0 (flatten 0 t) ≡ t
tree_of-rows t h = ap (parse 0 0) (sym (append-nil (flatten 0 t))) ∙ read_back t 0 0 [] h tt

-- the rows at depth d or deeper in front, and what comes after them
span : ℕ → List Row → List Row
span d [] = []
span d (x ∷ xs) = cond (ltb x.depth d) [] (x ∷ span d xs)

beyond : ℕ → List Row → List Row
beyond d [] = []
beyond d (x ∷ xs) = cond (ltb x.depth d) (x ∷ xs) (beyond d xs)

span-in : (d : ℕ) (x : Row) (xs : List Row) → d ≤ x.depth → span d (x ∷ xs) ≡ x ∷ span d xs
unfolding span
span-in d x xs l = cond-false (ltb x.depth d) _ _ (le-ltb x.depth d l)

span-out : (d : ℕ) (x : Row) (xs : List Row) → x.depth < d → span d (x ∷ xs) ≡ []
unfolding span
span-out d x xs l = cond-true (ltb x.depth d) _ _ (lt-ltb x.depth d l)

beyond-in : (d : ℕ) (x : Row) (xs : List Row) → d ≤ x.depth → beyond d (x ∷ xs) ≡ beyond d xs
unfolding beyond
beyond-in d x xs l = cond-false (ltb x.depth d) _ _ (le-ltb x.depth d l)

beyond-out : (d : ℕ) (x : Row) (xs : List Row) → x.depth < d → beyond d (x ∷ xs) ≡ x ∷ xs
unfolding beyond
beyond-out d x xs l = cond-true (ltb x.depth d) _ _ (lt-ltb x.depth d l)

two-spans : (xs : List Row) (d : ℕ) → span (suc d) xs ++ span d (beyond (suc d) xs) ≡ span d xs
unfolding span beyond
two-spans [] d = refl
two-spans (x ∷ xs) d = go (cases_order x.depth d) (two-spans xs d)
  where
    go : (x.depth ≡ d) ⊎ ((x.depth < d) ⊎ (d < x.depth)) → span (suc d) xs ++ span d (beyond (suc d) xs) ≡ span d xs → span (suc d) (x ∷ xs) ++ span d (beyond (suc d) (x ∷ xs)) ≡ span d (x ∷ xs)
    go (inl e) r = rw (span-out (suc d) x xs (omega arith), beyond-out (suc d) x xs (omega arith))
    go (inr (inl e)) r = rw (span-out (suc d) x xs (omega arith), beyond-out (suc d) x xs (omega arith))
    go (inr (inr e)) r = rw (span-in (suc d) x xs (omega arith), beyond-in (suc d) x xs (omega arith), span-in d x xs (omega arith)) (ap (λ l. x ∷ l) r)

-- after a step the next row is at most one deeper, so none is passed over
no_deeper : (m d : ℕ) (xs : List Row) → steps m xs ≡ true → m ≤ d → (beyond (suc d) xs ≡ xs) × (span (suc d) xs ≡ [])
unfolding span beyond
no_deeper m d [] h l = (refl, refl)
no_deeper m d (x ∷ xs) h l = let s = (step m x xs h).high in (beyond-out (suc d) x xs (omega arith), span-out (suc d) x xs (omega arith))

write-back : (xs : List Row) (m i d : ℕ) → steps m xs ≡ true → flatten d (parse i d xs) ≡ span d (beyond (suc d) xs)
unfolding span beyond
write-back [] m i d h = refl
write-back (x ∷ xs) m i d h = go (cases_order x.depth d) (write-back xs (reach x) (suc i) (suc d) st.next) (write-back xs (reach x) (suc i) d st.next)
  where
    st : Step m x xs
    st = step m x xs h

    go : (x.depth ≡ d) ⊎ ((x.depth < d) ⊎ (d < x.depth)) → flatten (suc d) (parse (suc i) (suc d) xs) ≡ span (suc d) (beyond (suc (suc d)) xs) → flatten d (parse (suc i) d xs) ≡ span d (beyond (suc d) xs)
        → flatten d (parse i d (x ∷ xs)) ≡ span d (beyond (suc d) (x ∷ xs))
    go (inl e) f g =
        let near = no_deeper (reach x) (suc d) xs st.next (omega (arith, reach-most x)) in
        let same : flatten (suc d) (parse (suc i) (suc d) xs) ++ flatten d (parse (suc i) d xs) ≡ span d xs =
        (λ j. (f ∙ ap (span (suc d)) near.0) j ++ g j) ∙ two-spans xs d in
        ap (flatten d) (parse-at i d x xs e)
        ∙ ((λ j. record { kind = x.kind; depth = sym e j; content = x.content; attrs = x.attrs } ∷ same j)
        ∙ sym (ap (span d) (beyond-out (suc d) x xs (omega arith)) ∙ span-in d x xs (omega arith)))
    go (inr (inl e)) f g = ap (flatten d) (parse-end i d x xs e) ∙ sym (ap (span d) (beyond-out (suc d) x xs (omega arith)) ∙ span-out d x xs e)
    go (inr (inr e)) f g = ap (flatten d) (parse-skip i d x xs e) ∙ (g ∙ ap (span d) (sym (beyond-in (suc d) x xs (omega arith))))

numbers : (xs : List Row) (m i d : ℕ) → steps m xs ≡ true → Numbered (i + length (span (suc d) xs)) (parse i d xs)
unfolding span
numbers [] m i d h = tt
numbers (x ∷ xs) m i d h = go (cases_order x.depth d) (numbers xs (reach x) (suc i) (suc d) st.next) (numbers xs (reach x) (suc i) d st.next)
  where
    st : Step m x xs
    st = step m x xs h

    go : (x.depth ≡ d) ⊎ ((x.depth < d) ⊎ (d < x.depth)) → Numbered (suc i + length (span (suc (suc d)) xs)) (parse (suc i) (suc d) xs) → Numbered (suc i + length (span (suc d) xs)) (parse (suc i) d xs)
        → Numbered (i + length (span (suc d) (x ∷ xs))) (parse i d (x ∷ xs))
    go (inl e) f g =
        let near = no_deeper (reach x) (suc d) xs st.next (omega (arith, reach-most x)) in
        let first : suc i + length (span (suc (suc d)) xs) ≡ suc i = ap (λ l. suc i + length l) near.1 ∙ omega arith in
        let many : size (parse (suc i) (suc d) xs) ≡ length (span (suc d) xs) =
        sym (size-flatten (parse (suc i) (suc d) xs) (suc d)) ∙ ap length (write-back xs (reach x) (suc i) (suc d) st.next ∙ ap (span (suc d)) near.0) in
        let here : i + length (span (suc d) (x ∷ xs)) ≡ i = ap (λ l. i + length l) (span-out (suc d) x xs (omega arith)) ∙ omega arith in
        let rest : suc i + length (span (suc d) xs) ≡ suc (i + size (parse (suc i) (suc d) xs)) = omega (arith, many) in
        rw (parse-at i d x xs e, here) (refl, subst (λ n. Numbered n (parse (suc i) (suc d) xs)) first f, subst (λ n. Numbered n (parse (suc i) d xs)) rest g)
    go (inr (inl e)) f g = rw (parse-end i d x xs e) tt
    go (inr (inr e)) f g =
        let more : suc i + length (span (suc d) xs) ≡ i + length (span (suc d) (x ∷ xs)) = omega (arith, ap length (span-in (suc d) x xs (omega arith))) in
        rw (parse-skip i d x xs e) (subst (λ n. Numbered n (parse (suc i) d xs)) more g)

span-all : (xs : List Row) → span 0 xs ≡ xs
unfolding span
span-all [] = refl
span-all (x ∷ xs) = span-in 0 x xs (omega arith) ∙ ap (λ l. x ∷ l) (span-all xs)

-- a row that is formed is a step from depth 0
pub rows_of-tree : (xs : List Row) → formed xs ≡ true → (flatten 0 (parse 0 0 xs) ≡ xs) × Numbered 0 (parse 0 0 xs)
rows_of-tree [] h = absurd (both_ways false refl h)
rows_of-tree (x ∷ xs) h =
    let f = form x xs h in
    let e = f.root in
    let near = no_deeper (reach x) 1 xs f.next (omega (arith, reach-most x)) in
    let kids : flatten 1 (parse 1 1 xs) ≡ span 1 xs = write-back xs (reach x) 1 1 f.next ∙ ap (span 1) near.0 in
    let rest : flatten 0 (parse 1 0 xs) ≡ span 0 (beyond 1 xs) = write-back xs (reach x) 1 0 f.next in
    let all : flatten 1 (parse 1 1 xs) ++ flatten 0 (parse 1 0 xs) ≡ xs = (λ j. kids j ++ rest j) ∙ (two-spans xs 0 ∙ span-all xs) in
    let many : size (parse 1 1 xs) ≡ length (span 1 xs) = sym (size-flatten (parse 1 1 xs) 1) ∙ ap length kids in
    let first : 1 + length (span 2 xs) ≡ 1 = ap (λ l. 1 + length l) near.1 in
    let after : 1 + length (span 1 xs) ≡ suc (0 + size (parse 1 1 xs)) = omega (arith, many) in (
      ap (flatten 0) (parse-at 0 0 x xs e) ∙ (λ j. record { kind = x.kind; depth = sym e j; content = x.content; attrs = x.attrs } ∷ all j),
      rw (parse-at 0 0 x xs e) (refl, subst (λ n. Numbered n (parse 1 1 xs)) first (numbers xs (reach x) 1 1 f.next), subst (λ n. Numbered n (parse 1 0 xs)) after (numbers xs (reach x) 1 0 f.next)),
    )
