-- The tree of rows keeps the law of a page.
use Rattle.std.proofs.Common.{◌≡◌, ℕ, suc, ◌+◌, ◌-◌, ◌<◌, ◌≤◌, Bool, true, false, cond, ◌||◌, eqb, ltb, leb, ◌⊎◌, List, [], ◌∷◌, length, is_some, sym, refl, ap, ◌∙◌, subst, inl, inr, arith}
use Rattle.std.proofs.lemmas.Bool.{eqb-true, lt-ltb, le-ltb, leb-true, both_ways, and_parts, cases_order, cond-true, cond-false}
use Rattle.page.specs.declared.kind.NodeKind.{NodeKind}
use Rattle.page.specs.declared.kind.NodeKind.TheVariants.{Document, Doctype, Text, Comment, Element}
use Rattle.page.specs.Forest.{none, head_of, rest_of, texts, levels}
use Rattle.page.specs.Kinds.{is_element, is_document, if_text}
use Rattle.page.specs.Kept.{Below, Plain, Inner, WellFormed, Kept}
use Rattle.table.specs.Rows.{Row, parse, is_parent, reach, empty, bare, steps, total, formed, RowsFormed}
use Rattle.table.proofs.Parse.{parse-at, parse-skip, parse-end, parse-unique, Step, step}

-- nothing stands beside the root
pub parse-alone : (xs : List Row) (m i : ℕ) → steps m xs ≡ true → parse i 0 xs ≡ none
parse-alone [] m i h = refl
parse-alone (x ∷ xs) m i h = let st = step m x xs h in let l = st.low in parse-skip i 0 x xs (omega arith) ∙ parse-alone xs (reach x) (suc i) st.next

-- the laws of a page
pub parse-below : (xs : List Row) (i d b : ℕ) → i + length xs ≤ b → Below b (parse i d xs)
parse-below [] i d b l = tt
parse-below (x ∷ xs) i d b l = go (cases_order x.depth d) (parse-below xs (suc i) (suc d) b (omega arith)) (parse-below xs (suc i) d b (omega arith))
  where
    go : (x.depth ≡ d) ⊎ ((x.depth < d) ⊎ (d < x.depth)) → Below b (parse (suc i) (suc d) xs) → Below b (parse (suc i) d xs) → Below b (parse i d (x ∷ xs))
    go (inl e) f g = rw (parse-at i d x xs e) (omega arith, f, g)
    go (inr (inl e)) f g = rw (parse-end i d x xs e) tt
    go (inr (inr e)) f g = rw (parse-skip i d x xs e) g

pub parse-levels : (xs : List Row) (m i d : ℕ) → steps m xs ≡ true → levels (parse i d xs) ≤ 63 - d
parse-levels [] m i d h = omega arith
parse-levels (x ∷ xs) m i d h = go (cases_order x.depth d) (parse-levels xs (reach x) (suc i) (suc d) st.next) (parse-levels xs (reach x) (suc i) d st.next)
  where
    st : Step m x xs
    st = step m x xs h

    go : (x.depth ≡ d) ⊎ ((x.depth < d) ⊎ (d < x.depth)) → levels (parse (suc i) (suc d) xs) ≤ 63 - suc d → levels (parse (suc i) d xs) ≤ 63 - d → levels (parse i d (x ∷ xs)) ≤ 63 - d
    go (inl e) f g = rw (parse-at i d x xs e) (let v = st.flat in omega arith)
    go (inr (inl e)) f g = rw (parse-end i d x xs e) (omega arith)
    go (inr (inr e)) f g = rw (parse-skip i d x xs e) g

-- a row that is neither a document nor an element has no children
no-parent : (k : NodeKind) → is_document k ≡ false → is_element k ≡ false → is_parent k ≡ false
no-parent Document d e = absurd (both_ways true d refl)
no-parent Doctype d e = refl
no-parent Text d e = refl
no-parent Comment d e = refl
no-parent Element d e = absurd (both_ways true e refl)

childless : (x : Row) (xs : List Row) (i : ℕ) → steps (reach x) xs ≡ true → is_parent x.kind ≡ false → parse i (suc x.depth) xs ≡ none
childless x [] i h e = refl
childless x (y ∷ xs) i h e =
    let st = step (reach x) y xs h in
    let top : y.depth ≤ x.depth = rw (cond-false (is_parent x.kind) (suc x.depth) x.depth e) at st.high in
    parse-end i (suc x.depth) y xs (omega arith)

pub parse-inner : (xs : List Row) (m i d : ℕ) → steps m xs ≡ true → Inner (parse i d xs)
parse-inner [] m i d h = tt
parse-inner (x ∷ xs) m i d h = go (cases_order x.depth d) (parse-inner xs (reach x) (suc i) (suc d) st.next) (parse-inner xs (reach x) (suc i) d st.next)
  where
    st : Step m x xs
    st = step m x xs h

    go : (x.depth ≡ d) ⊎ ((x.depth < d) ⊎ (d < x.depth)) → Inner (parse (suc i) (suc d) xs) → Inner (parse (suc i) d xs) → Inner (parse i d (x ∷ xs))
    go (inl e) f g = rw (parse-at i d x xs e) (st.inner, (λ z. ap (λ k. parse (suc i) (suc k) xs) (sym e) ∙ childless x xs (suc i) st.next (no-parent x.kind st.inner z)), f, g)
    go (inr (inl e)) f g = rw (parse-end i d x xs e) tt
    go (inr (inr e)) f g = rw (parse-skip i d x xs e) g

attrless : (x : Row) → bare x ≡ true → is_element x.kind ≡ false → x.attrs ≡ []
attrless x h e = go x.attrs (subst (λ b. (b || empty x.attrs) ≡ true) e h)
  where
    go : (l : List (List ℕ × List ℕ)) → empty l ≡ true → l ≡ []
    go [] z = refl
    go (y ∷ l) z = absurd (both_ways false refl z)

pub parse_plain : (xs : List Row) (m i d : ℕ) → steps m xs ≡ true → Plain (parse i d xs)
parse_plain [] m i d h = tt
parse_plain (x ∷ xs) m i d h = go (cases_order x.depth d) (parse_plain xs (reach x) (suc i) (suc d) st.next) (parse_plain xs (reach x) (suc i) d st.next)
  where
    st : Step m x xs
    st = step m x xs h

    go : (x.depth ≡ d) ⊎ ((x.depth < d) ⊎ (d < x.depth)) → Plain (parse (suc i) (suc d) xs) → Plain (parse (suc i) d xs) → Plain (parse i d (x ∷ xs))
    go (inl e) f g = rw (parse-at i d x xs e) ((λ z. attrless x st.plain z), f, g)
    go (inr (inl e)) f g = rw (parse-end i d x xs e) tt
    go (inr (inr e)) f g = rw (parse-skip i d x xs e) g

pub parse-formed : (xs : List Row) (i d : ℕ) → RowsFormed xs → WellFormed (parse i d xs)
parse-formed [] i d h = tt
parse-formed (x ∷ xs) i d h = go (cases_order x.depth d) (parse-formed xs (suc i) (suc d) h.2) (parse-formed xs (suc i) d h.2)
  where
    go : (x.depth ≡ d) ⊎ ((x.depth < d) ⊎ (d < x.depth)) → WellFormed (parse (suc i) (suc d) xs) → WellFormed (parse (suc i) d xs) → WellFormed (parse i d (x ∷ xs))
    go (inl e) f g = rw (parse-at i d x xs e) (h.0, h.1, f, g)
    go (inr (inl e)) f g = rw (parse-end i d x xs e) tt
    go (inr (inr e)) f g = rw (parse-skip i d x xs e) g

-- the text of the records up to one above d, and of those from the first at d on
over : ℕ → List Row → ℕ
over d [] = 0
over d (x ∷ xs) = cond (ltb x.depth d) 0 (if_text x.kind (length x.content) + over d xs)

over-in : (d : ℕ) (x : Row) (xs : List Row) → d ≤ x.depth → over d (x ∷ xs) ≡ if_text x.kind (length x.content) + over d xs
unfolding over
over-in d x xs l = cond-false (ltb x.depth d) _ _ (le-ltb x.depth d l)

over-out : (d : ℕ) (x : Row) (xs : List Row) → x.depth < d → over d (x ∷ xs) ≡ 0
unfolding over
over-out d x xs l = cond-true (ltb x.depth d) _ _ (lt-ltb x.depth d l)

over-total : (xs : List Row) (d : ℕ) → over d xs ≤ total xs
unfolding over
over-total [] d = omega arith
over-total (x ∷ xs) d = go (ltb x.depth d) (over-total xs d)
  where
    go : (b : Bool) → over d xs ≤ total xs → cond b 0 (if_text x.kind (length x.content) + over d xs) ≤ if_text x.kind (length x.content) + total xs
    go true f = omega arith
    go false f = omega arith

-- the text of a parse, with what is left for a deeper one
parse-texts : (xs : List Row) (i d : ℕ) → over (suc d) xs + texts (parse i d xs) ≤ over d xs
unfolding over
parse-texts [] i d = omega arith
parse-texts (x ∷ xs) i d = go (cases_order x.depth d) (parse-texts xs (suc i) (suc d)) (parse-texts xs (suc i) d)
  where
    go : (x.depth ≡ d) ⊎ ((x.depth < d) ⊎ (d < x.depth))
        → over (suc (suc d)) xs + texts (parse (suc i) (suc d) xs) ≤ over (suc d) xs → over (suc d) xs + texts (parse (suc i) d xs) ≤ over d xs
        → over (suc d) (x ∷ xs) + texts (parse i d (x ∷ xs)) ≤ over d (x ∷ xs)
    go (inl e) f g = rw (parse-at i d x xs e) (omega (arith, over-out (suc d) x xs (omega arith), over-in d x xs (omega arith)))
    go (inr (inl e)) f g = rw (parse-end i d x xs e) (omega (arith, over-out (suc d) x xs (omega arith)))
    go (inr (inr e)) f g = rw (parse-skip i d x xs e) (omega (arith, over-in (suc d) x xs (omega arith), over-in d x xs (omega arith)))

pub parse-short : (xs : List Row) (i d : ℕ) → texts (parse i d xs) ≤ total xs
parse-short xs i d = omega (arith, parse-texts xs i d, over-total xs d)

-- a table as it should be
pub record Formed (x : Row) (xs : List Row) : Type 0 where
  pub root : x.depth ≡ 0
  pub plain : bare x ≡ true
  pub few : suc (length xs) ≤ 4096
  pub short : total (x ∷ xs) ≤ 131072
  pub document : is_document x.kind ≡ true
  pub next : steps (reach x) xs ≡ true

pub form : (x : Row) (xs : List Row) → formed (x ∷ xs) ≡ true → Formed x xs
form x xs h =
    let a = and_parts _ _ h in
    let b = and_parts (eqb x.depth 0) _ a.0 in
    let k = and_parts (is_document x.kind) _ b.1 in
    let c = and_parts (bare x) _ k.1 in
    let d = and_parts (leb (suc (length xs)) 4096) _ c.1 in
    record { root = eqb-true _ _ b.0; document = k.0; plain = c.0; few = leb-true _ _ d.0; short = leb-true _ _ d.1; next = a.1 }

pub kept : (xs : List Row) → formed xs ≡ true → RowsFormed xs → Kept (length xs) (parse 0 0 xs)
kept [] h w = absurd (both_ways false refl h)
kept (x ∷ xs) h w =
    let f = form x xs h in
    let is = parse-at 0 0 x xs f.root in
    record {
      some = ap (λ t. is_some (head_of t)) is;
      alone = ap rest_of is ∙ parse-alone xs (reach x) 1 f.next;
      unique = parse-unique (x ∷ xs) 0 0;
      below = parse-below (x ∷ xs) 0 0 (length (x ∷ xs)) (omega arith);
      few = omega (arith, f.few);
      flat = rw is (omega (arith, parse-levels xs (reach x) 1 1 f.next, parse-levels xs (reach x) 1 0 f.next));
      short = omega (arith, parse-short (x ∷ xs) 0 0, f.short);
      formed = parse-formed (x ∷ xs) 0 0 w;
      plain = rw is ((λ z. attrless x f.plain z), parse_plain xs (reach x) 1 1 f.next, parse_plain xs (reach x) 1 0 f.next);
      inner = rw is (parse-inner xs (reach x) 1 1 f.next);
    }
