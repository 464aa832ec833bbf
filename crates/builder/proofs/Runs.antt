-- One event more: the rows that the events give.
use Rattle.std.proofs.Common.{◌≡◌, ℕ, suc, ◌-◌, Bool, true, false, ◌⊎◌, List, [], ◌∷◌, ◌++◌, sym, refl, ap, ◌∙◌, inl, inr}
use Rattle.std.specs.List.{fold}
use Rattle.std.proofs.lemmas.Bool.{cases_Bool}
use Rattle.std.proofs.lemmas.List.Sums.{fold-append}
use Rattle.page.specs.declared.kind.NodeKind.TheVariants.{Document, Doctype, Text, Comment, Element}
use Rattle.table.specs.Rows.{Row}
use Rattle.builder.specs.Events.{Event, element, attribute, text, comment, doctype, close, attrs_first, row, rows_at, event_rows}

-- the depth at which the next node stands
abbrev depth_step : ℕ → Event → ℕ
depth_step d (element c) = suc d
depth_step d (attribute n v) = d
depth_step d (text c) = d
depth_step d (comment c) = d
depth_step d (doctype c) = d
depth_step d close = d - 1

abbrev pub depth_after : ℕ → List Event → ℕ
depth_after d es = fold depth_step d es

-- whether an element was just given, and since then attributes only
abbrev fresh_step : Bool → Event → Bool
fresh_step b (element c) = true
fresh_step b (attribute n v) = b
fresh_step b (text c) = false
fresh_step b (comment c) = false
fresh_step b (doctype c) = false
fresh_step b close = false

abbrev pub ends_fresh : Bool → List Event → Bool
ends_fresh b es = fold fresh_step b es

pub depth-snoc : (d : ℕ) (es : List Event) (e : Event) → depth_after d (es ++ (e ∷ [])) ≡ depth_after (depth_after d es) (e ∷ [])
depth-snoc d es e = fold-append depth_step d es (e ∷ [])

pub fresh-snoc : (b : Bool) (es : List Event) (e : Event) → ends_fresh b (es ++ (e ∷ [])) ≡ ends_fresh (ends_fresh b es) (e ∷ [])
fresh-snoc b es e = fold-append fresh_step b es (e ∷ [])

-- an event that begins with no attribute adds none to the element before
first-append : (es fs : List Event) → attrs_first fs ≡ [] → attrs_first (es ++ fs) ≡ attrs_first es
first-append [] fs h = h
first-append (element c ∷ es) fs h = refl
first-append (attribute n v ∷ es) fs h = ap (λ l. (n, v) ∷ l) (first-append es fs h)
first-append (text c ∷ es) fs h = refl
first-append (comment c ∷ es) fs h = refl
first-append (doctype c ∷ es) fs h = refl
first-append (close ∷ es) fs h = refl

pub rows_append : (d : ℕ) (es fs : List Event) → attrs_first fs ≡ [] → rows_at d (es ++ fs) ≡ rows_at d es ++ rows_at (depth_after d es) fs
rows_append d [] fs h = refl
rows_append d (element c ∷ es) fs h = λ q. row Element d c (first-append es fs h q) ∷ rows_append (suc d) es fs h q
rows_append d (attribute n v ∷ es) fs h = rows_append d es fs h
rows_append d (text c ∷ es) fs h = ap (λ l. row Text d c [] ∷ l) (rows_append d es fs h)
rows_append d (comment c ∷ es) fs h = ap (λ l. row Comment d c [] ∷ l) (rows_append d es fs h)
rows_append d (doctype c ∷ es) fs h = ap (λ l. row Doctype d c [] ∷ l) (rows_append d es fs h)
rows_append d (close ∷ es) fs h = rows_append (d - 1) es fs h

-- the last row with one attribute more
abbrev pub more_attr : List Row → List ℕ × List ℕ → List Row
more_attr [] a = []
more_attr (x ∷ []) a = row x.kind x.depth x.content (x.attrs ++ (a ∷ [])) ∷ []
more_attr (x ∷ y ∷ ys) a = x ∷ more_attr (y ∷ ys) a

pub more-last : (xs : List Row) (z : Row) (a : List ℕ × List ℕ) → more_attr (xs ++ (z ∷ [])) a ≡ xs ++ (row z.kind z.depth z.content (z.attrs ++ (a ∷ [])) ∷ [])
more-last [] z a = refl
more-last (x ∷ []) z a = refl
more-last (x ∷ y ∷ ys) z a = ap (λ l. x ∷ l) (more-last (y ∷ ys) z a)

abbrev SomeRows : List Row → Type 0
SomeRows [] = ⊥
SomeRows (x ∷ xs) = Unit {0}

more-next : (x : Row) (xs : List Row) (a : List ℕ × List ℕ) → SomeRows xs → more_attr (x ∷ xs) a ≡ x ∷ more_attr xs a
more-next x [] a h = absurd h
more-next x (y ∷ ys) a h = refl

abbrev only_attrs : List Event → Bool
only_attrs [] = true
only_attrs (attribute n v ∷ es) = only_attrs es
only_attrs (element c ∷ es) = false
only_attrs (text c ∷ es) = false
only_attrs (comment c ∷ es) = false
only_attrs (doctype c ∷ es) = false
only_attrs (close ∷ es) = false

-- attributes alone give no rows, and all belong to the element before
only-rows : (d : ℕ) (es : List Event) → only_attrs es ≡ true → rows_at d es ≡ []
only-rows d [] h = refl
only-rows d (attribute n v ∷ es) h = only-rows d es h
only-rows d (element c ∷ es) h = cc
only-rows d (text c ∷ es) h = cc
only-rows d (comment c ∷ es) h = cc
only-rows d (doctype c ∷ es) h = cc
only-rows d (close ∷ es) h = cc

only-more : (es : List Event) (n v : List ℕ) → only_attrs es ≡ true → only_attrs (es ++ (attribute n v ∷ [])) ≡ true
only-more [] n v h = refl
only-more (attribute m w ∷ es) n v h = only-more es n v h
only-more (element c ∷ es) n v h = cc
only-more (text c ∷ es) n v h = cc
only-more (comment c ∷ es) n v h = cc
only-more (doctype c ∷ es) n v h = cc
only-more (close ∷ es) n v h = cc

only-first : (es : List Event) (n v : List ℕ) → only_attrs es ≡ true → attrs_first (es ++ (attribute n v ∷ [])) ≡ attrs_first es ++ ((n, v) ∷ [])
only-first [] n v h = refl
only-first (attribute m w ∷ es) n v h = ap (λ l. (m, w) ∷ l) (only-first es n v h)
only-first (element c ∷ es) n v h = cc
only-first (text c ∷ es) n v h = cc
only-first (comment c ∷ es) n v h = cc
only-first (doctype c ∷ es) n v h = cc
only-first (close ∷ es) n v h = cc

-- behind another event, what stood before does not matter
mixed-first : (es fs : List Event) → only_attrs es ≡ false → attrs_first (es ++ fs) ≡ attrs_first es
mixed-first [] fs h = cc
mixed-first (attribute m w ∷ es) fs h = ap (λ l. (m, w) ∷ l) (mixed-first es fs h)
mixed-first (element c ∷ es) fs h = refl
mixed-first (text c ∷ es) fs h = refl
mixed-first (comment c ∷ es) fs h = refl
mixed-first (doctype c ∷ es) fs h = refl
mixed-first (close ∷ es) fs h = refl

mixed-fresh : (b : Bool) (es : List Event) → only_attrs es ≡ false → ends_fresh b es ≡ ends_fresh false es
mixed-fresh b [] h = cc
mixed-fresh b (attribute m w ∷ es) h = mixed-fresh b es h
mixed-fresh b (element c ∷ es) h = refl
mixed-fresh b (text c ∷ es) h = refl
mixed-fresh b (comment c ∷ es) h = refl
mixed-fresh b (doctype c ∷ es) h = refl
mixed-fresh b (close ∷ es) h = refl

-- an element that was just given is a row
fresh-rows : (d : ℕ) (es : List Event) → ends_fresh false es ≡ true → SomeRows (rows_at d es)
fresh-rows d [] h = cc
fresh-rows d (element c ∷ es) h = tt
fresh-rows d (attribute n v ∷ es) h = fresh-rows d es h
fresh-rows d (text c ∷ es) h = tt
fresh-rows d (comment c ∷ es) h = tt
fresh-rows d (doctype c ∷ es) h = tt
fresh-rows d (close ∷ es) h = fresh-rows (d - 1) es h

-- an attribute goes to the last row
rows-attr : (d : ℕ) (es : List Event) (n v : List ℕ) → ends_fresh false es ≡ true → rows_at d (es ++ (attribute n v ∷ [])) ≡ more_attr (rows_at d es) (n, v)
rows-attr d [] n v h = cc
rows-attr d (element c ∷ es) n v h = go (cases_Bool (only_attrs es)) (rows-attr (suc d) es n v)
  where
    go : (only_attrs es ≡ true) ⊎ (only_attrs es ≡ false) → (ends_fresh false es ≡ true → rows_at (suc d) (es ++ (attribute n v ∷ [])) ≡ more_attr (rows_at (suc d) es) (n, v))
        → rows_at d (element c ∷ (es ++ (attribute n v ∷ []))) ≡ more_attr (rows_at d (element c ∷ es)) (n, v)
    go (inl e) r =
        (λ q. row Element d c (only-first es n v e q) ∷ only-rows (suc d) (es ++ (attribute n v ∷ [])) (only-more es n v e) q)
        ∙ sym (ap (λ l. more_attr (row Element d c (attrs_first es) ∷ l) (n, v)) (only-rows (suc d) es e))
    go (inr e) r =
        let f = sym (mixed-fresh true es e) ∙ h in
        (λ q. row Element d c (mixed-first es (attribute n v ∷ []) e q) ∷ r f q) ∙ sym (more-next (row Element d c (attrs_first es)) (rows_at (suc d) es) (n, v) (fresh-rows (suc d) es f))
rows-attr d (attribute m w ∷ es) n v h = rows-attr d es n v h
rows-attr d (text c ∷ es) n v h = ap (λ l. row Text d c [] ∷ l) (rows-attr d es n v h) ∙ sym (more-next (row Text d c []) (rows_at d es) (n, v) (fresh-rows d es h))
rows-attr d (comment c ∷ es) n v h = ap (λ l. row Comment d c [] ∷ l) (rows-attr d es n v h) ∙ sym (more-next (row Comment d c []) (rows_at d es) (n, v) (fresh-rows d es h))
rows-attr d (doctype c ∷ es) n v h = ap (λ l. row Doctype d c [] ∷ l) (rows-attr d es n v h) ∙ sym (more-next (row Doctype d c []) (rows_at d es) (n, v) (fresh-rows d es h))
rows-attr d (close ∷ es) n v h = rows-attr (d - 1) es n v h

pub event-attr : (es : List Event) (n v : List ℕ) → ends_fresh false es ≡ true → event_rows (es ++ (attribute n v ∷ [])) ≡ more_attr (event_rows es) (n, v)
event-attr es n v h = ap (λ l. row Document 0 [] [] ∷ l) (rows-attr 1 es n v h) ∙ sym (more-next (row Document 0 [] []) (rows_at 1 es) (n, v) (fresh-rows 1 es h))
