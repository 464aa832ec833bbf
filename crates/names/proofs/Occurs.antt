-- A word that occurs in a value, place by place, and as a relation.
use Rattle.std.proofs.Common.{◌≡◌, ℕ, zero, suc, ◌+◌, ◌-◌, ◌<◌, ◌≤◌, Bool, true, false, ◌&&◌, ◌||◌, eqb, ◌⊎◌, List, [], ◌∷◌, ◌++◌, map, length, get_or, drop, Decides, Some, None, Option, sym, refl, ap, ◌∙◌, inl, inr, arith, Bor}
use Rattle.std.specs.List.{ContainsAt as Has}
use Rattle.std.specs.List.{slice_get, range_with_len, zip, list_any, list_all}
use Rattle.std.specs.declared.ops.RangeInclusive.{RangeInclusive}
use Rattle.std.specs.Range.{range_inclusive_left, range_inclusive_len, range_inclusive_steps}
use Rattle.std.proofs.Math.Bool.{or-false}
use Rattle.std.proofs.lemmas.Iterator.{YieldsList}
use Rattle.std.proofs.lemmas.Iterator.Consumers.{YieldsList-from_shown}
use Rattle.std.proofs.lemmas.List.{drop_more, drop_all}
use Rattle.std.proofs.lemmas.Option.{slice_get-get_or}
use Rattle.std.proofs.lemmas.Bool.{cases_lt, eq-eqb, ne_eqb, eqb-true, and_parts, and_from, and_left, both_ways, or_left, or_right, or_cases}
use Rattle.names.specs.Words.{begins, some_begins, has_word, SomeWord}

pub begins-short : (w v : List ℕ) → length v < length w → begins w v ≡ false
begins-short [] v h = absurd (omega arith)
begins-short (c ∷ cs) [] h = refl
begins-short (c ∷ cs) (b ∷ bs) h = false_right (eqb c b) (begins cs bs) (begins-short cs bs (omega arith))
  where
    false_right : (x y : Bool) → y ≡ false → (x && y) ≡ false
    false_right true y e = e
    false_right false y e = refl

-- whether the byte at a place is b
abbrev pub is_at : List ℕ → ℕ × ℕ → Bool
is_at v p = elim (slice_get v p.0) [ None ↦ false | Some x ↦ eqb p.1 x ]

-- a comparison by places, from the place at of the value, which has n bytes from there on
pub begins-zip : (w v : List ℕ) (at n : ℕ) → length v - at ≡ n → length w ≤ n → list_all (is_at v) (zip (range_with_len at n) w) ≡ begins w (drop at v)
begins-zip [] v at zero e h = refl
begins-zip [] v at (suc n) e h = refl
begins-zip (c ∷ w) v at zero e h = absurd (omega arith)
begins-zip (c ∷ w) v at (suc n) e h =
    let inside : at < length v = omega arith in
    let here : is_at v (at, c) ≡ eqb c (get_or v at 0) = ap (λ o. elim o [ None ↦ false | Some x ↦ eqb c x ]) (slice_get-get_or v at 0 inside) in
    (λ i. here i && begins-zip w v (at + 1) n (omega arith) (omega arith) i) ∙ ap (begins (c ∷ w)) (sym (drop_more v at 0 inside))

-- where a word begins a value at a place, it is empty or its first byte stands there
pub stands-first : (w v : List ℕ) (at : ℕ) (r : Bool) → (0 < length w → slice_get v at ≡ Some (get_or w 0 0) → r ≡ true) → (length w ≡ 0 → r ≡ true) → (r && begins w (drop at v)) ≡ begins w (drop at v)
stands-first [] v at r f g = ap (λ b. b && true) (g refl)
stands-first (c ∷ w) v at true f g = refl
stands-first (c ∷ w) v at false f g = go (cases_lt at (length v))
  where
    go : (at < length v) ⊎ (length v ≤ at) → false ≡ begins (c ∷ w) (drop at v)
    go (inl l) =
        let e = slice_get-get_or v at 0 l in
        sym (ap (begins (c ∷ w)) (drop_more v at 0 l) ∙ and_left _ _ (ne_eqb c (get_or v at 0) (λ k. both_ways false refl (f (omega arith) (e ∙ ap Some (sym k))))))
    go (inr l) = sym (ap (begins (c ∷ w)) (drop_all at v l))

-- where no byte stands, only a word without bytes does
pub begins-gone : (w v : List ℕ) (at : ℕ) (r : Bool) → slice_get v at ≡ None → (length w ≡ 0 → r ≡ true) → ((length w ≡ 0 → ⊥) → r ≡ false) → r ≡ begins w (drop at v)
begins-gone w v at r e f g = go (cases_lt at (length v))
  where
    gone : (w : List ℕ) → (length w ≡ 0 → r ≡ true) → ((length w ≡ 0 → ⊥) → r ≡ false) → r ≡ begins w []
    gone [] f g = f refl
    gone (c ∷ w) f g = g (λ z. omega arith)

    go : (at < length v) ⊎ (length v ≤ at) → r ≡ begins w (drop at v)
    go (inl l) = absurd (let k = sym (slice_get-get_or v at 0 l) ∙ e in let z : ◌≡◌ {A = ℕ} 0 1 = cc in omega arith)
    go (inr l) = gone w f g ∙ sym (ap (begins w) (drop_all at v l))

-- a search of the words
pub some-any : (ws : List (Bor (List ℕ))) (v : List ℕ) → list_any (λ w. begins w.now v) ws ≡ some_begins (map (λ x. x.now) ws) v
some-any [] v = refl
some-any (w ∷ ws) v = ap (λ b. begins w.now v || b) (some-any ws v)

-- a search of the places from at on, n of them and the end
pub has-any : (ws : List (List ℕ)) (v : List ℕ) (at n : ℕ) → at + n ≡ length v → list_any (λ k. some_begins ws (drop k v)) (range_with_len at (suc n)) ≡ has_word ws (drop at v)
has-any ws v at zero e =
    let end : drop at v ≡ [] = drop_all at v (omega arith) in
    or-false (some_begins ws (drop at v)) ∙ (ap (some_begins ws) end ∙ sym (ap (has_word ws) end))
has-any ws v at (suc n) e =
    let inside : at < length v = omega arith in
    ap (λ b. some_begins ws (drop at v) || b) (has-any ws v (at + 1) n (omega arith))
    ∙ (ap (λ l. some_begins ws l || has_word ws (drop (at + 1) v)) (drop_more v at 0 inside) ∙ sym (ap (has_word ws) (drop_more v at 0 inside)))

-- the numbers of an inclusive range
counted : (a n b m x : ℕ) → n ≡ suc m → x ≡ a → (0 < m → b ≡ a + 1) → range_with_len a n ≡ x ∷ range_with_len b m
counted a n b zero x e f g = λ i. range_with_len (sym f i) (e i)
counted a n b (suc m) x e f g = (λ i. range_with_len (sym f i) (e i)) ∙ ap (λ c. x ∷ range_with_len c (suc m)) (ap (λ y. y + 1) f ∙ sym (g (omega arith)))

abbrev pub left : RangeInclusive ℕ → ℕ
left s = range_inclusive_left (λ a b. b - a) s

abbrev pub inclusive_steps : RangeInclusive ℕ → Option ℕ → RangeInclusive ℕ → Type 0
inclusive_steps = range_inclusive_steps (λ a b. b - a) (λ a b. b ≡ a + 1)

pub YieldsList-from_inclusive : (s : RangeInclusive ℕ) → YieldsList inclusive_steps (λ x. x) s (range_with_len s.start (left s))
YieldsList-from_inclusive = YieldsList-from_shown inclusive_steps (λ x. x) (λ s. range_with_len s.start (left s))
    (λ s t p. ap (λ n. length (range_with_len s.start n)) p.1.0)
    (λ s x t p. counted s.start (left s) t.start (left t) x (omega (arith, p.1.1)) p.1.0 (λ h. p.1.2 (open_yet t.start t.end t.exhausted h)))
  where
    open_yet : (a b : ℕ) (e : Bool) → 0 < range_inclusive_len (λ a b. b - a) a b e → e ≡ false
    open_yet a b true h = absurd (omega arith)
    open_yet a b false h = refl

pub from-zero : (s : RangeInclusive ℕ) (n : ℕ) → s.start ≡ 0 → s.end ≡ n → s.exhausted ≡ false → range_with_len s.start (left s) ≡ range_with_len 0 (suc n)
from-zero s n a b e =
    let long : n - 0 + 1 - (0 - n) ≡ suc n = omega arith in
    (λ i. range_with_len (a i) (range_inclusive_len (λ a b. b - a) (a i) (b i) (e i))) ∙ ap (range_with_len 0) long

-- what the tests say
begins-true : (w v : List ℕ) → begins w v ≡ true → v ≡ w ++ drop (length w) v
begins-true [] v h = refl
begins-true (c ∷ cs) [] h = absurd (both_ways false refl h)
begins-true (c ∷ cs) (b ∷ bs) h = let p = and_parts (eqb c b) (begins cs bs) h in λ i. sym (eqb-true c b p.0) i ∷ begins-true cs bs p.1 i

begins-from : (w rest : List ℕ) → begins w (w ++ rest) ≡ true
begins-from [] rest = refl
begins-from (c ∷ cs) rest = and_from (eqb c c) _ (eq-eqb c c refl) (begins-from cs rest)

abbrev Front : List (List ℕ) → List ℕ → Type 0
Front ws v = (w : List ℕ) × Has ws w × ((rest : List ℕ) × (v ≡ w ++ rest))

some-true : (ws : List (List ℕ)) (v : List ℕ) → some_begins ws v ≡ true → Front ws v
some-true [] v h = absurd (both_ways false refl h)
some-true (w ∷ ws) v h = go (or_cases (begins w v) (some_begins ws v) h) (some-true ws v)
  where
    go : (begins w v ≡ true) ⊎ (some_begins ws v ≡ true) → (some_begins ws v ≡ true → Front ws v) → Front (w ∷ ws) v
    go (inl e) x = (w, (0, omega arith, λ d. refl), (drop (length w) v, begins-true w v e))
    go (inr e) x = let r = x e in (r.0, (suc r.1.0, omega (arith, r.1.1), r.1.2), r.2)

some-from : (ws : List (List ℕ)) (v w : List ℕ) (k : ℕ) → k < length ws → ((d : List ℕ) → get_or ws k d ≡ w) → begins w v ≡ true → some_begins ws v ≡ true
some-from [] v w k l a h = absurd (omega arith)
some-from (x ∷ ws) v w zero l a h = or_left (begins x v) _ (ap (λ y. begins y v) (a []) ∙ h)
some-from (x ∷ ws) v w (suc k) l a h = or_right (begins x v) _ (some-from ws v w k (omega arith) a h)

has_first : (ws : List (List ℕ)) (v : List ℕ) → some_begins ws v ≡ true → has_word ws v ≡ true
has_first ws [] h = h
has_first ws (b ∷ bs) h = or_left _ _ h

has-true : (ws : List (List ℕ)) (v : List ℕ) → has_word ws v ≡ true → SomeWord ws v
has-true ws [] h = let r = some-true ws [] h in (r.0, r.1, ([], r.2))
has-true ws (b ∷ bs) h = go (or_cases (some_begins ws (b ∷ bs)) (has_word ws bs) h) (has-true ws bs)
  where
    go : (some_begins ws (b ∷ bs) ≡ true) ⊎ (has_word ws bs ≡ true) → (has_word ws bs ≡ true → SomeWord ws bs) → SomeWord ws (b ∷ bs)
    go (inl e) x = let r = some-true ws (b ∷ bs) e in (r.0, r.1, ([], r.2))
    go (inr e) x = let r = x e in (r.0, r.1, (b ∷ r.2.0, (r.2.1.0, ap (λ l. b ∷ l) r.2.1.1)))

has-from : (ws : List (List ℕ)) (w front rest : List ℕ) → Has ws w → has_word ws (front ++ (w ++ rest)) ≡ true
has-from ws w [] rest h = has_first ws (w ++ rest) (some-from ws (w ++ rest) w h.0 h.1 h.2 (begins-from w rest))
has-from ws w (b ∷ front) rest h = or_right _ _ (has-from ws w front rest h)

-- the test decides the relation
pub decides-word : (ws : List (List ℕ)) (v : List ℕ) (r : Bool) → r ≡ has_word ws v → Decides r (SomeWord ws v)
decides-word ws v r e = ((λ h. has-true ws v (sym e ∙ h)), (λ s. e ∙ (ap (has_word ws) s.2.1.1 ∙ has-from ws s.0 s.2.0 s.2.1.0 s.1)))
