-- What the bytes of a character are by the table's rows, and what decoding makes of them.
use Rattle.std.proofs.Common.{◌≡◌, ℕ, zero, suc, ◌+◌, ◌-◌, ◌*◌, ◌%◌, ◌<◌, ◌≤◌, Bool, true, false, List, [], ◌∷◌, length, get_or, take, drop, Some, None, Option, sym, refl, ap, ◌∙◌, inl, inr, arith}
use Rattle.std.proofs.lemmas.List.{drop-take}
use Rattle.std.proofs.lemmas.Bool.{and_parts, cases_Bool}
use Rattle.std.proofs.lemmas.Bool.Decides.{nat_tests}
use Rattle.std.specs.Bool.{then_some}
use Rattle.std.specs.List.{list_all}
use Rattle.utf8.specs.Table.{within, tail, table, begin, counted}
use Rattle.utf8.specs.Decode.{fits, decoded, width_of, some_width, character}

-- the bytes of a character of two, three and four
abbrev pub Two : ℕ → ℕ → Type 0
Two b c = (194 ≤ b) × (b < 224) × (128 ≤ c) × (c < 192)

abbrev pub Three : ℕ → ℕ → ℕ → Type 0
Three b c d = (224 ≤ b) × (b < 240) × (128 ≤ c) × (c < 192) × (b ≡ 224 → 160 ≤ c) × (b ≡ 237 → c < 160) × (128 ≤ d) × (d < 192)

abbrev pub Four : ℕ → ℕ → ℕ → ℕ → Type 0
Four b c d e = (240 ≤ b) × (b < 245) × (128 ≤ c) × (c < 192) × (b ≡ 240 → 144 ≤ c) × (b ≡ 244 → c < 144) × (128 ≤ d) × (d < 192) × (128 ≤ e) × (e < 192)

-- their code points
abbrev pub point-two : ℕ → ℕ → ℕ
point-two b c = b % 32 * 64 + c % 64

abbrev pub point-three : ℕ → ℕ → ℕ → ℕ
point-three b c d = (b % 16 * 64 + c % 64) * 64 + d % 64

abbrev pub point-four : ℕ → ℕ → ℕ → ℕ → ℕ
point-four b c d e = ((b % 8 * 64 + c % 64) * 64 + d % 64) * 64 + e % 64

pub decoded-one : (b : ℕ) (t : List ℕ) → b < 128 → decoded (b ∷ t) ≡ Some (b, 1)
decoded-one b t h = grind (arith, nat_tests)

pub decoded-two : (b c : ℕ) (t : List ℕ) → Two b c → decoded (b ∷ c ∷ t) ≡ Some (point-two b c, 2)
decoded-two b c t h = grind (arith, nat_tests)

pub decoded-three : (b c d : ℕ) (t : List ℕ) → Three b c d → decoded (b ∷ c ∷ d ∷ t) ≡ Some (point-three b c d, 3)
decoded-three b c d t h = grind (arith, nat_tests)

pub decoded-four : (b c d e : ℕ) (t : List ℕ) → Four b c d e → decoded (b ∷ c ∷ d ∷ e ∷ t) ≡ Some (point-four b c d e, 4)
decoded-four b c d e t h = grind (arith, nat_tests)

-- what the width says of the bytes
pub most : (l : List ℕ) → width_of (decoded l) ≤ 4
most [] = omega arith
most (b ∷ t) = grind (arith, nat_tests)

pub one : (b : ℕ) (t : List ℕ) → width_of (decoded (b ∷ t)) ≡ 1 → b < 128
one b t h = grind (arith, nat_tests)

pub two : (b c : ℕ) (t : List ℕ) → width_of (decoded (b ∷ c ∷ t)) ≡ 2 → Two b c
two b c t h = (grind (arith, nat_tests), grind (arith, nat_tests), grind (arith, nat_tests), grind (arith, nat_tests))

pub three : (b c d : ℕ) (t : List ℕ) → width_of (decoded (b ∷ c ∷ d ∷ t)) ≡ 3 → Three b c d
three b c d t h =
    (grind (arith, nat_tests), grind (arith, nat_tests), grind (arith, nat_tests), grind (arith, nat_tests), (λ e. grind (arith, nat_tests)), (λ e. grind (arith, nat_tests)), grind (arith, nat_tests), grind (arith, nat_tests))

pub four : (b c d e : ℕ) (t : List ℕ) → width_of (decoded (b ∷ c ∷ d ∷ e ∷ t)) ≡ 4 → Four b c d e
four b c d e t h =
    (grind (arith, nat_tests), grind (arith, nat_tests), grind (arith, nat_tests), grind (arith, nat_tests), (λ z. grind (arith, nat_tests)), (λ z. grind (arith, nat_tests)), grind (arith, nat_tests), grind (arith, nat_tests), grind (arith, nat_tests), grind (arith, nat_tests))

-- a character lies inside the bytes
fits-inside : (rs : List (ℕ × ℕ)) (l : List ℕ) → fits rs l ≡ true → length rs ≤ length l
fits-inside [] l h = omega arith
fits-inside (r ∷ rs) [] h = let z : ◌≡◌ {A = ℕ} 0 1 = cc in absurd (omega arith)
fits-inside (r ∷ rs) (b ∷ l) h = let i = fits-inside rs l (and_parts (within r b) (fits rs l) h).1 in omega arith

pub inside : (l : List ℕ) → width_of (decoded l) ≤ length l
inside [] = omega arith
inside (b ∷ t) = row (begin table b)
  where
    row : (o : Option (List (ℕ × ℕ))) → width_of (character b t o) ≤ suc (length t)
    row None = omega arith
    row (Some rs) = elim (cases_Bool (fits rs t)) [ inl e ↦ let i = fits-inside rs t e in grind arith | inr e ↦ grind arith ]

-- no character is of no bytes
pub never : (l : List ℕ) (x : ℕ) → decoded l ≡ Some (x, 0) → ⊥
never [] x e = let z : ◌≡◌ {A = ℕ} 0 1 = cc in omega arith
never (b ∷ t) x e = row (begin table b) e
  where
    row : (o : Option (List (ℕ × ℕ))) → character b t o ≡ Some (x, 0) → ⊥
    row None e = let z : ◌≡◌ {A = ℕ} 0 1 = cc in omega arith
    row (Some rs) e = elim (cases_Bool (fits rs t)) [ inl v ↦ grind arith | inr v ↦ grind arith ]

pub nothing : (l : List ℕ) → width_of (decoded l) ≡ 0 → decoded l ≡ None
nothing l h = go (decoded l) refl h
  where
    go : (o : Option (ℕ × ℕ)) → decoded l ≡ o → width_of o ≡ 0 → decoded l ≡ None
    go None e h = e
    go (Some p) e h = absurd (never l p.0 (e ∙ ap (λ w. Some (p.0, w)) h))

-- the character by its width
pub at_one : (l : List ℕ) → 1 ≡ width_of (decoded l) → decoded l ≡ Some (get_or l 0 0, 1)
at_one [] h = absurd (omega arith)
at_one (b ∷ t) h = decoded-one b t (one b t (sym h))

pub at-two : (l : List ℕ) → 2 ≡ width_of (decoded l) → decoded l ≡ Some (point-two (get_or l 0 0) (get_or l 1 0), 2)
at-two [] h = absurd (omega arith)
at-two (b ∷ []) h = absurd (omega (arith, inside (b ∷ [])))
at-two (b ∷ c ∷ t) h = decoded-two b c t (two b c t (sym h))

pub at-three : (l : List ℕ) → 3 ≡ width_of (decoded l) → decoded l ≡ Some (point-three (get_or l 0 0) (get_or l 1 0) (get_or l 2 0), 3)
at-three [] h = absurd (omega arith)
at-three (b ∷ []) h = absurd (omega (arith, inside (b ∷ [])))
at-three (b ∷ c ∷ []) h = absurd (omega (arith, inside (b ∷ c ∷ [])))
at-three (b ∷ c ∷ d ∷ t) h = decoded-three b c d t (three b c d t (sym h))

pub at-four : (l : List ℕ) → 4 ≡ width_of (decoded l) → decoded l ≡ Some (point-four (get_or l 0 0) (get_or l 1 0) (get_or l 2 0) (get_or l 3 0), 4)
at-four [] h = absurd (omega arith)
at-four (b ∷ []) h = absurd (omega (arith, inside (b ∷ [])))
at-four (b ∷ c ∷ []) h = absurd (omega (arith, inside (b ∷ c ∷ [])))
at-four (b ∷ c ∷ d ∷ []) h = absurd (omega (arith, inside (b ∷ c ∷ d ∷ [])))
at-four (b ∷ c ∷ d ∷ e ∷ t) h = decoded-four b c d e t (four b c d e t (sym h))

-- what the tests of the bytes say of the width, where w is what the first two bytes say
abbrev pub Says : List ℕ → ℕ → Type 0
Says l w = (0 < length l) × (w ≡ counted (begin table (get_or l 0 0)) (get_or l 1 0))

pub short : (l : List ℕ) (w : ℕ) → Says l w → length l < w → 0 ≡ width_of (decoded l)
short [] w s h = absurd (omega arith)
short (b ∷ []) w s h = grind (arith, nat_tests)
short (b ∷ c ∷ []) w s h = grind (arith, nat_tests)
short (b ∷ c ∷ d ∷ []) w s h = grind (arith, nat_tests)
short (b ∷ c ∷ d ∷ e ∷ t) w s h = grind (arith, nat_tests)

-- no row has more than four bytes
counted_most : (b c : ℕ) → counted (begin table b) c ≤ 4
counted_most b c = grind (arith, nat_tests)

-- what stands behind the second byte decides
pub whole : (l : List ℕ) (w : ℕ) → Says l w → 2 ≤ w → w ≤ length l → list_all (within tail) (drop 2 (take w l)) ≡ true → w ≡ width_of (decoded l)
whole [] w s m k y = absurd (omega arith)
whole (b ∷ t) zero s m k y = absurd (omega arith)
whole (b ∷ t) (suc zero) s m k y = absurd (omega arith)
whole (b ∷ []) (suc (suc w)) s m k y = absurd (omega arith)
whole (b ∷ c ∷ t) (suc (suc zero)) s m k y = grind (arith, nat_tests)
whole (b ∷ c ∷ []) (suc (suc (suc w))) s m k y = absurd (omega arith)
whole (b ∷ c ∷ d ∷ t) (suc (suc (suc zero))) s m k y = grind (arith, nat_tests)
whole (b ∷ c ∷ d ∷ []) (suc (suc (suc (suc w)))) s m k y = absurd (omega arith)
whole (b ∷ c ∷ d ∷ e ∷ t) (suc (suc (suc (suc zero)))) s m k y = grind (arith, nat_tests)
whole (b ∷ c ∷ d ∷ e ∷ t) (suc (suc (suc (suc (suc w))))) s m k y = absurd (omega (arith, s.1, counted_most b c))

pub broken : (l : List ℕ) (w : ℕ) → Says l w → 2 ≤ w → w ≤ length l → list_all (within tail) (drop 2 (take w l)) ≡ false → 0 ≡ width_of (decoded l)
broken [] w s m k y = absurd (omega arith)
broken (b ∷ t) zero s m k y = absurd (omega arith)
broken (b ∷ t) (suc zero) s m k y = absurd (omega arith)
broken (b ∷ []) (suc (suc w)) s m k y = absurd (omega arith)
broken (b ∷ c ∷ t) (suc (suc zero)) s m k y = grind (arith, nat_tests)
broken (b ∷ c ∷ []) (suc (suc (suc w))) s m k y = absurd (omega arith)
broken (b ∷ c ∷ d ∷ t) (suc (suc (suc zero))) s m k y = grind (arith, nat_tests)
broken (b ∷ c ∷ d ∷ []) (suc (suc (suc (suc w)))) s m k y = absurd (omega arith)
broken (b ∷ c ∷ d ∷ e ∷ t) (suc (suc (suc (suc zero)))) s m k y = grind (arith, nat_tests)
broken (b ∷ c ∷ d ∷ e ∷ t) (suc (suc (suc (suc (suc w))))) s m k y = absurd (omega (arith, s.1, counted_most b c))

-- only the first row has one byte
pub counted-two : (b c w : ℕ) → 128 ≤ b → w ≡ counted (begin table b) c → 0 < w → 2 ≤ w
counted-two b c w h e m = grind (arith, nat_tests)

-- a width is that of a row
pub some_width-is : (n w : ℕ) → some_width n ≡ Some w → (w ≡ n) × (0 < w)
some_width-is zero w e = cc
some_width-is (suc n) w e = let q : suc n ≡ w = cc in (sym q, omega arith)

positive : (w : ℕ) → 0 < w → Some w ≡ some_width w
positive zero h = absurd (omega arith)
positive (suc w) h = refl

-- the width by the first two bytes and the test of those behind them
pub shown : (l : List ℕ) (w : ℕ) (t : Bool) → some_width (counted (begin table (get_or l 0 0)) (get_or l 1 0)) ≡ Some w → 0 < length l → 128 ≤ get_or l 0 0 → w ≤ length l → t ≡ list_all (within tail) (take (w - 2) (drop 2 l)) → then_some t w ≡ some_width (width_of (decoded l))
shown l w t e some lead long y =
    let s = some_width-is _ w e in
    let two = counted-two (get_or l 0 0) (get_or l 1 0) w lead s.0 s.1 in
    let same : take (w - 2) (drop 2 l) ≡ drop 2 (take w l) = sym (drop-take 2 (w - 2) l) ∙ ap (λ n. drop 2 (take n l)) (omega arith) in
    go t (y ∙ ap (list_all (within tail)) same) s two
  where
    go : (t : Bool) → t ≡ list_all (within tail) (drop 2 (take w l)) → (w ≡ counted (begin table (get_or l 0 0)) (get_or l 1 0)) × (0 < w) → 2 ≤ w → then_some t w ≡ some_width (width_of (decoded l))
    go true y s two = positive w s.1 ∙ ap some_width (whole l w (some, s.0) two long (sym y))
    go false y s two = ap some_width (broken l w (some, s.0) two long (sym y))

-- a width that was found, and none
pub of_width : (l : List ℕ) (w : ℕ) → some_width (width_of (decoded l)) ≡ Some w → w ≡ width_of (decoded l)
of_width l w e = (some_width-is _ w e).0

pub no_width : (l : List ℕ) → some_width (width_of (decoded l)) ≡ None → decoded l ≡ None
no_width l e = nothing l (go (width_of (decoded l)) e)
  where
    go : (n : ℕ) → some_width n ≡ None → n ≡ 0
    go zero e = refl
    go (suc n) e = cc
