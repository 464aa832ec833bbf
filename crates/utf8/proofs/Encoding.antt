-- Decoding answers the scalar value whose encoding begins the bytes.
use Rattle.std.proofs.Common.{◌≡◌, ℕ, zero, suc, ◌+◌, ◌*◌, ◌/◌, ◌%◌, ◌<◌, ◌≤◌, true, ltb, ◌⊎◌, List, [], ◌∷◌, ◌++◌, length, drop, Some, None, Option, sym, refl, ap, ◌∙◌, subst, inl, inr, arith}
use lib.Utf8.{low_scalar, scalar, scalar_cases, encode, next}
use Rattle.std.proofs.lemmas.Bool.{cases_lt, lt-ltb, le-ltb, cond-true, cond-false}
use Rattle.std.proofs.lemmas.Bool.Decides.{nat_tests}
use Rattle.utf8.specs.Decode.{decoded, width_of, Begins}
use Rattle.utf8.proofs.Rows.{Two, Three, Four, point-two, point-three, point-four, decoded-one, decoded-two, decoded-three, decoded-four, one, two, three, four, most, inside, never}

-- the bytes of a character, by its size
encode_one : (c : ℕ) → c < 128 → encode c ≡ c ∷ []
unfolding encode
encode_one c h = cond-true (ltb c 128) _ _ (lt-ltb c 128 h)

encode-two : (c : ℕ) → 128 ≤ c → c < 2048 → encode c ≡ (192 + c / 64) ∷ next c ∷ []
unfolding encode
encode-two c h k = cond-false (ltb c 128) _ _ (le-ltb c 128 h) ∙ cond-true (ltb c 2048) _ _ (lt-ltb c 2048 k)

encode-three : (c : ℕ) → 2048 ≤ c → c < 65536 → encode c ≡ (224 + c / 4096) ∷ next (c / 64) ∷ next c ∷ []
unfolding encode
encode-three c h k = cond-false (ltb c 128) _ _ (le-ltb c 128 (omega arith)) ∙ (cond-false (ltb c 2048) _ _ (le-ltb c 2048 h) ∙ cond-true (ltb c 65536) _ _ (lt-ltb c 65536 k))

encode-four : (c : ℕ) → 65536 ≤ c → encode c ≡ (240 + c / 262144) ∷ next (c / 4096) ∷ next (c / 64) ∷ next c ∷ []
unfolding encode
encode-four c h = cond-false (ltb c 128) _ _ (le-ltb c 128 (omega arith)) ∙ (cond-false (ltb c 2048) _ _ (le-ltb c 2048 (omega arith)) ∙ cond-false (ltb c 65536) _ _ (le-ltb c 65536 h))

-- a scalar value in front is decoded
at_front : (c x w : ℕ) (bs rest : List ℕ) → encode c ≡ bs → decoded (bs ++ rest) ≡ Some (x, w) → x ≡ c → w ≡ length bs → decoded (encode c ++ rest) ≡ Some (c, length (encode c))
at_front c x w bs rest e d p q = ap (λ l. decoded (l ++ rest)) e ∙ (d ∙ (λ i. Some (p i, (q ∙ ap length (sym e)) i)))

front-one : (c : ℕ) (rest : List ℕ) → c < 128 → decoded (encode c ++ rest) ≡ Some (c, length (encode c))
front-one c rest h = at_front c c 1 (c ∷ []) rest (encode_one c h) (decoded-one c rest h) refl refl

front-two : (c : ℕ) (rest : List ℕ) → 128 ≤ c → c < 2048 → decoded (encode c ++ rest) ≡ Some (c, length (encode c))
front-two c rest h k =
    at_front c _ 2 ((192 + c / 64) ∷ next c ∷ []) rest (encode-two c h k) (decoded-two (192 + c / 64) (next c) rest (omega arith, omega arith, omega arith, omega arith)) (omega arith) refl

front-three : (c : ℕ) (rest : List ℕ) → 2048 ≤ c → c < 65536 → (c < 55296) ⊎ ((57344 ≤ c) × (c < 1114112)) → decoded (encode c ++ rest) ≡ Some (c, length (encode c))
front-three c rest h k s =
    at_front c _ 3 ((224 + c / 4096) ∷ next (c / 64) ∷ next c ∷ []) rest (encode-three c h k)
    (decoded-three (224 + c / 4096) (next (c / 64)) (next c) rest (omega arith, omega arith, omega arith, omega arith, (λ z. omega arith), low s, omega arith, omega arith)) (omega arith) refl
  where
    low : (c < 55296) ⊎ ((57344 ≤ c) × (c < 1114112)) → 224 + c / 4096 ≡ 237 → next (c / 64) < 160
    low (inl x) z = omega arith
    low (inr x) z = absurd (omega arith)

front-four : (c : ℕ) (rest : List ℕ) → 65536 ≤ c → c < 1114112 → decoded (encode c ++ rest) ≡ Some (c, length (encode c))
front-four c rest h k =
    at_front c _ 4 ((240 + c / 262144) ∷ next (c / 4096) ∷ next (c / 64) ∷ next c ∷ []) rest (encode-four c h)
    (decoded-four (240 + c / 262144) (next (c / 4096)) (next (c / 64)) (next c) rest (omega arith, omega arith, omega arith, omega arith, (λ z. omega arith), (λ z. omega arith), omega arith, omega arith, omega arith, omega arith)) (omega arith) refl

pub decoded-front : (c : ℕ) (rest : List ℕ) → scalar c ≡ true → decoded (encode c ++ rest) ≡ Some (c, length (encode c))
decoded-front c rest s = go (cases_lt c 128) (cases_lt c 2048) (cases_lt c 65536) (scalar_cases c s)
  where
    go : (c < 128) ⊎ (128 ≤ c) → (c < 2048) ⊎ (2048 ≤ c) → (c < 65536) ⊎ (65536 ≤ c) → (c < 55296) ⊎ ((57344 ≤ c) × (c < 1114112)) → decoded (encode c ++ rest) ≡ Some (c, length (encode c))
    go (inl x) y z s = front-one c rest x
    go (inr x) (inl y) z s = front-two c rest x y
    go (inr x) (inr y) (inl z) s = front-three c rest y z s
    go (inr x) (inr y) (inr z) (inl s) = absurd (omega arith)
    go (inr x) (inr y) (inr z) (inr s) = front-four c rest z s.1

-- what is decoded is a scalar value, and its encoding is in front
high_scalar : (c : ℕ) → 57344 ≤ c → c < 1114112 → scalar c ≡ true
high_scalar c h k = grind (arith, nat_tests)

begins : (c : ℕ) (bs rest : List ℕ) → scalar c ≡ true → encode c ≡ bs → drop (length bs) (bs ++ rest) ≡ rest → Begins (bs ++ rest) c (length bs)
begins c bs rest s e d = record { is_scalar = s; width = ap length (sym e); front = (λ i. sym e i ++ sym d i) }

begins-two : (b c : ℕ) (rest : List ℕ) → Two b c → Begins (b ∷ c ∷ rest) (point-two b c) 2
begins-two b c rest h =
    let x = point-two b c in
    let p : 192 + x / 64 ≡ b = omega arith in
    let q : next x ≡ c = omega arith in
    begins x (b ∷ c ∷ []) rest (low_scalar x (omega arith)) (encode-two x (omega arith) (omega arith) ∙ (λ j. p j ∷ q j ∷ [])) refl

begins-three : (b c d : ℕ) (rest : List ℕ) → Three b c d → Begins (b ∷ c ∷ d ∷ rest) (point-three b c d) 3
begins-three b c d rest h =
    let x = point-three b c d in
    let p : 224 + x / 4096 ≡ b = omega arith in
    let e : x / 64 ≡ b % 16 * 64 + c % 64 = omega arith in
    let q : next (x / 64) ≡ c = subst (λ (n : ℕ). next n ≡ c) (sym e) (omega arith) in
    let r : next x ≡ d = omega arith in
    begins x (b ∷ c ∷ d ∷ []) rest (ok (cases_lt b 237) (cases_lt b 238)) (encode-three x (low (cases_lt b 225)) (omega arith) ∙ (λ j. p j ∷ q j ∷ r j ∷ [])) refl
  where
    low : (b < 225) ⊎ (225 ≤ b) → 2048 ≤ point-three b c d
    low (inl e) = let y = h.4 (omega arith) in omega arith
    low (inr e) = omega arith

    ok : (b < 237) ⊎ (237 ≤ b) → (b < 238) ⊎ (238 ≤ b) → scalar (point-three b c d) ≡ true
    ok (inl e) z = low_scalar (point-three b c d) (omega arith)
    ok (inr e) (inl z) = let y = h.5 (omega arith) in low_scalar (point-three b c d) (omega arith)
    ok (inr e) (inr z) = high_scalar (point-three b c d) (omega arith) (omega arith)

begins-four : (b c d g : ℕ) (rest : List ℕ) → Four b c d g → Begins (b ∷ c ∷ d ∷ g ∷ rest) (point-four b c d g) 4
begins-four b c d g rest h =
    let x = point-four b c d g in
    let p : 240 + x / 262144 ≡ b = omega arith in
    let e2 : x / 4096 ≡ b % 8 * 64 + c % 64 = omega arith in
    let q : next (x / 4096) ≡ c = subst (λ (n : ℕ). next n ≡ c) (sym e2) (omega arith) in
    let e : x / 64 ≡ (b % 8 * 64 + c % 64) * 64 + d % 64 = omega arith in
    let r : next (x / 64) ≡ d = subst (λ (n : ℕ). next n ≡ d) (sym e) (omega arith) in
    let y : next x ≡ g = omega arith in
    let l = low (cases_lt b 241) in
    begins x (b ∷ c ∷ d ∷ g ∷ []) rest (high_scalar x (omega arith) (top (cases_lt b 244))) (encode-four x l ∙ (λ j. p j ∷ q j ∷ r j ∷ y j ∷ [])) refl
  where
    low : (b < 241) ⊎ (241 ≤ b) → 65536 ≤ point-four b c d g
    low (inl e) = let y = h.4 (omega arith) in omega arith
    low (inr e) = omega arith

    top : (b < 244) ⊎ (244 ≤ b) → point-four b c d g < 1114112
    top (inl e) = omega arith
    top (inr e) = let y = h.5 (omega arith) in omega arith

-- no width is past four
wide : (l : List ℕ) (x w : ℕ) → decoded l ≡ Some (x, suc (suc (suc (suc (suc w))))) → ⊥
wide l x w e = let k : width_of (decoded l) ≡ suc (suc (suc (suc (suc w)))) = ap width_of e in omega (arith, most l)

-- and none is past the end
past_end : (l : List ℕ) (x w : ℕ) → length l < w → decoded l ≡ Some (x, w) → ⊥
past_end l x w h e = let k : width_of (decoded l) ≡ w = ap width_of e in omega (arith, inside l)

-- one code point to one answer
same_point : (o : Option (ℕ × ℕ)) (x y w : ℕ) → o ≡ Some (x, w) → o ≡ Some (y, w) → x ≡ y
same_point o x y w e d = ap point (sym e ∙ d)
  where
    point : Option (ℕ × ℕ) → ℕ
    point None = 0
    point (Some p) = p.0

pub decoded-begins : (l : List ℕ) (x w : ℕ) → decoded l ≡ Some (x, w) → Begins l x w
decoded-begins l x zero e = absurd (never l x e)
decoded-begins [] x (suc w) e = absurd (past_end [] x (suc w) (omega arith) e)
decoded-begins (b ∷ t) x (suc zero) e =
    let h = one b t (ap width_of e) in
    let k : x ≡ b = same_point (decoded (b ∷ t)) x b 1 e (decoded-one b t h) in
    subst (λ (n : ℕ). Begins (b ∷ t) n 1) (sym k) (begins b (b ∷ []) t (low_scalar b (omega arith)) (encode_one b h) refl)
decoded-begins (b ∷ []) x (suc (suc w)) e = absurd (past_end (b ∷ []) x (suc (suc w)) (omega arith) e)
decoded-begins (b ∷ c ∷ t) x (suc (suc zero)) e =
    let h = two b c t (ap width_of e) in
    let k : x ≡ point-two b c = same_point (decoded (b ∷ c ∷ t)) x (point-two b c) 2 e (decoded-two b c t h) in
    subst (λ (n : ℕ). Begins (b ∷ c ∷ t) n 2) (sym k) (begins-two b c t h)
decoded-begins (b ∷ c ∷ []) x (suc (suc (suc w))) e = absurd (past_end (b ∷ c ∷ []) x (suc (suc (suc w))) (omega arith) e)
decoded-begins (b ∷ c ∷ d ∷ t) x (suc (suc (suc zero))) e =
    let h = three b c d t (ap width_of e) in
    let k : x ≡ point-three b c d = same_point (decoded (b ∷ c ∷ d ∷ t)) x (point-three b c d) 3 e (decoded-three b c d t h) in
    subst (λ (n : ℕ). Begins (b ∷ c ∷ d ∷ t) n 3) (sym k) (begins-three b c d t h)
decoded-begins (b ∷ c ∷ d ∷ []) x (suc (suc (suc (suc w)))) e = absurd (past_end (b ∷ c ∷ d ∷ []) x (suc (suc (suc (suc w)))) (omega arith) e)
decoded-begins (b ∷ c ∷ d ∷ g ∷ t) x (suc (suc (suc (suc zero)))) e =
    let h = four b c d g t (ap width_of e) in
    let k : x ≡ point-four b c d g = same_point (decoded (b ∷ c ∷ d ∷ g ∷ t)) x (point-four b c d g) 4 e (decoded-four b c d g t h) in
    subst (λ (n : ℕ). Begins (b ∷ c ∷ d ∷ g ∷ t) n 4) (sym k) (begins-four b c d g t h)
decoded-begins (b ∷ c ∷ d ∷ g ∷ t) x (suc (suc (suc (suc (suc w))))) e = absurd (wide (b ∷ c ∷ d ∷ g ∷ t) x w e)

-- the laws of an answer that is what the bytes decode to
module _ (bs : List ℕ) (r : Option (ℕ × ℕ)) (e : r ≡ decoded bs) where
  pub some-begins : (c w : ℕ) → r ≡ Some (c, w) → Begins bs c w
  some-begins c w z = decoded-begins bs c w (sym e ∙ z)

  pub first_some : (c : ℕ) (rest : List ℕ) → scalar c ≡ true → bs ≡ encode c ++ rest → r ≡ Some (c, length (encode c))
  first_some c rest s f = e ∙ (ap decoded f ∙ decoded-front c rest s)

  pub none-begins : r ≡ None → (c : ℕ) (rest : List ℕ) → scalar c ≡ true → bs ≡ encode c ++ rest → ⊥
  none-begins z c rest s f = let k = first_some c rest s f in let q : ◌≡◌ {A = ℕ} 0 1 = cc in omega arith
