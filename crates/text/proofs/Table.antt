-- The table has exactly the characters that std's White_Space test passes.
use Rattle.std.proofs.Common.{◌≡◌, ℕ, zero, suc, ◌+◌, ◌<◌, ◌≤◌, Bool, true, false, ◌&&◌, ◌||◌, eqb, ltb, List, [], ◌∷◌, sym, refl, ap, ◌∙◌, inl, inr, arith}
use Rattle.std.specs.Char.{is_whitespace}
use Rattle.std.proofs.lemmas.Bool.{eqb-true, ltb-true, and_parts, cases_lt, both_ways}
use Rattle.std.proofs.lemmas.Bool.Decides.{same_from_decides, nat_tests}
use Rattle.text.specs.Space.{spaces, listed, space}

either : {P : Type 0} (x y : Bool) → (x || y) ≡ true → (x ≡ true → P) → (y ≡ true → P) → P
either true y h f g = f refl
either false y h f g = g h

-- a test that every entry passes
abbrev every : (ℕ → Bool) → List ℕ → Bool
every p [] = true
every p (s ∷ ss) = p s && every p ss

listed-every : (p : ℕ → Bool) (ss : List ℕ) (c : ℕ) → every p ss ≡ true → listed ss c ≡ true → p c ≡ true
listed-every p [] c t h = absurd (both_ways false refl h)
listed-every p (s ∷ ss) c t h =
    let q = and_parts (p s) (every p ss) t in
    either (eqb s c) (listed ss c) h (λ e. ap p (sym (eqb-true s c e)) ∙ q.0) (listed-every p ss c q.1)

-- a test that each number from a on passes, n of them
abbrev run_of : (ℕ → Bool) → ℕ → ℕ → Bool
run_of p a zero = true
run_of p a (suc n) = p (a + n) && run_of p a n

within-run : (p : ℕ → Bool) (a n c : ℕ) → run_of p a n ≡ true → a ≤ c → c < a + n → p c ≡ true
within-run p a zero c t h k = absurd (omega arith)
within-run p a (suc n) c t h k =
    let q = and_parts (p (a + n)) (run_of p a n) t in
    elim (cases_lt c (a + n)) [ inl l ↦ within-run p a n c q.1 h l | inr l ↦ let e : c ≡ a + n = omega arith in ap p e ∙ q.0 ]

one : (c k : ℕ) → listed spaces k ≡ true → eqb c k ≡ true → listed spaces c ≡ true
one c k t e = ap (listed spaces) (eqb-true c k e) ∙ t

range : (c a b n : ℕ) → run_of (listed spaces) a n ≡ true → a ≡ suc b → (ltb b c && ltb c (a + n)) ≡ true → listed spaces c ≡ true
range c a b n t e h = let p = and_parts (ltb b c) (ltb c (a + n)) h in within-run (listed spaces) a n c t (omega (arith, ltb-true b c p.0)) (omega (arith, ltb-true c (a + n) p.1))

white-listed : (c : ℕ) → is_whitespace c ≡ true → listed spaces c ≡ true
white-listed c h =
    either _ _ h (λ h. either _ _ h (λ h. either _ _ h (λ h. either _ _ h (λ h. either _ _ h (λ h. either _ _ h (λ h. either _ _ h (λ h. either _ _ h (λ h. either _ _ h (λ h. either _ _ h (range c 9 8 5 refl refl)
    (one c 32 refl)) (one c 133 refl)) (one c 160 refl)) (one c 5760 refl)) (range c 8192 8191 11 refl refl)) (one c 8232 refl)) (one c 8233 refl)) (one c 8239 refl)) (one c 8287 refl)) (one c 12288 refl)

pub space-white : (c : ℕ) → space c ≡ is_whitespace c
unfolding space
space-white c = same_from_decides {P = listed spaces c ≡ true} (listed spaces c) (is_whitespace c) ((λ h. h), (λ h. h)) (white-listed c, listed-every is_whitespace spaces c refl)

-- no character between the space and 0x85 is White_Space
pub printed : (c : ℕ) → 32 < c → c < 133 → false ≡ is_whitespace c
printed c h k = grind (arith, nat_tests)
