-- The machine counts the matches of a text, taken leftmost and not overlapping.
use Rattle.std.proofs.Common.{◌≡◌, ℕ, suc, ◌+◌, ◌-◌, ◌^◌, ◌<◌, ◌≤◌, min, Bool, true, false, cond, not, ◌&&◌, eqb, ◌⊎◌, List, [], ◌∷◌, length, sym, refl, ap, ◌∙◌, subst, inl, inr, arith}
use Rattle.std.proofs.lemmas.Bool.{cases_Bool, both_ways, or_cases, or_parts, and_parts, cond-true, cond-false}
use Rattle.std.proofs.lemmas.Bool.Decides.{nat_tests}
use Rattle.text.specs.declared.marks.State.{State}
use Rattle.text.specs.declared.marks.State.TheVariants.{Plain, AfterStop, AfterComma}
use Rattle.text.specs.declared.marks.Marks.{Marks}
use Rattle.text.specs.Held.{run}
use Rattle.text.specs.Marks.{mark, digit, letter_or_digit, pair, begins, Matches, none, single, double, skip, moved, ends, bit, hits, after, mark_step, Counts}

bit-most : (b : Bool) → bit b ≤ 1
bit-most true = omega arith
bit-most false = omega arith

-- no more matches than characters
pub hits-most : (s : State) (cs : List ℕ) → hits s cs ≤ length cs
hits-most s [] = omega arith
hits-most s (c ∷ cs) = omega (arith, bit-most (ends s c), hits-most (moved s c) cs)

-- a match more, below the largest number
one_more_lem : (b : Bool) (k : ℕ) → k + 1 < 2 ^ 64 → cond b (min (k + 1) (2 ^ 64 - 1)) k ≡ k + bit b
one_more_lem true k h = omega arith
one_more_lem false k h = omega arith

pub run-count : (cs : List ℕ) (m : Marks) → m.count + length cs < 2 ^ 64 → (run mark_step m cs).count ≡ m.count + hits m.state cs
run-count [] m h = omega arith
run-count (c ∷ cs) m h =
    let e = one_more_lem (ends m.state c) m.count (omega arith) in
    omega (arith, run-count cs (mark_step m c) (omega (arith, e, bit-most (ends m.state c))), e)

pub run-state : (cs : List ℕ) (m : Marks) → (run mark_step m cs).state ≡ after m.state cs
run-state [] m = refl
run-state (c ∷ cs) m = run-state cs (mark_step m c)

-- a character that matches alone is neither a stop nor a comma
mark-moved : (c : ℕ) → mark c ≡ true → moved Plain c ≡ Plain
mark-moved c h = grind (arith, nat_tests)

stop-moved : (c : ℕ) → eqb c 46 ≡ true → moved Plain c ≡ AfterStop
stop-moved c h = cond-true (eqb c 46) _ _ h

comma-moved : (c : ℕ) → eqb c 44 ≡ true → moved Plain c ≡ AfterComma
comma-moved c h = grind (arith, nat_tests)

other-moved : (c : ℕ) → eqb c 46 ≡ false → eqb c 44 ≡ false → moved Plain c ≡ Plain
other-moved c h k = cond-false (eqb c 46) _ _ h ∙ cond-false (eqb c 44) _ _ k

stop-unmarked : (c : ℕ) → eqb c 46 ≡ true → mark c ≡ false
stop-unmarked c h = grind (arith, nat_tests)

comma-unmarked : (c : ℕ) → eqb c 44 ≡ true → mark c ≡ false
comma-unmarked c h = grind (arith, nat_tests)

-- what one character adds, by where it leads
step : (c : ℕ) (cs : List ℕ) (b : Bool) (s : State) → mark c ≡ b → moved Plain c ≡ s → hits Plain (c ∷ cs) ≡ bit b + hits s cs
step c cs b s e f = λ i. bit (e i) + hits (f i) cs

singles : (c : ℕ) (cs : List ℕ) → mark c ≡ true → hits Plain (c ∷ cs) ≡ suc (hits Plain cs)
singles c cs h = step c cs true Plain h (mark-moved c h) ∙ (omega arith)

letter-plain : (d : ℕ) (ds : List ℕ) → letter_or_digit d ≡ true → hits Plain (d ∷ ds) ≡ hits Plain ds
letter-plain d ds h =
    let m : mark d ≡ false = grind (arith, nat_tests) in
    let p : eqb d 46 ≡ false = grind (arith, nat_tests) in
    let q : eqb d 44 ≡ false = grind (arith, nat_tests) in
    step d ds false Plain m (other-moved d p q) ∙ (omega arith)

digit-letter : (d : ℕ) → digit d ≡ true → letter_or_digit d ≡ true
digit-letter d h = grind (arith, nat_tests)

doubles : (c d : ℕ) (ds : List ℕ) → pair c d ≡ true → hits Plain (c ∷ d ∷ ds) ≡ suc (hits Plain ds)
doubles c d ds h = go (or_cases (eqb c 46 && not (letter_or_digit d)) (eqb c 44 && not (digit d)) h)
  where
    go : ((eqb c 46 && not (letter_or_digit d)) ≡ true) ⊎ ((eqb c 44 && not (digit d)) ≡ true) → hits Plain (c ∷ d ∷ ds) ≡ suc (hits Plain ds)
    go (inl e) =
        let p = and_parts (eqb c 46) (not (letter_or_digit d)) e in
        step c (d ∷ ds) false AfterStop (stop-unmarked c p.0) (stop-moved c p.0) ∙ (omega (arith, ap bit p.1))
    go (inr e) =
        let p = and_parts (eqb c 44) (not (digit d)) e in
        step c (d ∷ ds) false AfterComma (comma-unmarked c p.0) (comma-moved c p.0) ∙ (omega (arith, ap bit p.1))

skips : (c : ℕ) (cs : List ℕ) → begins c cs ≡ false → hits Plain (c ∷ cs) ≡ hits Plain cs
skips c [] h = ap (λ b. bit b + 0) h
skips c (d ∷ ds) h = go (cases_Bool (eqb c 46)) (cases_Bool (eqb c 44))
  where
    p : (mark c ≡ false) × (pair c d ≡ false)
    p = or_parts (mark c) (pair c d) h

    q : ((eqb c 46 && not (letter_or_digit d)) ≡ false) × ((eqb c 44 && not (digit d)) ≡ false)
    q = or_parts (eqb c 46 && not (letter_or_digit d)) (eqb c 44 && not (digit d)) p.1

    right : (x y : Bool) → (x && not y) ≡ false → x ≡ true → y ≡ true
    right x true e f = refl
    right true false e f = absurd (both_ways true e refl)
    right false false e f = f

    go : (eqb c 46 ≡ true) ⊎ (eqb c 46 ≡ false) → (eqb c 44 ≡ true) ⊎ (eqb c 44 ≡ false) → hits Plain (c ∷ d ∷ ds) ≡ hits Plain (d ∷ ds)
    go (inl e) f =
        let l = right (eqb c 46) (letter_or_digit d) q.0 e in
        step c (d ∷ ds) false AfterStop p.0 (stop-moved c e) ∙ (ap (λ b. 0 + (bit (not b) + hits Plain ds)) l ∙ ((omega arith) ∙ sym (letter-plain d ds l)))
    go (inr e) (inl f) =
        let l = right (eqb c 44) (digit d) q.1 f in
        step c (d ∷ ds) false AfterComma p.0 (comma-moved c f) ∙ (ap (λ b. 0 + (bit (not b) + hits Plain ds)) l ∙ ((omega arith) ∙ sym (letter-plain d ds (digit-letter d l))))
    go (inr e) (inr f) = step c (d ∷ ds) false Plain p.0 (other-moved c e f) ∙ (omega arith)

-- the count is one of matches
pub matched : (cs : List ℕ) → Matches cs (hits Plain cs)
matched [] = none
matched (c ∷ []) = go (cases_Bool (mark c))
  where
    go : (mark c ≡ true) ⊎ (mark c ≡ false) → Matches (c ∷ []) (hits Plain (c ∷ []))
    go (inl e) = subst (Matches (c ∷ [])) (sym (singles c [] e)) (single c [] 0 e none)
    go (inr e) = subst (Matches (c ∷ [])) (sym (skips c [] e)) (skip c [] 0 e none)
matched (c ∷ d ∷ ds) = go (cases_Bool (mark c)) (cases_Bool (pair c d)) (matched (d ∷ ds)) (matched ds)
  where
    go : (mark c ≡ true) ⊎ (mark c ≡ false) → (pair c d ≡ true) ⊎ (pair c d ≡ false) → Matches (d ∷ ds) (hits Plain (d ∷ ds)) → Matches ds (hits Plain ds) → Matches (c ∷ d ∷ ds) (hits Plain (c ∷ d ∷ ds))
    go (inl e) f x y = subst (Matches (c ∷ d ∷ ds)) (sym (singles c (d ∷ ds) e)) (single c (d ∷ ds) (hits Plain (d ∷ ds)) e x)
    go (inr e) (inl f) x y = subst (Matches (c ∷ d ∷ ds)) (sym (doubles c d ds f)) (double c d ds (hits Plain ds) f y)
    go (inr e) (inr f) x y = let b : begins c (d ∷ ds) ≡ false = rw e f in subst (Matches (c ∷ d ∷ ds)) (sym (skips c (d ∷ ds) b)) (skip c (d ∷ ds) (hits Plain (d ∷ ds)) b x)

-- and the only one
pub only : (cs : List ℕ) (k : ℕ) → Matches cs k → k ≡ hits Plain cs
only _ _ none = refl
only _ _ (single c cs k e m) = ap suc (only cs k m) ∙ sym (singles c cs e)
only _ _ (double c d cs k e m) = ap suc (only cs k m) ∙ sym (doubles c d cs e)
only _ _ (skip c cs k e m) = only cs k m ∙ sym (skips c cs e)

pub counts : (m : Marks) → Counts m
counts m = record { counts = λ z cs l. run-count cs m (omega arith) ∙ (omega arith); stands = λ cs. run-state cs m; matched = matched; only = only }
