-- A test of every number below a bound.
use Rattle.std.proofs.Common.{◌≡◌, ℕ, zero, suc, ◌+◌, ◌<◌, Bool, true, false, ◌&&◌, ◌⊎◌, [], ◌∷◌, ◌++◌, refl, ap, ◌∙◌, inl, inr, add-one, zero-add, arith}
use Rattle.std.specs.List.{list_all, range_with_len}
use Rattle.std.proofs.lemmas.List.Folds.{list_all-append}
use Rattle.std.proofs.lemmas.Bool.{and_parts, cases_eq}
use Rattle.table.specs.Checks.{each}

and-last : (x y : Bool) → (x && (y && true)) ≡ (y && x)
and-last true true = refl
and-last true false = refl
and-last false true = refl
and-last false false = refl

range-last : (n a : ℕ) → range_with_len a (suc n) ≡ range_with_len a n ++ (a + n) ∷ []
range-last zero a = let z : a ≡ a + 0 = omega arith in ap (λ k. k ∷ []) z
range-last (suc n) a = let z : a + 1 + n ≡ a + suc n = omega arith in ap (λ l. a ∷ l) (range-last n (a + 1) ∙ ap (λ k. range_with_len (a + 1) n ++ k ∷ []) z)

module _ (t : ℕ → Bool) where
  pub each_at : (n k : ℕ) → k < n → each n t ≡ true → t k ≡ true
  each_at zero k l e = absurd (omega arith)
  each_at (suc n) k l e = let p = and_parts (t n) (each n t) e in go (cases_eq k n) p.0 (λ (z : k < n). each_at n k z p.1)
    where
      go : (k ≡ n) ⊎ (k ≡ n → ⊥) → t n ≡ true → (k < n → t k ≡ true) → t k ≡ true
      go (inl z) p r = ap t z ∙ p
      go (inr z) p r = r (omega arith)

  pub each_more : (k : ℕ) → t k ≡ true → each k t ≡ true → each (k + 1) t ≡ true
  each_more k a b = ap (λ n. each n t) (add-one k) ∙ (ap (λ v. v && each k t) a ∙ b)

  -- a range that is gone over from the front
  pub all-each : (n : ℕ) → list_all t (range_with_len 0 n) ≡ each n t
  all-each zero = refl
  all-each (suc n) = ap (list_all t) (range-last n 0) ∙ (list_all-append t (range_with_len 0 n) ((0 + n) ∷ []) ∙ (λ i. and-last (all-each n i) (t (zero-add n i)) i))
