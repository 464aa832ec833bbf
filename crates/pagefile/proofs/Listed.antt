-- Records listed one after the other.
use Rattle.std.proofs.Common.{◌≡◌, ℕ, zero, suc, ◌+◌, ◌<◌, ◌≤◌, length, get_or, refl, ap, ◌∙◌, arith}
use Rattle.pagefile.specs.File.{listed}

module _ {X : Type 0} (at : ℕ → X) where
  pub length-listed : (k i : ℕ) → length (listed at i k) ≡ k
  length-listed zero i = refl
  length-listed (suc k) i = ap suc (length-listed k (suc i))

  pub get-listed : (k i j : ℕ) (d : X) → j < k → get_or (listed at i k) j d ≡ at (i + j)
  get-listed zero i j d l = absurd (omega arith)
  get-listed (suc k) i zero d l = let z : i ≡ i + 0 = omega arith in ap at z
  get-listed (suc k) i (suc j) d l = let z : suc i + j ≡ i + suc j = omega arith in get-listed k (suc i) j d (omega arith) ∙ ap at z

  pub past-listed : (k i j : ℕ) (d : X) → k ≤ j → get_or (listed at i k) j d ≡ d
  past-listed zero i j d l = refl
  past-listed (suc k) i zero d l = absurd (omega arith)
  past-listed (suc k) i (suc j) d l = past-listed k (suc i) j d (omega arith)

  -- from the first record on
  pub get_first : (k j : ℕ) (d : X) → j < k → get_or (listed at 0 k) j d ≡ at j
  get_first k j d l = let z : 0 + j ≡ j = omega arith in get-listed k 0 j d l ∙ ap at z
