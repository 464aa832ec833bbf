-- The first greatest of a list of scores, and the first greatest that exceeds zero.
use Rattle.std.specs.Prelude.{◌≡◌, ℕ, suc, ◌<◌, Bool, true, false, cond, not, ◌&&◌, List, [], ◌∷◌, length, Some, None, Option, slice_index_or}
use Rattle.std.specs.Option.{option_map}

-- no score of the list exceeds s
abbrev pub unexceeded : {S : Type 0} → (S → S → Bool) → List S → S → Bool
unexceeded exceeds [] s = true
unexceeded exceeds (x ∷ xs) s = not (exceeds x s) && unexceeded exceeds xs s

-- the first index at which the test holds
abbrev pub first_index : {S : Type 0} → (S → Bool) → List S → Option ℕ
first_index test [] = None
first_index test (x ∷ xs) = cond (test x) (Some 0) (option_map suc (first_index test xs))

-- the first index whose score none exceeds
abbrev pub first_greatest : {S : Type 0} → (S → S → Bool) → List S → Option ℕ
first_greatest exceeds scores = first_index (unexceeded exceeds scores) scores

-- an index that passes the test, else none
abbrev pub passing : (ℕ → Bool) → Option ℕ → Option ℕ
passing test None = None
passing test (Some i) = cond (test i) (Some i) None

-- the first greatest, if it exceeds zero
abbrev pub top_candidate : {S : Type 0} → (S → S → Bool) → S → List S → Option ℕ
top_candidate exceeds zero scores = passing (λ i. exceeds (slice_index_or scores i zero) zero) (first_greatest exceeds scores)

-- i is an index, no score exceeds the one at i, and every one before it is exceeded by it
abbrev pub FirstGreatest : {S : Type 0} → (S → S → Bool) → List S → ℕ → Type 0
FirstGreatest {S} exceeds scores i =
    (i < length scores) × ((k : ℕ) (d : S) → k < length scores → exceeds (slice_index_or scores k d) (slice_index_or scores i d) ≡ false)
    × ((k : ℕ) (d : S) → k < i → exceeds (slice_index_or scores i d) (slice_index_or scores k d) ≡ true)
