-- A kind's order ranks, so the search that keeps the best score so far finds the first greatest. Assumes nothing.
use Rattle.std.proofs.Common.{◌≡◌, ℕ, zero, suc, ◌+◌, ◌<◌, ◌≤◌, Bool, true, false, cond, not, T, List, [], ◌∷◌, length, get_or, drop, Some, sym, refl, ap, ◌∙◌, subst, inl, inr, true≢false, arith}
use Rattle.std.specs.Bool.{passes}
use Rattle.std.specs.Option.{option_map}
use Rattle.std.specs.Cmp.{IsStrictWeakOrder}
use Rattle.std.specs.List.{IsFirstBest, fold, enumerate_from, reduce}
use Rattle.std.proofs.lemmas.List.MinMax.{IsFirstBest-none, IsFirstBest-keeps, IsFirstBest-takes}
use Rattle.std.proofs.lemmas.List.Recursion.{and_from_places, and_fails_at}
use Rattle.std.proofs.lemmas.Bool.{not_from_true, not_from_false, false_from_ne_true, cond-true, cond-false}
use Rattle.std.proofs.lemmas.Grind.{common_steps}
use Rattle.score.specs.Laws.{Order}
use Rattle.score.specs.Greatest.{unexceeded, first_index, first_greatest, FirstGreatest}

pub clash : (b : Bool) → b ≡ false → T b → ⊥
clash true e t = true≢false e
clash false e t = t

pub ranks : {S : Type 0} (exceeds : S → S → Bool) → Order exceeds → IsStrictWeakOrder exceeds
ranks exceeds o = record {
  one_way = λ x y e. false_from_ne_true (exceeds y x) (λ t. o.irreflexive x (o.transitive x y x (passes (exceeds x y) e) (passes (exceeds y x) t)));
  chain = λ x y z e f. false_from_ne_true (exceeds x z)
      (λ t. elim (o.cotransitive x z y (passes (exceeds x z) t)) [ inl a ↦ clash (exceeds y z) f a | inr a ↦ clash (exceeds x y) e a ]);
}

-- ---- the search: of two scores with their indices, the later one if it exceeds
abbrev pub greater : {S : Type 0} → (S → S → Bool) → ℕ × S → ℕ × S → ℕ × S
greater exceeds old new = cond (exceeds new.1 old.1) new old

-- from the first best before i, which stands at b.0, to the first best of all
best-of : {S : Type 0} (exceeds : S → S → Bool) → IsStrictWeakOrder exceeds → (all : List S) (i : ℕ) (b : ℕ × S) (rest : List S) → i ≤ length all → rest ≡ drop i all
    → IsFirstBest exceeds all i b.0 → b.1 ≡ get_or all b.0 b.1 → IsFirstBest exceeds all (length all) (fold (greater exceeds) b (enumerate_from i rest)).0
best-of {S = S} exceeds o all i b [] l e f at = subst (λ (n : ℕ). IsFirstBest exceeds all n b.0) end f
  where
    end : i ≡ length all
    end = grind (arith, common_steps)
best-of {S = S} exceeds o all i b (x ∷ rest) l e f at =
    let m : i < length all = grind (arith, common_steps) in
    let here : x ≡ get_or all i x = grind (arith, common_steps) in
    let next : rest ≡ drop (i + 1) all = grind (arith, common_steps) in
    let r = go m here (exceeds x b.1) refl in
    best-of exceeds o all (i + 1) (greater exceeds b (i, x)) rest (omega arith) next r.0 r.1
  where
    go : i < length all → x ≡ get_or all i x → (t : Bool) → exceeds x b.1 ≡ t → let n = cond t (i, x) b in IsFirstBest exceeds all (i + 1) n.0 × (n.1 ≡ get_or all n.0 n.1)
    go m here true u = (IsFirstBest-takes o all i b.0 x b.1 f m here at u, here)
    go m here false u = (IsFirstBest-keeps o all i b.0 x b.1 f m here at u, at)

pub found : {S : Type 0} (exceeds : S → S → Bool) → Order exceeds → (xs : List S) (best : ℕ × S) → Some best ≡ reduce (greater exceeds) (enumerate_from 0 xs) → FirstGreatest exceeds xs best.0
found exceeds o [] best e = cc
found exceeds o (x ∷ xs) best e =
    let b : best ≡ fold (greater exceeds) (0, x) (enumerate_from 1 xs) = cc in
    let r = ranks exceeds o in
    subst (λ (n : ℕ). IsFirstBest exceeds (x ∷ xs) (length (x ∷ xs)) n) (sym (ap (λ p. p.0) b))
    (best-of exceeds r (x ∷ xs) 1 (0, x) xs (omega arith) refl (IsFirstBest-none r (x ∷ xs)) refl)

-- ---- the definition finds the same index
first-index : {S : Type 0} (test : S → Bool) (xs : List S) (i : ℕ) (d : S) → i < length xs → test (get_or xs i d) ≡ true → ((k : ℕ) → k < i → test (get_or xs k d) ≡ false) → first_index test xs ≡ Some i
first-index test [] i d l e h = absurd (omega arith)
first-index test (x ∷ xs) zero d l e h = cond-true (test x) (Some 0) (option_map suc (first_index test xs)) e
first-index test (x ∷ xs) (suc i) d l e h =
    cond-false (test x) (Some 0) (option_map suc (first_index test xs)) (h 0 (omega arith))
    ∙ ap (option_map suc) (first-index test xs i d (omega arith) e (λ k m. h (suc k) (omega arith)))

pub found-value : {S : Type 0} (exceeds : S → S → Bool) (xs : List S) (i : ℕ) → FirstGreatest exceeds xs i → Some i ≡ first_greatest exceeds xs
found-value exceeds [] i f = absurd (omega arith)
found-value exceeds (x ∷ xs) i f =
    let all = x ∷ xs in
    sym (first-index (unexceeded exceeds all) all i x f.0
    (and_from_places (λ ys. unexceeded exceeds ys (get_or all i x)) (λ y. not (exceeds y (get_or all i x))) refl (λ _ _. refl) all x (λ k l. not_from_false _ (f.1 k x l)))
    (λ k l. and_fails_at (λ ys. unexceeded exceeds ys (get_or all k x)) (λ y. not (exceeds y (get_or all k x))) refl (λ _ _. refl) all i x f.0 (not_from_true _ (f.2 k x l))))
