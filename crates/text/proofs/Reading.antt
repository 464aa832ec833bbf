-- What single bytes say of a part, and how many bytes a character needs.
use Rattle.std.proofs.Common.{◌≡◌, ℕ, zero, suc, ◌+◌, ◌-◌, ◌^◌, ◌<◌, ◌≤◌, min, true, List, [], ◌∷◌, length, get_or, take, drop, is_some, IfSome, Some, None, Option, sym, refl, ap, ◌∙◌, inl, inr, arith}
use Rattle.std.specs.List.{slice_get}
use Rattle.std.proofs.lemmas.Grind.{same_number_lists}
use Rattle.std.proofs.lemmas.List.{take_all, drop-drop, drop_all, drop_more, length-take, length-drop, get_or-take, get_or-drop}
use Rattle.std.proofs.lemmas.Option.{slice_get-get_or, slice_get_within, get_or_from_slice_get, none-some}
use Rattle.std.proofs.lemmas.Bool.{cases_lt}
use Rattle.std.proofs.lemmas.Bool.Decides.{nat_tests}
use Rattle.utf8.specs.Decode.{decoded, width_of, scalars_of}
use Rattle.utf8.proofs.Scalars.{scalars_of-some}
use Rattle.utf8.proofs.Rows.{decoded-one, never, inside}
use Rattle.page.specs.Forest.{byte_in}
use Rattle.text.specs.Held.{bytes_in}

-- a byte that was answered is the one that stands there
pub byte-is : (o : Option (List ℕ)) (i r : ℕ) → (is_some (byte_in o i) ≡ true → Some r ≡ byte_in o i) → i < length (bytes_in o) → r ≡ get_or (bytes_in o) i 0
byte-is None i r f h = absurd (omega arith)
byte-is (Some bs) i r f h = let e = slice_get-get_or bs i 0 h in let g = f (ap is_some e) in cc

-- a character takes at most four bytes, so those decide it
four : (l : List ℕ) → decoded (take 4 l) ≡ decoded l
four [] = refl
four (a ∷ []) = refl
four (a ∷ b ∷ []) = refl
four (a ∷ b ∷ c ∷ []) = refl
four (a ∷ b ∷ c ∷ d ∷ t) = grind (arith, nat_tests)

pub first-four : (l : List ℕ) (n : ℕ) → n ≡ min (length l) 4 → decoded (take n l) ≡ decoded l
first-four l n e =
    elim (cases_lt (length l) 4) [ inl h ↦ ap decoded (take_all n l (omega arith)) | inr h ↦ let k : n ≡ 4 = omega arith in ap (λ j. decoded (take j l)) k ∙ four l ]

-- the character at a place, and then those of the bytes behind it
pub reads : (xs : List ℕ) (at c w : ℕ) → Some (c, w) ≡ decoded (drop at xs) → scalars_of (drop at xs) ≡ c ∷ scalars_of (drop (at + w) xs)
reads xs at c w e = scalars_of-some (drop at xs) c w (sym e) ∙ ap (λ l. c ∷ scalars_of l) (drop-drop w at xs)

-- past the end nothing begins
pub nothing-past : (xs : List ℕ) (at : ℕ) → slice_get xs at ≡ None → decoded (drop at xs) ≡ None
nothing-past xs at e = ap decoded (drop_all at xs (past xs at e))
  where
    past : (xs : List ℕ) (at : ℕ) → slice_get xs at ≡ None → length xs ≤ at
    past [] at e = omega arith
    past (x ∷ xs) zero e = absurd (none-some x (sym e))
    past (x ∷ xs) (suc at) e = omega (arith, past xs at e)

-- a byte below 0x80 is a character
pub first-small : (xs : List ℕ) (at b : ℕ) → slice_get xs at ≡ Some b → b < 128 → decoded (drop at xs) ≡ Some (b, 1)
first-small xs at b e l =
    ap decoded (drop_more xs at b (slice_get_within xs at b e) ∙ ap (λ x. x ∷ drop (at + 1) xs) (get_or_from_slice_get xs at b b e)) ∙ decoded-one b (drop (at + 1) xs) l

-- the next four bytes, or as many as there are, decide
pub first-bytes : (xs ys : List ℕ) (at n : ℕ) → length ys ≡ 4 → n ≡ min (length xs - at) 4 → ((k : ℕ) → k < 4 → at + k < length xs → get_or ys k 0 ≡ get_or xs (at + k) 0) → decoded (take n ys) ≡ decoded (drop at xs)
first-bytes xs ys at n four is each = ap decoded same ∙ first-four (drop at xs) n (simp length-drop (omega arith))
  where
    long : length (take n ys) ≡ n
    long = simp length-take (omega arith)

    same : take n ys ≡ take n (drop at xs)
    same = same_number_lists (take n ys) (take n (drop at xs)) (simp (length-take, length-drop) (omega arith)) (λ k h.
        get_or-take n ys k 0 (omega (arith, long)) ∙ (each k (omega (arith, long)) (omega (arith, long)) ∙ (sym (get_or-drop at xs k 0) ∙ sym (get_or-take n (drop at xs) k 0 (omega (arith, long))))))

-- where a decoded character ends
pub ends : (xs : List ℕ) (at : ℕ) → at < length xs → length xs < 2 ^ 64 → IfSome (decoded (drop at xs)) (λ x. (0 < x.1) × (at + x.1 ≤ length xs) × (at + x.1 < 2 ^ 64))
ends xs at h f = go (decoded (drop at xs)) refl
  where
    go : (o : Option (ℕ × ℕ)) → decoded (drop at xs) ≡ o → IfSome o (λ x. (0 < x.1) × (at + x.1 ≤ length xs) × (at + x.1 < 2 ^ 64))
    go None e = tt
    go (Some x) e =
        let w : width_of (decoded (drop at xs)) ≡ x.1 = ap width_of e in
        let k : at + x.1 ≤ length xs = omega (arith, inside (drop at xs), length-drop at xs) in
        (some x.1 refl, k, omega arith)
      where
        some : (w : ℕ) → x.1 ≡ w → 0 < x.1
        some zero k = absurd (never (drop at xs) x.0 (e ∙ ap (λ w. Some (x.0, w)) k))
        some (suc w) k = omega arith
