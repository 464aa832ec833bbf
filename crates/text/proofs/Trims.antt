-- The machine measures the trimmed text.
use Rattle.std.proofs.Common.{◌≡◌, ℕ, zero, suc, pred, ◌+◌, ◌-◌, ◌^◌, ◌<◌, ◌≤◌, Bool, true, false, cond, not, ◌⊎◌, List, [], ◌∷◌, length, Some, None, Option, is_some, sym, refl, ap, ◌∙◌, inl, inr, arith}
use Rattle.std.specs.Char.{len_utf8}
use Rattle.std.proofs.lemmas.Bool.{cases_Bool, cond-true, cond-false}
use Rattle.std.proofs.lemmas.Str.{length-encode, len_utf8_bounds}
use Rattle.utf8.specs.Decode.{decoded, width_of, scalars_past, scalars_of}
use Rattle.utf8.proofs.Encoding.{decoded-begins}
use Rattle.utf8.proofs.Rows.{inside}
use Rattle.text.specs.declared.trim.Trimmed.{Trimmed}
use Rattle.text.specs.declared.trim.Trim.{Trim}
use Rattle.text.specs.Space.{space}
use Rattle.text.specs.Held.{run}
use Rattle.text.specs.Trim.{trim_front, before, trim_end, trim, is_nil, blank, total, weight}
use Rattle.text.specs.Trimming.{plus, added, sum_of, trim_step, Trims}

-- the characters of bytes take no more than the bytes
widths-past : (bs : List ℕ) (n : ℕ) → total len_utf8 (scalars_past bs n) ≤ length bs - n
widths-past [] n = omega arith
widths-past (b ∷ bs) (suc n) = omega (arith, widths-past bs n)
widths-past (b ∷ bs) zero = go (decoded (b ∷ bs)) refl (λ n. widths-past bs n)
  where
    go : (o : Option (ℕ × ℕ)) → decoded (b ∷ bs) ≡ o → ((n : ℕ) → total len_utf8 (scalars_past bs n) ≤ length bs - n)
        → total len_utf8 (elim o [ None ↦ [] | Some p ↦ p.0 ∷ scalars_past bs (pred p.1) ]) ≤ suc (length bs) - 0
    go None e f = omega arith
    go (Some p) e f =
        let w = (decoded-begins (b ∷ bs) p.0 p.1 e).width in
        let i = inside (b ∷ bs) in
        let k : width_of (decoded (b ∷ bs)) ≡ p.1 = ap width_of e in
        omega (arith, w, length-encode p.0, len_utf8_bounds p.0, i, k, f (pred p.1))

pub widths-held : (bs : List ℕ) → total len_utf8 (scalars_of bs) ≤ length bs
widths-held bs = omega (arith, widths-past bs 0)

-- a character weighs no more than its bytes
pub weight-most : (c : ℕ) → weight c ≤ 1
unfolding weight
weight-most c = omega arith

pub weight-width : (c : ℕ) → weight c ≤ len_utf8 c
weight-width c = omega (arith, weight-most c, len_utf8_bounds c)

pub total-le : (f g : ℕ → ℕ) → ((c : ℕ) → f c ≤ g c) → (cs : List ℕ) → total f cs ≤ total g cs
total-le f g h [] = omega arith
total-le f g h (c ∷ cs) = omega (arith, h c, total-le f g h cs)

-- trimming adds nothing
front-le : (f : ℕ → ℕ) (cs : List ℕ) → total f (trim_front cs) ≤ total f cs
front-le f [] = omega arith
front-le f (c ∷ cs) = go (space c) (front-le f cs)
  where
    go : (b : Bool) → total f (trim_front cs) ≤ total f cs → total f (cond b (trim_front cs) (c ∷ cs)) ≤ f c + total f cs
    go true h = omega arith
    go false h = omega arith

end-le : (f : ℕ → ℕ) (cs : List ℕ) → total f (trim_end cs) ≤ total f cs
end-le f [] = omega arith
end-le f (c ∷ cs) = go (trim_end cs) (space c) (end-le f cs)
  where
    go : (l : List ℕ) (b : Bool) → total f l ≤ total f cs → total f (elim l [ [] ↦ cond b [] (c ∷ []) | d ∷ ds ↦ c ∷ d ∷ ds ]) ≤ f c + total f cs
    go [] true h = omega arith
    go [] false h = omega arith
    go (d ∷ ds) b h = omega arith

pub trim-le : (f : ℕ → ℕ) (cs : List ℕ) → total f (trim cs) ≤ total f cs
trim-le f cs = omega (arith, end-le f (trim_front cs), front-le f cs)

-- the machine for one figure
figure : (ℕ → ℕ) → Option Trimmed → ℕ → Option Trimmed
figure f m c = added m (space c) (f c)

-- what a text adds behind a gap: nothing where it is blank
behind : (ℕ → ℕ) → ℕ → List ℕ → ℕ
behind f g [] = 0
behind f g (d ∷ ds) = g + total f (d ∷ ds)

module _ (f : ℕ → ℕ) where
  behind-space : (g c : ℕ) (l : List ℕ) → space c ≡ true → behind f g (before c l) ≡ behind f (g + f c) l
  unfolding behind
  behind-space g c [] e = ap (behind f g) (cond-true (space c) [] (c ∷ []) e)
  behind-space g c (d ∷ ds) e = omega arith

  behind-other : (g c : ℕ) (l : List ℕ) → space c ≡ false → behind f g (before c l) ≡ (g + f c) + behind f 0 l
  unfolding behind
  behind-other g c [] e = ap (behind f g) (cond-false (space c) [] (c ∷ []) e) ∙ (omega arith)
  behind-other g c (d ∷ ds) e = omega arith

  going : ℕ → ℕ → Option Trimmed
  going a g = Some (record { sum = a; gap = g })

  -- once it has started
  runs_on : (cs : List ℕ) (a g : ℕ) → a + (g + total f cs) < 2 ^ 64 → sum_of (run (figure f) (going a g) cs) ≡ a + behind f g (trim_end cs)
  unfolding figure behind going
  runs_on [] a g h = omega arith
  runs_on (c ∷ cs) a g h = go (cases_Bool (space c)) (runs_on cs a (g + f c)) (runs_on cs ((a + g) + f c) 0)
    where
      go : (space c ≡ true) ⊎ (space c ≡ false)
          → (a + ((g + f c) + total f cs) < 2 ^ 64 → sum_of (run (figure f) (going a (g + f c)) cs) ≡ a + behind f (g + f c) (trim_end cs))
          → (((a + g) + f c) + (0 + total f cs) < 2 ^ 64 → sum_of (run (figure f) (going ((a + g) + f c) 0) cs) ≡ ((a + g) + f c) + behind f 0 (trim_end cs))
          → sum_of (run (figure f) (figure f (going a g) c) cs) ≡ a + behind f g (trim_end (c ∷ cs))
      go (inl e) x y =
          let k : plus g (f c) ≡ g + f c = omega arith in
          ap (λ b. sum_of (run (figure f) (added (going a g) b (f c)) cs)) e ∙ (ap (λ n. sum_of (run (figure f) (going a n) cs)) k ∙ (x (omega arith) ∙ ap (λ n. a + n) (sym (behind-space g c (trim_end cs) e))))
      go (inr e) x y =
          let k : plus (plus a g) (f c) ≡ (a + g) + f c = omega arith in
          ap (λ b. sum_of (run (figure f) (added (going a g) b (f c)) cs)) e ∙ (ap (λ n. sum_of (run (figure f) (going n 0) cs)) k ∙ (y (omega arith) ∙ (omega (arith, behind-other g c (trim_end cs) e))))

  behind-none : (l : List ℕ) → behind f 0 l ≡ total f l
  unfolding behind
  behind-none [] = refl
  behind-none (d ∷ ds) = omega arith

  -- from the start
  sums : (cs : List ℕ) → total f cs < 2 ^ 64 → sum_of (run (figure f) None cs) ≡ total f (trim cs)
  unfolding figure going
  sums [] h = refl
  sums (c ∷ cs) h = go (cases_Bool (space c)) (sums cs)
    where
      go : (space c ≡ true) ⊎ (space c ≡ false) → (total f cs < 2 ^ 64 → sum_of (run (figure f) None cs) ≡ total f (trim cs)) → sum_of (run (figure f) (figure f None c) cs) ≡ total f (trim (c ∷ cs))
      go (inl e) x =
          ap (λ b. sum_of (run (figure f) (added None b (f c)) cs)) e ∙ (x (omega arith) ∙ ap (λ l. total f (trim_end l)) (sym (cond-true (space c) (trim_front cs) (c ∷ cs) e)))
      go (inr e) x =
          let b : total f (before c (trim_end cs)) ≡ (0 + f c) + behind f 0 (trim_end cs) = sym (behind-none (before c (trim_end cs))) ∙ behind-other 0 c (trim_end cs) e in
          ap (λ b. sum_of (run (figure f) (added None b (f c)) cs)) e ∙ (runs_on cs (f c) 0 (omega arith) ∙ ((omega (arith, b)) ∙ ap (λ l. total f (trim_end l)) (sym (cond-false (space c) (trim_front cs) (c ∷ cs) e))))

  stays : (cs : List ℕ) (a g : ℕ) → is_some (run (figure f) (going a g) cs) ≡ true
  unfolding figure going
  stays [] a g = refl
  stays (c ∷ cs) a g = go (cases_Bool (space c)) (λ g. stays cs a g) (λ a. stays cs a 0)
    where
      go : (space c ≡ true) ⊎ (space c ≡ false) → ((g : ℕ) → is_some (run (figure f) (going a g) cs) ≡ true) → ((a : ℕ) → is_some (run (figure f) (going a 0) cs) ≡ true)
          → is_some (run (figure f) (figure f (going a g) c) cs) ≡ true
      go (inl e) x y = ap (λ b. is_some (run (figure f) (added (going a g) b (f c)) cs)) e ∙ x (plus g (f c))
      go (inr e) x y = ap (λ b. is_some (run (figure f) (added (going a g) b (f c)) cs)) e ∙ y (plus (plus a g) (f c))

  -- a text that has begun is not blank
  before-some : (c : ℕ) (l : List ℕ) → space c ≡ false → is_nil (before c l) ≡ false
  before-some c [] e = ap is_nil (cond-false (space c) [] (c ∷ []) e)
  before-some c (d ∷ ds) e = refl

  starts : (cs : List ℕ) → not (is_some (run (figure f) None cs)) ≡ blank cs
  unfolding figure going
  starts [] = refl
  starts (c ∷ cs) = go (cases_Bool (space c)) (starts cs)
    where
      go : (space c ≡ true) ⊎ (space c ≡ false) → not (is_some (run (figure f) None cs)) ≡ blank cs → not (is_some (run (figure f) (figure f None c) cs)) ≡ blank (c ∷ cs)
      go (inl e) x =
          ap (λ b. not (is_some (run (figure f) (added None b (f c)) cs))) e ∙ (x ∙ ap (λ l. is_nil (trim_end l)) (sym (cond-true (space c) (trim_front cs) (c ∷ cs) e)))
      go (inr e) x =
          ap (λ b. not (is_some (run (figure f) (added None b (f c)) cs))) e ∙ (ap not (stays cs (f c) 0) ∙ (sym (before-some c (trim_end cs) e) ∙ ap (λ l. is_nil (trim_end l)) (sym (cond-false (space c) (trim_front cs) (c ∷ cs) e))))

-- each figure of the machine runs by itself
run-chars : (cs : List ℕ) (m : Trim) → (run trim_step m cs).chars ≡ run (figure weight) m.chars cs
unfolding figure
run-chars [] m = refl
run-chars (c ∷ cs) m = run-chars cs (trim_step m c)

run-bytes : (cs : List ℕ) (m : Trim) → (run trim_step m cs).bytes ≡ run (figure len_utf8) m.bytes cs
unfolding figure
run-bytes [] m = refl
run-bytes (c ∷ cs) m = run-bytes cs (trim_step m c)

pub trims : Trims (record { chars = None; bytes = None })
trims cs h =
    let new : Trim = record { chars = None; bytes = None } in
    let few : total weight cs < 2 ^ 64 = omega (arith, total-le weight len_utf8 weight-width cs) in
    (ap sum_of (run-chars cs new) ∙ sums weight cs few, ap sum_of (run-bytes cs new) ∙ sums len_utf8 cs h, ap (λ m. not (is_some m)) (run-chars cs new) ∙ starts weight cs)
