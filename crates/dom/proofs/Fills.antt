-- What a filled table holds.
use Rattle.std.proofs.Common.{◌≡◌, ℕ, ◌<◌, true, false, ◌||◌, eqb, ◌⊎◌, List, length, get_or, set, Some, sym, refl, ap, ◌∙◌, inl, inr, arith}
use Rattle.std.proofs.lemmas.List.{length-set, get_or-set_same, get_or-set_other}
use Rattle.std.proofs.lemmas.Bool.{eqb-true, eqb-false, or_parts, cases_Bool, both_ways}
use Rattle.page.specs.Forest.{Forest, none, node, find, has, head_of, kids_of, rest_of}
use Rattle.page.specs.Kept.{Unique}
use Rattle.page.proofs.Find.{find_first, find-under, find-beside}
use Rattle.dom.specs.declared.under.Under.{Under}
use Rattle.dom.specs.Under.{under_of}
use Rattle.dom.specs.Fill.{fill_all, Measured}

pub length-fill : (f : Forest) (xs : List Under) → length (fill_all f xs) ≡ length xs
length-fill none xs = refl
length-fill (node m k c a kids rest) xs = length-fill rest (set (fill_all kids xs) m (under_of kids)) ∙ (length-set (fill_all kids xs) m (under_of kids) ∙ length-fill kids xs)

-- the entries of other numbers stay
pub fill-other : (f : Forest) (xs : List Under) (n : ℕ) (d : Under) → has f n ≡ false → get_or (fill_all f xs) n d ≡ get_or xs n d
fill-other none xs n d h = refl
fill-other (node m k c a kids rest) xs n d h =
    let p = or_parts (eqb m n) (has kids n || has rest n) h in
    let q = or_parts (has kids n) (has rest n) p.1 in
    fill-other rest (set (fill_all kids xs) m (under_of kids)) n d q.1
    ∙ (get_or-set_other (fill_all kids xs) m n (under_of kids) d (λ e. eqb-false m n p.0 (sym e)) ∙ fill-other kids xs n d q.0)

pub fill-at : (f : Forest) → Unique f → (xs : List Under) (n : ℕ) (d : Under) → has f n ≡ true → n < length xs → get_or (fill_all f xs) n d ≡ under_of (kids_of (find f n))
fill-at none u xs n d h l = absurd (both_ways false refl h)
fill-at (node m k c a kids rest) u xs n d h l =
    go (cases_Bool (eqb m n)) (cases_Bool (has kids n)) (fill-at kids u.3 xs n d) (fill-at rest u.4 (set (fill_all kids xs) m (under_of kids)) n d)
  where
    back : has rest n ≡ false → get_or (fill_all rest (set (fill_all kids xs) m (under_of kids))) n d ≡ get_or (set (fill_all kids xs) m (under_of kids)) n d
    back e = fill-other rest (set (fill_all kids xs) m (under_of kids)) n d e

    go : (eqb m n ≡ true) ⊎ (eqb m n ≡ false) → (has kids n ≡ true) ⊎ (has kids n ≡ false)
        → (has kids n ≡ true → n < length xs → get_or (fill_all kids xs) n d ≡ under_of (kids_of (find kids n)))
        → (has rest n ≡ true → n < length (set (fill_all kids xs) m (under_of kids)) → get_or (fill_all rest (set (fill_all kids xs) m (under_of kids))) n d ≡ under_of (kids_of (find rest n)))
        → get_or (fill_all rest (set (fill_all kids xs) m (under_of kids))) n d ≡ under_of (kids_of (find (node m k c a kids rest) n))
    go (inl e) f x y =
        let same = eqb-true m n e in
        let in-it : n < length (fill_all kids xs) = omega (arith, length-fill kids xs) in
        back (ap (has rest) (sym same) ∙ u.1)
        ∙ (ap (λ j. get_or (set (fill_all kids xs) j (under_of kids)) n d) same ∙ (get_or-set_same (fill_all kids xs) n (under_of kids) d in-it ∙ sym (ap (λ g. under_of (kids_of g)) (find_first (node m k c a kids rest) n (ap Some same)).0)))
    go (inr e) (inl f) x y =
        back (u.2 n f) ∙ (get_or-set_other (fill_all kids xs) m n (under_of kids) d (λ z. eqb-false m n e (sym z)) ∙ (x f l ∙ sym (ap (λ g. under_of (kids_of g)) (find-under m k c a kids rest n u f))))
    go (inr e) (inr f) x y =
        let g : has rest n ≡ true = rw (e, f) at h in
        y g (omega (arith, length-set (fill_all kids xs) m (under_of kids), length-fill kids xs)) ∙ sym (ap (λ g. under_of (kids_of g)) (find-beside m k c a kids rest n u g))

pub fill-parts : (f : Forest) (n : ℕ) (xs : List Under) → head_of f ≡ Some n → fill_all f xs ≡ fill_all (rest_of f) (set (fill_all (kids_of f) xs) n (under_of (kids_of f)))
fill-parts none n xs h = absurd (let z : ◌≡◌ {A = ℕ} 0 1 = cc in omega arith)
fill-parts (node m k c a kids rest) n xs h = let e : m ≡ n = cc in ap (λ j. fill_all rest (set (fill_all kids xs) j (under_of kids))) e

-- a filled table measures the whole tree
pub fill-measured : (t : Forest) → Unique t → (xs : List Under) → Measured t (fill_all t xs)
fill-measured t u xs n d h l = fill-at t u xs n d h (omega (arith, length-fill t xs))
