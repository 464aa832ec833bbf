-- What a table lists: the first node's figures, and those of its parts.
use Rattle.std.proofs.Common.{◌≡◌, ℕ, ◌<◌, ◌≤◌, ◌||◌, eqb, List, length, get_or, Some, sym, refl, ap, ◌∙◌, subst, arith}
use Rattle.std.proofs.lemmas.Bool.{or_left, or_right}
use Rattle.page.specs.Forest.{Forest, none, node, has, head_of, kids_of, rest_of}
use Rattle.page.specs.Kept.{Unique, Below}
use Rattle.page.proofs.Find.{find_first, find-under, find-beside}
use Rattle.dom.specs.declared.under.Under.{Under}
use Rattle.dom.specs.Under.{under_of}
use Rattle.dom.specs.Fill.{Measured}
use Rattle.figures.specs.Listed.{Listed}

-- a table that is long enough and measures a forest lists its nodes
pub listed : (xs : List Under) (b : ℕ) (t : Forest) → Unique t → Below b t → b ≤ length xs → Measured t xs → Listed xs t
listed xs b none u l long m = tt
listed xs b (node i k c a kids rest) u l long m =
    let own = find_first (node i k c a kids rest) i refl in
    let under : Measured kids xs = λ n d h s. m n d (or_right (eqb i n) (has kids n || has rest n) (or_left (has kids n) (has rest n) h)) s ∙ ap (λ f. under_of (kids_of f)) (find-under i k c a kids rest n u h) in
    let beside : Measured rest xs = λ n d h s. m n d (or_right (eqb i n) (has kids n || has rest n) (or_right (has kids n) (has rest n) h)) s ∙ ap (λ f. under_of (kids_of f)) (find-beside i k c a kids rest n u h) in
    let inside : i < length xs = omega (arith, l.0, long) in
    (inside, (λ d. m i d own.1 inside ∙ ap (λ f. under_of (kids_of f)) own.0), listed xs b kids u.3 l.1 long under, listed xs b rest u.4 l.2 long beside)

-- the first node of what is listed
pub record First (xs : List Under) (f : Forest) (n : ℕ) : Type 0 where
  pub inside : n < length xs
  pub figures : (d : Under) → get_or xs n d ≡ under_of (kids_of f)
  pub kids : Listed xs (kids_of f)
  pub rest : Listed xs (rest_of f)

pub first : (xs : List Under) (f : Forest) (n : ℕ) → head_of f ≡ Some n → Listed xs f → First xs f n
first xs none n h l = cc
first xs (node m k c a kids rest) n h l =
    let same : m ≡ n = cc in
    record { inside = subst (λ j. j < length xs) same l.0; figures = λ d. ap (λ j. get_or xs j d) (sym same) ∙ l.1 d; kids = l.2; rest = l.3 }

-- the number of the first node, and those behind it
pub first_below : (b : ℕ) (f : Forest) (n : ℕ) → head_of f ≡ Some n → Below b f → (n < b) × Below b (rest_of f)
first_below b none n h l = cc
first_below b (node m k c a kids rest) n h l = let same : m ≡ n = cc in (subst (λ j. j < b) same l.0, l.2)

pub below-kids : (b : ℕ) (f : Forest) → Below b f → Below b (kids_of f)
below-kids b none l = l
below-kids b (node m k c a kids rest) l = l.1
