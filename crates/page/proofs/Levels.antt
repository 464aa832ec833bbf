-- How many levels and nodes a tree can have whose numbers are below a bound.
use Rattle.std.proofs.Common.{◌≡◌, ℕ, zero, suc, ◌+◌, ◌<◌, ◌≤◌, max, Bool, true, false, ◌||◌, eqb, ◌⊎◌, Some, sym, refl, ap, ◌∙◌, inl, inr, arith}
use Rattle.std.proofs.lemmas.Bool.{eqb-true, eq-eqb, ne_eqb, or_from, cases_lt}
use Rattle.page.specs.Forest.{Forest, none, node, has, head_of, kids_of, rest_of, size, levels}
use Rattle.page.specs.Kept.{Unique, Below}

abbrev bit : Bool → ℕ
bit true = 1
bit false = 0

-- how many numbers below a bound pass a test
abbrev count : (ℕ → Bool) → ℕ → ℕ
count f zero = 0
count f (suc b) = bit (f b) + count f b

bit_le : (x : Bool) → bit x ≤ 1
bit_le true = omega arith
bit_le false = omega arith

count-le : (f : ℕ → Bool) (b : ℕ) → count f b ≤ b
count-le f zero = omega arith
count-le f (suc b) = omega (arith, bit_le (f b), count-le f b)

bit_or : (x y : Bool) → (x ≡ true → y ≡ false) → bit (x || y) ≡ bit x + bit y
bit_or true y d = omega (arith, ap bit (d refl))
bit_or false y d = omega arith

count-or : (f g : ℕ → Bool) (b : ℕ) → ((n : ℕ) → f n ≡ true → g n ≡ false) → count (λ n. f n || g n) b ≡ count f b + count g b
count-or f g zero d = refl
count-or f g (suc b) d = omega (arith, bit_or (f b) (g b) (d b), count-or f g b d)

count_none : (m b : ℕ) → b ≤ m → count (eqb m) b ≡ 0
count_none m zero l = refl
count_none m (suc b) l = omega (arith, ap bit (ne_eqb m b (λ e. omega (arith, e, l))), count_none m b (omega arith))

count-one : (m b : ℕ) → m < b → count (eqb m) b ≡ 1
count-one m zero l = absurd (omega arith)
count-one m (suc b) l = go (cases_lt m b) (count-one m b)
  where
    go : (m < b) ⊎ (b ≤ m) → (m < b → count (eqb m) b ≡ 1) → count (eqb m) (suc b) ≡ 1
    go (inl x) f = omega (arith, ap bit (ne_eqb m b (λ e. omega (arith, e, x))), f x)
    go (inr x) f = omega (arith, ap bit (eq-eqb m b (omega arith)), count_none m b x)

size-count : (b : ℕ) (t : Forest) → Unique t → Below b t → size t ≤ count (has t) b
size-count b none u l = omega arith
size-count b (node m k c a kids rest) u l =
    let inner : count (λ n. has kids n || has rest n) b ≡ count (has kids) b + count (has rest) b = count-or (has kids) (has rest) b u.2 in
    let outer : count (has (node m k c a kids rest)) b ≡ count (eqb m) b + count (λ n. has kids n || has rest n) b = count-or (eqb m) (λ n. has kids n || has rest n) b (λ n e. or_from (has kids n) (has rest n) (ap (has kids) (sym (eqb-true m n e)) ∙ u.0) (ap (has rest) (sym (eqb-true m n e)) ∙ u.1)) in
    omega (arith, inner, outer, count-one m b l.0, size-count b kids u.3 l.1, size-count b rest u.4 l.2)

-- a tree has no more nodes than numbers
pub size_below : (b : ℕ) (t : Forest) → Unique t → Below b t → size t ≤ b
size_below b t u l = omega (arith, size-count b t u l, count-le (has t) b)

pub levels-size : (t : Forest) → levels t ≤ size t
levels-size none = omega arith
levels-size (node m k c a kids rest) = omega (arith, levels-size kids, levels-size rest)

pub levels-parts : (f : Forest) (n : ℕ) → head_of f ≡ Some n → levels f ≡ max (suc (levels (kids_of f))) (levels (rest_of f))
levels-parts none n h = absurd (let z : ◌≡◌ {A = ℕ} 0 1 = cc in omega arith)
levels-parts (node m k c a kids rest) n h = refl
