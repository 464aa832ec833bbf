-- Which parts a node has, and which bytes a part has.
use Rattle.std.proofs.Common.{◌≡◌, ℕ, zero, suc, ◌<◌, ◌≤◌, Bool, true, false, ltb, ◌⊎◌, List, [], ◌∷◌, length, is_some, Some, None, Option, sym, refl, ap, ◌∙◌, inl, inr, arith}
use Rattle.std.specs.List.{slice_get}
use Rattle.std.proofs.lemmas.Option.{slice_get_past}
use Rattle.std.proofs.lemmas.Bool.{lt-ltb, le-ltb, both_ways, cases_lt}
use Rattle.page.specs.declared.kind.Part.{Part}
use Rattle.page.specs.declared.kind.Part.TheVariants.{Content, Name, Value}
use Rattle.page.specs.Forest.{Forest, none, node, find, has, head_of, count_of, name_in, value_in, part_in, part_of, length_in, byte_in}
use Rattle.page.proofs.Find.{at, find_absent}

-- a place below the length has an item, and no other
pub nth-within : {X : Type 0} (xs : List X) (i : ℕ) → is_some (slice_get xs i) ≡ ltb i (length xs)
nth-within [] i = sym (le-ltb i 0 (omega arith))
nth-within (x ∷ xs) zero = sym (lt-ltb 0 (suc (length xs)) (omega arith))
nth-within (x ∷ xs) (suc i) = nth-within xs i ∙ go (cases_lt i (length xs))
  where
    go : (i < length xs) ⊎ (length xs ≤ i) → ltb i (length xs) ≡ ltb (suc i) (suc (length xs))
    go (inl h) = lt-ltb i (length xs) h ∙ sym (lt-ltb (suc i) (suc (length xs)) (omega arith))
    go (inr h) = le-ltb i (length xs) h ∙ sym (le-ltb (suc i) (suc (length xs)) (omega arith))

-- the bytes of a part are those below its length
pub byte-within : (o : Option (List ℕ)) (r i : ℕ) → Some r ≡ length_in o → i < r → is_some (byte_in o i) ≡ true
byte-within None r i e h = absurd (let z : ◌≡◌ {A = ℕ} 0 1 = cc in omega arith)
byte-within (Some xs) r i e h = nth-within xs i ∙ lt-ltb i (length xs) (let z : r ≡ length xs = cc in omega arith)

pub byte_past : (o : Option (List ℕ)) (r i : ℕ) → Some r ≡ length_in o → r ≤ i → byte_in o i ≡ None
byte_past None r i e h = refl
byte_past (Some xs) r i e h = slice_get_past xs i (let z : r ≡ length xs = cc in omega arith)

is_name : (o : Option (List ℕ × List ℕ)) → is_some (name_in o) ≡ is_some o
is_name None = refl
is_name (Some x) = refl

is-value : (o : Option (List ℕ × List ℕ)) → is_some (value_in o) ≡ is_some o
is-value None = refl
is-value (Some x) = refl

-- every node has content, and a name and a value for each attribute
pub has-content : (t : Forest) (n : ℕ) → has t n ≡ true → is_some (part_of (find t n) Content) ≡ true
has-content t n h = ap (λ f. is_some (part_of f Content)) (at t n h).is

pub has-name : (f : Forest) (r j : ℕ) → Some r ≡ count_of f → is_some (part_of f (Name j)) ≡ ltb j r
has-name none r j e = absurd (let z : ◌≡◌ {A = ℕ} 0 1 = cc in omega arith)
has-name (node m k c a kids rest) r j e = is_name (slice_get a j) ∙ (nth-within a j ∙ (let z : length a ≡ r = cc in ap (ltb j) z))

pub has_value : (f : Forest) (r j : ℕ) → Some r ≡ count_of f → is_some (part_of f (Value j)) ≡ ltb j r
has_value none r j e = absurd (let z : ◌≡◌ {A = ℕ} 0 1 = cc in omega arith)
has_value (node m k c a kids rest) r j e = is-value (slice_get a j) ∙ (nth-within a j ∙ (let z : length a ≡ r = cc in ap (ltb j) z))

-- what has a part, or a byte of one, is a node
some-head : (f : Forest) (p : Part) → is_some (part_of f p) ≡ true → is_some (head_of f) ≡ true
some-head none p h = h
some-head (node m k c a kids rest) p h = refl

pub part-has : (t : Forest) (n : ℕ) (p : Part) → is_some (part_of (find t n) p) ≡ true → has t n ≡ true
part-has t n p h = go (has t n) refl
  where
    go : (b : Bool) → has t n ≡ b → b ≡ true
    go true e = refl
    go false e = absurd (both_ways _ (ap (λ f. is_some (part_of f p)) (find_absent t n e)) h)

pub byte-part : (o : Option (List ℕ)) (i : ℕ) → is_some (byte_in o i) ≡ true → is_some o ≡ true
byte-part None i h = h
byte-part (Some xs) i h = refl

-- a node without attributes has no part but its content
pub bare-part : (c : List ℕ) (p : Part) → is_some (part_in c [] p) ≡ true → part_in c [] p ≡ Some c
bare-part c Content h = refl
bare-part c (Name j) h = absurd (both_ways false refl h)
bare-part c (Value j) h = absurd (both_ways false refl h)
