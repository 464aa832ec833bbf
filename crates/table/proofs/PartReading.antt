-- Where the parts of accepted records lie.
use Rattle.std.proofs.Common.{◌≡◌, ℕ, zero, suc, ◌+◌, ◌<◌, true, false, List, [], ◌∷◌, length, get_or, is_some, Some, sym, refl, ap, ◌∙◌, arith}
use Rattle.std.specs.List.{slice_get}
use Rattle.std.proofs.lemmas.Bool.{both_ways, ltb-true}
use Rattle.page.specs.declared.kind.Part.{Part}
use Rattle.page.specs.declared.kind.Part.TheVariants.{Content, Name, Value}
use Rattle.page.specs.Forest.{find, count_of, part_of}
use Rattle.page.proofs.Parts.{has-name, has_value, part-has}
use Rattle.table.specs.Table.{Table, node_at, attr_at, tree_of}
use Rattle.table.specs.Stored.{Lies}
use Rattle.table.proofs.Accepted.{Accepted, laid}
use Rattle.table.proofs.Tabulated.{length_part, length-attrs, attr-in}
use Rattle.table.proofs.Reading.{found, inside, part-there, name-there, value_there}

-- an item that is there is the one that is read
pub nth_read : (xs : List ℕ) (i : ℕ) → is_some (slice_get xs i) ≡ true → Some (get_or xs i 0) ≡ slice_get xs i
nth_read [] i h = absurd (both_ways false refl h)
nth_read (x ∷ xs) zero h = refl
nth_read (x ∷ xs) (suc i) h = nth_read xs i h

module _ (t : Table) (acc : Accepted t) (n : ℕ) where
  -- a part that is there is one of a node that is there
  pub part-inside : (p : Part) → is_some (part_of (find (tree_of t) n) p) ≡ true → n < length t.nodes
  part-inside p h = inside t acc n (part-has (tree_of t) n p h)

  module _ (l : n < length t.nodes) where
    counted : Some (node_at t n).attrs ≡ count_of (find (tree_of t) n)
    counted = sym (ap count_of (found t acc n l) ∙ ap Some (length-attrs t (node_at t n).attrs (node_at t n).first))

    pub name-inside : (j : ℕ) → is_some (part_of (find (tree_of t) n) (Name j)) ≡ true → j < (node_at t n).attrs
    name-inside j h = ltb-true j (node_at t n).attrs (sym (has-name (find (tree_of t) n) (node_at t n).attrs j counted) ∙ h)

    pub value-inside : (j : ℕ) → is_some (part_of (find (tree_of t) n) (Value j)) ≡ true → j < (node_at t n).attrs
    value-inside j h = ltb-true j (node_at t n).attrs (sym (has_value (find (tree_of t) n) (node_at t n).attrs j counted) ∙ h)

    pub content-lies : Lies t n Content (node_at t n).start (node_at t n).len
    content-lies = record { bytes = part-there t acc n l Content; long = length_part t acc (node_at t n).start (node_at t n).len (laid t n (acc.good n l).layout).bytes }

    pub name-lies : (j : ℕ) → j < (node_at t n).attrs → let a = attr_at t ((node_at t n).first + j) in Lies t n (Name j) a.start a.name
    name-lies j h =
        let a = attr_at t ((node_at t n).first + j) in
        record { bytes = name-there t acc n l j h; long = length_part t acc a.start a.name (omega (arith, attr-in t acc n l j h)) }

    pub value-lies : (j : ℕ) → j < (node_at t n).attrs → let a = attr_at t ((node_at t n).first + j) in Lies t n (Value j) (a.start + a.name) a.value
    value-lies j h =
        let a = attr_at t ((node_at t n).first + j) in
        record { bytes = value_there t acc n l j h; long = length_part t acc (a.start + a.name) a.value (attr-in t acc n l j h) }
