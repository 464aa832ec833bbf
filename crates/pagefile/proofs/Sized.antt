-- What the checks of the sections say of a file.
use Rattle.std.proofs.Common.{◌≡◌, ℕ, ◌+◌, ◌*◌, ◌≤◌, true, leb, List, [], ◌∷◌, ◌++◌, length, arith, length-drop, length-take}
use Rattle.std.proofs.lemmas.Bool.{and_parts, eqb-true, leb-true}
use Rattle.table.specs.declared.record.Section.{Section}
use Rattle.table.specs.declared.record.Section.TheVariants.{Nodes, Attributes, Bytes}
use Rattle.table.specs.declared.record.Check.TheVariants.{CountPresent, CountInRange, NothingFollows}
use Rattle.table.specs.Checks.{least, most, granted}
use Rattle.table.proofs.Asked.{granted-parts}
use Rattle.pagefile.specs.File.{count, end_at, table_of}
use Rattle.pagefile.specs.Opening.{answer, of_section, of_sections}

pub record Sized (f : List ℕ) : Type 0 where
  pub some_nodes : 1 ≤ count f Nodes
  pub few_nodes : count f Nodes ≤ 4096
  pub few_attrs : count f Attributes ≤ 8192
  pub few_bytes : count f Bytes ≤ 131072
  pub whole : 12 + 16 * count f Nodes + 8 * count f Attributes + count f Bytes ≡ length f

in-range : (f : List ℕ) (s : Section) → granted (answer f) (of_section s) ≡ true → (least s ≤ count f s) × (count f s ≤ most s)
in-range f s h =
    let a = and_parts (answer f (CountPresent s)) _ h in
    let b = and_parts (answer f (CountInRange s)) _ a.1 in
    let c = and_parts (leb (least s) (count f s)) (leb (count f s) (most s)) b.0 in
    (leb-true (least s) (count f s) c.0, leb-true (count f s) (most s) c.1)

pub sized : (f : List ℕ) → granted (answer f) of_sections ≡ true → Sized f
sized f h =
    let a = granted-parts (answer f) (of_section Nodes) (of_section Attributes ++ (of_section Bytes ++ (NothingFollows ∷ []))) h in
    let b = granted-parts (answer f) (of_section Attributes) (of_section Bytes ++ (NothingFollows ∷ [])) a.1 in
    let c = granted-parts (answer f) (of_section Bytes) (NothingFollows ∷ []) b.1 in
    let n = in-range f Nodes a.0 in
    let t = in-range f Attributes b.0 in
    let s = in-range f Bytes c.0 in
    let e = eqb-true (end_at f Bytes) (length f) (and_parts (answer f NothingFollows) true c.1).0 in
    record { some_nodes = n.0; few_nodes = n.1; few_attrs = t.1; few_bytes = s.1; whole = omega (arith, e) }

-- the bytes are all there
pub length-bytes : (f : List ℕ) → Sized f → length (table_of f).bytes ≡ count f Bytes
length-bytes f z = let w = z.whole in simp (length-take, length-drop) (omega arith)
