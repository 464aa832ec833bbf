-- What a sound state says, part by part.
use Rattle.std.proofs.Common.{◌≡◌, ℕ, zero, suc, ◌+◌, ◌<◌, ◌≤◌, Bool, true, false, not, ◌||◌, eqb, ltb, leb, length, get_or, Some, None, Option, refl, ap, ◌∙◌, arith, length-take-le, get_or-take}
use Rattle.std.proofs.lemmas.Bool.Decides.{nat_tests}
use Rattle.std.proofs.lemmas.Bool.{and_parts, and_from, leb-true, ltb-true, eqb-true, eq-eqb}
use Rattle.table.specs.Table.{Table, node_at}
use Rattle.table.specs.Checks.{each, is_parent_code, accepts}
use Rattle.table.specs.Links.{depth_at, deepest}
use Rattle.table.proofs.Each.{each_at}
use Rattle.table.proofs.Accepted.{Accepted, accepted}
use Rattle.linked.specs.Records.{no_linked, all_linked}
use Rattle.linked.proofs.Lists.{length-records, node_at_lem}
use Rattle.builder.specs.State.{State, used_nodes, used_attrs, used_bytes, used_table}
use Rattle.builder.specs.After.{open_node}
use Rattle.builder.specs.Sound.{deeper_after, last_ok, fresh_ok, sound}

pub each_from : (p : ℕ → Bool) (n : ℕ) → ((k : ℕ) → k < n → p k ≡ true) → each n p ≡ true
each_from p zero h = refl
each_from p (suc n) h = and_from (p n) (each n p) (h n (omega arith)) (each_from p n (λ k l. h k (omega arith)))

-- each of the first n nodes that stands after p is deeper
abbrev pub Deeper : Table → ℕ → ℕ → Type 0
Deeper t n p = (j : ℕ) → p < j → j < n → depth_at t p < depth_at t j

deeper-is : (t : Table) (n p : ℕ) → deeper_after t n p ≡ true → Deeper t n p
deeper-is t n p h j a b = let e = each_at (λ j. leb j p || ltb (depth_at t p) (depth_at t j)) n j b h in grind (arith, nat_tests)

is-deeper : (t : Table) (n p : ℕ) → Deeper t n p → deeper_after t n p ≡ true
is-deeper t n p h = each_from (λ j. leb j p || ltb (depth_at t p) (depth_at t j)) n (λ j b. let d = h j in grind (arith, nat_tests, d))

-- the last child of p
abbrev pub Last : Table → ℕ → ℕ → Option ℕ → Type 0
Last t n p None = p + 1 ≡ n
Last t n p (Some q) = (p < q) × (q < n) × (depth_at t q ≡ depth_at t p + 1) × Deeper t n q

last-is : (t : Table) (n p : ℕ) (o : Option ℕ) → last_ok t n p o ≡ true → Last t n p o
last-is t n p None h = eqb-true (p + 1) n h
last-is t n p (Some q) h =
    let d = deeper-is t n q in grind (arith, nat_tests, d)

is_last : (t : Table) (n p : ℕ) (o : Option ℕ) → Last t n p o → last_ok t n p o ≡ true
is_last t n p None h = eq-eqb (p + 1) n h
is_last t n p (Some q) h = let d = is-deeper t n q h.3 in grind (arith, nat_tests)

-- an element that was just given
abbrev pub Fresh : Table → ℕ → Option ℕ → Bool → Type 0
Fresh t p o false = Unit {0}
Fresh t p o true = (o ≡ None) × ((node_at t p).kind ≡ 4)

fresh-is : (t : Table) (p : ℕ) (o : Option ℕ) (f : Bool) → (not f || fresh_ok t p o) ≡ true → Fresh t p o f
fresh-is t p o false h = tt
fresh-is t p None true h = (refl, eqb-true _ _ h)
fresh-is t p (Some q) true h = cc

is-fresh : (t : Table) (p : ℕ) (o : Option ℕ) (f : Bool) → Fresh t p o f → (not f || fresh_ok t p o) ≡ true
is-fresh t p o false h = refl
is-fresh t p o true h = ap (fresh_ok t p) h.0 ∙ eq-eqb _ _ h.1

pub record Sound (s : State) : Type 0 where
  pub nodes : s.used.nodes ≤ length s.nodes
  pub attrs : s.used.attrs ≤ length s.attrs
  pub bytes : s.used.bytes ≤ length s.bytes
  pub accepted : accepts (used_table s) ≡ true
  pub linked : all_linked (used_nodes s) (used_table s) ≡ true
  pub height : s.height ≡ deepest (used_table s).nodes
  pub inside : s.current < s.used.nodes
  pub parent : is_parent_code (node_at (used_table s) s.current).kind ≡ true
  pub under : Deeper (used_table s) s.used.nodes s.current
  pub last : Last (used_table s) s.used.nodes s.current s.last
  pub fresh : Fresh (used_table s) s.current s.last s.fresh

pub sound-is : (s : State) → sound s ≡ true → Sound s
sound-is s h =
    let t = used_table s in
    let n = s.used.nodes in
    let p = s.current in
    let a = and_parts (leb n (length s.nodes)) _ h in
    let b = and_parts (leb s.used.attrs (length s.attrs)) _ a.1 in
    let c = and_parts (leb s.used.bytes (length s.bytes)) _ b.1 in
    let d = and_parts (accepts t) _ c.1 in
    let e = and_parts (all_linked (used_nodes s) t) _ d.1 in
    let f = and_parts (eqb s.height (deepest t.nodes)) _ e.1 in
    let g = and_parts (ltb p n) _ f.1 in
    let i = and_parts (is_parent_code (node_at t p).kind) _ g.1 in
    let j = and_parts (deeper_after t n p) _ i.1 in
    let k = and_parts (last_ok t n p s.last) _ j.1 in
    record {
      nodes = leb-true _ _ a.0;
      attrs = leb-true _ _ b.0;
      bytes = leb-true _ _ c.0;
      accepted = d.0;
      linked = e.0;
      height = eqb-true _ _ f.0;
      inside = ltb-true _ _ g.0;
      parent = i.0;
      under = deeper-is t n p j.0;
      last = last-is t n p s.last k.0;
      fresh = fresh-is t p s.last s.fresh k.1;
    }

pub is-sound : (s : State) → Sound s → sound s ≡ true
is-sound s h =
    let t = used_table s in
    let n = s.used.nodes in
    let p = s.current in
    let under = is-deeper t n p h.under in
    let last = is_last t n p s.last h.last in
    let fresh = is-fresh t p s.last s.fresh h.fresh in
    grind (arith, nat_tests)

-- the records that are used
module _ (s : State) (h : Sound s) where
  pub used-nodes : length (used_nodes s) ≡ s.used.nodes
  used-nodes = length-take-le s.used.nodes s.nodes h.nodes

  pub table-nodes : length (used_table s).nodes ≡ s.used.nodes
  table-nodes = length-records (used_nodes s) ∙ used-nodes

  pub used-attrs : length (used_attrs s) ≡ s.used.attrs
  used-attrs = length-take-le s.used.attrs s.attrs h.attrs

  pub used-bytes : length (used_bytes s) ≡ s.used.bytes
  used-bytes = length-take-le s.used.bytes s.bytes h.bytes

  pub table-accepted : Accepted (used_table s)
  table-accepted = accepted (used_table s) h.accepted

  -- the record of a node that is used, in the table and in the slice
  pub node_in_lem : (i : ℕ) → i < s.used.nodes → node_at (used_table s) i ≡ (get_or s.nodes i no_linked).node
  node_in_lem i l = node_at_lem (used_nodes s) (used_attrs s) (used_bytes s) i ∙ ap (λ x. x.node) (get_or-take s.used.nodes s.nodes i no_linked l)

  pub open_in : node_at (used_table s) s.current ≡ (open_node s).node
  open_in = node_in_lem s.current h.inside
