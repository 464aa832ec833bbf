-- A sound state that answers yes has the room that adding asks for.
use Rattle.std.proofs.Common.{◌≡◌, ℕ, ◌<◌, true, List, length, Some, None, Option, ◌⊎◌, sym, refl, ap, ◌∙◌, inl, inr, arith, get_or-take}
use Rattle.std.proofs.lemmas.Bool.Decides.{nat_tests}
use Rattle.std.proofs.lemmas.Bool.{cases_eq}
use Rattle.page.specs.declared.kind.NodeKind.TheVariants.{Text}
use Rattle.table.specs.Table.{Table}
use Rattle.table.specs.Links.{depth_at}
use Rattle.table.proofs.Accepted.{laid}
use Rattle.linked.specs.declared.node.LinkedNode.{LinkedNode}
use Rattle.linked.specs.Records.{no_linked}
use Rattle.linked.proofs.Linked.{linked-at}
use Rattle.linked.proofs.Depths.{above-is}
use Rattle.builder.specs.declared.refusal.BuildRefusal.TheVariants.{Misplaced}
use Rattle.builder.specs.State.{State, used_nodes, used_table}
use Rattle.builder.specs.Events.{attribute, close}
use Rattle.builder.specs.After.{open_node, of_node, first_no, answer}
use Rattle.builder.specs.Room.{Below, NodeRoom, AttrRoom}
use Rattle.builder.specs.Sound.{sound}
use Rattle.builder.proofs.Sound.{Last, sound-is, used-nodes, table-nodes, used-attrs, table-accepted, open_in}
use Rattle.builder.proofs.Closing.{has-parent}
use Rattle.builder.proofs.Granting.{node-granted, attr-granted, attr-narrow}

last-below : (t : Table) (n p : ℕ) (o : Option ℕ) → Last t n p o → Below o n
last-below t n p None l = tt
last-below t n p (Some q) l = l.1

pub node-room : (s : State) (c : List ℕ) → sound s ≡ true → first_no (of_node s c) ≡ None → NodeRoom s c
node-room s c ok a =
    let h = sound-is s ok in
    let g = node-granted s Text c refl a in
    record {
      free = g.free;
      few = g.few;
      fits = g.fits;
      short = g.short;
      attrs = omega (arith, used-attrs s h, (table-accepted s h).sizes.few_attrs);
      shallow = g.shallow;
      inside = h.inside;
      last = last-below (used_table s) s.used.nodes s.current s.last h.last;
    }

pub attr-room : (s : State) (n v : List ℕ) → sound s ≡ true → answer s (attribute n v) ≡ None → AttrRoom s n v
attr-room s n v ok a =
    let h = sound-is s ok in
    let g = attr-granted s n v a h in
    let w = attr-narrow s n v a in
    let acc = table-accepted s h in
    let some : s.current < length (used_table s).nodes = omega (arith, h.inside, table-nodes s h) in
    record {
      free = g.free;
      fits = g.fits;
      short = g.short;
      narrow_name = w.0;
      narrow_value = w.1;
      few = omega (arith, (laid (used_table s) s.current (acc.good s.current some).layout).attrs, ap (λ x. x.attrs) (open_in s h), used-attrs s h, g.few);
      inside = omega (arith, h.inside, h.nodes);
    }

pub open-inside : (s : State) → sound s ≡ true → s.current < length s.nodes
open-inside s ok = let h = sound-is s ok in omega (arith, h.inside, h.nodes)

-- a parent stands before its child
pub parent-before : (s : State) (q : ℕ) → sound s ≡ true → (open_node s).parent ≡ Some q → q < s.current
parent-before s q ok e =
    let h = sound-is s ok in
    let t = used_table s in
    let p = s.current in
    let up = (linked-at (used_nodes s) t h.linked p (omega (arith, h.inside, used-nodes s h))).up in
    (above-is t (depth_at t p) p q (sym up ∙ (ap (λ (x : LinkedNode). x.parent) (get_or-take s.used.nodes s.nodes p no_linked h.inside) ∙ e))).before

-- the document alone has no parent
no-parent : (s : State) → sound s ≡ true → ((q : ℕ) → (open_node s).parent ≡ Some q → ⊥) → s.current ≡ 0
no-parent s ok none = go (cases_eq s.current 0)
  where
    go : (s.current ≡ 0) ⊎ (s.current ≡ 0 → ⊥) → s.current ≡ 0
    go (inl z) = z
    go (inr z) = absurd (has-parent s (sound-is s ok) z (nothing (open_node s).parent none))
      where
        nothing : (o : Option ℕ) → ((q : ℕ) → o ≡ Some q → ⊥) → o ≡ None
        nothing None n = refl
        nothing (Some q) n = absurd (n q refl)

-- closing is refused to the document alone
pub refused-close : (s : State) → sound s ≡ true → ((q : ℕ) → (open_node s).parent ≡ Some q → ⊥) → answer s close ≡ Some Misplaced
refused-close s ok none = let z = no-parent s ok none in grind (arith, nat_tests)

pub granted-close : (s : State) (q : ℕ) → sound s ≡ true → (open_node s).parent ≡ Some q → answer s close ≡ None
granted-close s q ok e = let l = parent-before s q ok e in grind (arith, nat_tests)
