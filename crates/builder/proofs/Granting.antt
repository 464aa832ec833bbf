-- An event that is answered yes keeps a state sound.
use Rattle.std.proofs.Common.{◌≡◌, ℕ, ◌+◌, ◌<◌, Bool, true, false, ◌&&◌, leb, List, [], ◌∷◌, length, None, refl, subst, arith}
use Rattle.std.proofs.lemmas.Bool.Decides.{nat_tests}
use Rattle.std.proofs.lemmas.Bool.{and_parts, leb-true, ltb-true}
use Rattle.std.proofs.lemmas.Grind.{common_steps}
use Rattle.utf8.specs.Table.{well_formed}
use Rattle.page.specs.declared.kind.NodeKind.{NodeKind}
use Rattle.page.specs.declared.kind.NodeKind.TheVariants.{Doctype, Text, Comment, Element}
use Rattle.page.specs.Kinds.{is_document}
use Rattle.builder.specs.declared.refusal.BuildRefusal.{BuildRefusal}
use Rattle.builder.specs.declared.refusal.BuildRefusal.TheVariants.{Misplaced, Full, TooDeep, IllFormed}
use Rattle.builder.specs.State.{State, used_table}
use Rattle.builder.specs.Events.{Event, element, attribute, text, comment, doctype, close}
use Rattle.builder.specs.After.{next_depth, node_free, attr_free, bytes_free, narrow, of_node, first_no, answer, with_node, granted}
use Rattle.builder.specs.Sound.{sound}
use Rattle.builder.proofs.Sound.{Last, Fresh, Sound, sound-is, is-sound}
use Rattle.builder.proofs.Adding.{Granted, added-sound, opened-sound}
use Rattle.builder.proofs.Attributing.{AttrGranted, attributed-sound}
use Rattle.builder.proofs.Closing.{closed-sound}

three-yes : (a b c : Bool) (x y z : BuildRefusal) → first_no ((a, x) ∷ (b, y) ∷ (c, z) ∷ []) ≡ None → (a ≡ true) × (b ≡ true) × (c ≡ true)
three-yes a b c x y z h = grind (arith, common_steps)

pub node-granted : (s : State) (k : NodeKind) (c : List ℕ) → is_document k ≡ false → first_no (of_node s c) ≡ None → Granted s k c
node-granted s k c inner h =
    let a = three-yes (node_free s && bytes_free s (length c)) (leb (next_depth s) 62) (well_formed c) Full TooDeep IllFormed h in
    grind (arith, nat_tests)

module _ (s : State) (n v : List ℕ) (e : answer s (attribute n v) ≡ None) where
  yeses : (s.fresh ≡ true) × ((narrow n && (narrow v && (attr_free s && bytes_free s (length n + length v)))) ≡ true) × ((well_formed n && well_formed v) ≡ true)
  yeses = three-yes s.fresh (narrow n && (narrow v && (attr_free s && bytes_free s (length n + length v)))) (well_formed n && well_formed v) Misplaced Full IllFormed e

  -- an attribute is given to an element that was just given
  pub attr-fresh : s.fresh ≡ true
  attr-fresh = yeses.0

  -- the lengths of its name and value fit their fields
  pub attr-narrow : (length n < 65536) × (length v < 65536)
  attr-narrow = let y = yeses in grind (arith, nat_tests)

  pub attr-granted : Sound s → AttrGranted s n v
  attr-granted h =
      let r = and_parts (narrow v) _ (and_parts (narrow n) _ yeses.1).1 in
      let w = and_parts (attr_free s) _ r.1 in
      let x = ltb-true _ _ w.0 in
      let y = leb-true _ _ w.1 in
      let f : Fresh (used_table s) s.current s.last true = subst (Fresh (used_table s) s.current s.last) attr-fresh h.fresh in
      let l : Last (used_table s) s.used.nodes s.current None = subst (Last (used_table s) s.used.nodes s.current) f.0 h.last in
      let p = and_parts (well_formed n) (well_formed v) yeses.2 in
      record { free = omega arith; few = omega arith; fits = omega arith; short = omega arith; name_formed = p.0; value_formed = p.1; element = f.1; childless = f.0; end = l }

pub some-open : (s : State) → answer s close ≡ None → s.current ≡ 0 → ⊥
some-open s h = grind (arith, nat_tests)

pub granted-sound : (s : State) (e : Event) → Sound s → answer s e ≡ None → Sound (granted s e)
granted-sound s (element c) h a = opened-sound s Element c h (node-granted s Element c refl a) refl
granted-sound s (attribute n v) h a = attributed-sound s n v h (attr-granted s n v a h)
granted-sound s (text c) h a = added-sound s Text c h (node-granted s Text c refl a)
granted-sound s (comment c) h a = added-sound s Comment c h (node-granted s Comment c refl a)
granted-sound s (doctype c) h a = added-sound s Doctype c h (node-granted s Doctype c refl a)
granted-sound s close h a = closed-sound s h (some-open s a)

pub stays-sound : (s : State) (e : Event) → sound s ≡ true → answer s e ≡ None → sound (granted s e) ≡ true
stays-sound s e h a = is-sound (granted s e) (granted-sound s e (sound-is s h) a)

pub node-sound : (s : State) (k : NodeKind) (c : List ℕ) → is_document k ≡ false → sound s ≡ true → first_no (of_node s c) ≡ None → sound (with_node s k c) ≡ true
node-sound s k c inner h a = is-sound (with_node s k c) (added-sound s k c (sound-is s h) (node-granted s k c inner a))
