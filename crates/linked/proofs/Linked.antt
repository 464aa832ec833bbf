-- What it means that the links of every node match the depths.
use Rattle.std.proofs.Common.{◌≡◌, ℕ, ◌<◌, true, false, List, length, get_or, Some, None, Option, sym, refl, ap, ◌∙◌}
use Rattle.std.proofs.lemmas.Bool.{and_parts, and_from, eqb-true, eq-eqb, both_ways}
use Rattle.table.specs.Table.{Table}
use Rattle.table.proofs.Each.{each_at}
use Rattle.linked.specs.declared.node.LinkedNode.{LinkedNode}
use Rattle.linked.specs.Links.{parent_link, child_link, sibling_link, same_link}
use Rattle.linked.specs.Records.{no_linked, links_ok, all_linked}

pub same-link : (a b : Option ℕ) → same_link a b ≡ true → a ≡ b
same-link None None h = refl
same-link None (Some n) h = absurd (both_ways false refl h)
same-link (Some m) None h = absurd (both_ways false refl h)
same-link (Some m) (Some n) h = ap Some (eqb-true m n h)

pub link-same : (a b : Option ℕ) → a ≡ b → same_link a b ≡ true
link-same None b e = ap (same_link None) (sym e)
link-same (Some m) b e = ap (same_link (Some m)) (sym e) ∙ eq-eqb m m refl

-- the links of a node, one by one
pub record Linked (xs : List LinkedNode) (t : Table) (i : ℕ) : Type 0 where
  pub up : (get_or xs i no_linked).parent ≡ parent_link t i
  pub down : (get_or xs i no_linked).first_child ≡ child_link t i
  pub next : (get_or xs i no_linked).next_sibling ≡ sibling_link t i

module _ (xs : List LinkedNode) (t : Table) where
  pub links-are : (i : ℕ) → links_ok xs t i ≡ true → Linked xs t i
  links-are i h =
      let x = get_or xs i no_linked in
      let a = and_parts (same_link x.parent (parent_link t i)) _ h in
      let b = and_parts (same_link x.first_child (child_link t i)) _ a.1 in
      record { up = same-link _ _ a.0; down = same-link _ _ b.0; next = same-link _ _ b.1 }

  pub are-links : (i : ℕ) → Linked xs t i → links_ok xs t i ≡ true
  are-links i l = and_from _ _ (link-same _ _ l.up) (and_from _ _ (link-same _ _ l.down) (link-same _ _ l.next))

  pub linked-at : all_linked xs t ≡ true → (i : ℕ) → i < length xs → Linked xs t i
  linked-at h i l = links-are i (each_at (links_ok xs t) (length xs) i l h)
