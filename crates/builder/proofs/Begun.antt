-- A builder that was just given its records is sound, and the law holds of it.
use Rattle.std.proofs.Common.{◌≡◌, ℕ, ◌<◌, true, List, [], ◌∷◌, length, Some, None, refl, arith}
use Rattle.std.proofs.lemmas.Bool.Decides.{nat_tests}
use Rattle.table.specs.declared.record.AttrRecord.{AttrRecord}
use Rattle.linked.specs.declared.node.LinkedNode.{LinkedNode}
use Rattle.builder.specs.declared.refusal.BuildRefusal.TheVariants.{Full}
use Rattle.builder.specs.Events.{Event}
use Rattle.builder.specs.Sound.{sound}
use Rattle.builder.specs.Law.{begun, begin_answer, Law}
use Rattle.builder.proofs.Sound.{sound-is}
use Rattle.builder.proofs.Law.{Told, law}

module _ (attrs : List AttrRecord) (bytes : List ℕ) where
  pub begun-sound : (nodes : List LinkedNode) → 0 < length nodes → sound (begun nodes attrs bytes) ≡ true
  begun-sound [] l = absurd (omega arith)
  begun-sound (x ∷ xs) l = grind (arith, nat_tests)

  begun-told : (nodes : List LinkedNode) → 0 < length nodes → Told (begun nodes attrs bytes) []
  begun-told [] l = absurd (omega arith)
  begun-told (x ∷ xs) l = record { rows = refl; depth = refl; fresh = refl }

  pub begun-law : (nodes : List LinkedNode) → 0 < length nodes → (es : List Event) → Law (begun nodes attrs bytes) es
  begun-law nodes l = law (begun nodes attrs bytes) (sound-is _ (begun-sound nodes l)) (begun-told nodes l)

-- records are refused exactly where there is no first one
pub begin-full : (nodes : List LinkedNode) → length nodes ≡ 0 → Some Full ≡ begin_answer nodes
begin-full [] e = refl
begin-full (x ∷ xs) e = absurd (omega arith)

pub begin-free : (nodes : List LinkedNode) → (length nodes ≡ 0 → ⊥) → None ≡ begin_answer nodes
begin-free [] n = absurd (n refl)
begin-free (x ∷ xs) n = refl
