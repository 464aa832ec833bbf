use Rattle.std.proofs.Common.{◌≡◌, true, sym, subst}
use Rattle.builder.specs.State.{State}
use Rattle.builder.specs.Events.{attribute}
use Rattle.builder.specs.Stored.{state_in}
use Rattle.builder.specs.Sound.{sound}
use Rattle.builder.proofs.Granting.{stays-sound}
use Rattle.builder.proofs.Rooms.{attr-room}
use Rattle.builder.proofs.build.Builder.attribute.Goals as goal

pub add_attribute-requires : goal.add_attribute-requires
add_attribute-requires c =
    let b = c.args.self.now in
    attr-room (state_in b.store) c.args.name.now c.args.value.now b.sound (sym c.in_ok-ask_attribute.ensures)

pub invariant_of-self : goal.invariant_of-self
invariant_of-self c =
    let b = c.args.self.now in
    record { sound = subst (λ (s : State). sound s ≡ true) (sym c.add_attribute.ensures) (stays-sound (state_in b.store) (attribute c.args.name.now c.args.value.now) b.sound (sym c.in_ok-ask_attribute.ensures)) }
