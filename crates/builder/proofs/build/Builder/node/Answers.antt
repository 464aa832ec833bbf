use Rattle.std.proofs.Common.{◌≡◌, true, sym, subst}
use Rattle.builder.specs.State.{State}
use Rattle.builder.specs.Stored.{state_in}
use Rattle.builder.specs.Sound.{sound}
use Rattle.builder.proofs.Granting.{node-sound}
use Rattle.builder.proofs.Rooms.{node-room}
use Rattle.builder.proofs.build.Builder.node.Goals as goal

pub add_node-requires : goal.add_node-requires
add_node-requires c =
    let b = c.args.self.now in
    node-room (state_in b.store) c.args.content.now b.sound (sym c.in_ok-ask_node.ensures)

pub invariant_of-self : goal.invariant_of-self
invariant_of-self c =
    let b = c.args.self.now in
    record { sound = subst (λ (s : State). sound s ≡ true) (sym c.add_node.ensures) (node-sound (state_in b.store) c.args.kind c.args.content.now c.requires b.sound (sym c.in_ok-ask_node.ensures)) }
