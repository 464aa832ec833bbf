use Rattle.std.proofs.Common.{◌≡◌, true, sym, ap, ◌∙◌, subst}
use Rattle.page.specs.declared.kind.NodeKind.TheVariants.{Element}
use Rattle.builder.specs.State.{State}
use Rattle.builder.specs.Events.{element}
use Rattle.builder.specs.After.{with_node, inside, unless}
use Rattle.builder.specs.Stored.{state_in}
use Rattle.builder.specs.Sound.{sound}
use Rattle.builder.proofs.Granting.{stays-sound}
use Rattle.builder.proofs.build.Builder.element.Goals as goal

pub invariant_of-self : goal.invariant_of-self
invariant_of-self c =
    let b = c.args.self.now in
    let s = state_in b.store in
    let name = c.args.name.now in
    let granted = sym c.in_ok-node.ensures.answer in
    let after = c.in_ok-node.ensures.after ∙ ap (λ o. unless o s (with_node s Element name)) granted in
    record { sound = subst (λ (t : State). sound (inside t s.used.nodes) ≡ true) (sym after) (stays-sound s (element name) b.sound granted) }
