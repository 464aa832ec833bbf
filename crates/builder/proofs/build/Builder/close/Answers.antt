use Rattle.std.proofs.Common.{◌≡◌, ℕ, true, false, Some, sym, ap, ◌∙◌, subst, unwrap_or}
use Rattle.builder.specs.State.{State}
use Rattle.builder.specs.Events.{close}
use Rattle.builder.specs.After.{unless, closed}
use Rattle.builder.specs.Stored.{state_in}
use Rattle.builder.specs.Sound.{sound}
use Rattle.builder.proofs.Granting.{stays-sound}
use Rattle.builder.proofs.Rooms.{refused-close, granted-close}
use Rattle.builder.proofs.build.Builder.close.Goals as goal

-- the state with another open node
abbrev at : State → ℕ → State
at s n = record { nodes = s.nodes; attrs = s.attrs; bytes = s.bytes; used = s.used; height = s.height; current = n; last = Some s.current; fresh = false }

pub returns-in_default : goal.returns-in_default
returns-in_default c =
    let b = c.args.self.now in
    let s = state_in b.store in
    let a = sym (refused-close s b.sound c.in_default.not-Some) in
    record { answer = a; after = ap (λ o. unless o s (closed s)) a }

pub invariant_of-self : goal.invariant_of-self
invariant_of-self c =
    let b = c.args.self.now in
    let s = state_in b.store in
    let a = granted-close s c.in-Some.parent b.sound c.in-Some.is in
    let up = c.from-self.ensures ∙ ap (λ o. unwrap_or o 0) (sym c.in-Some.is) in
    record { sound = subst (λ n. sound (at s n) ≡ true) (sym up) (stays-sound s close b.sound a) }

pub returns : goal.returns
returns c =
    let b = c.args.self.now in
    let s = state_in b.store in
    let a = sym (granted-close s c.in-Some.parent b.sound c.in-Some.is) in
    let up = c.from-self.ensures ∙ ap (λ o. unwrap_or o 0) (sym c.in-Some.is) in
    record { answer = a; after = ap (at s) up ∙ ap (λ o. unless o s (closed s)) a }
