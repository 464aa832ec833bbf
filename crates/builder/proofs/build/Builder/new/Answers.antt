use Rattle.std.proofs.Common.{◌≡◌, ◌<◌, true, [], length, sym, subst, arith}
use Rattle.builder.specs.State.{State}
use Rattle.builder.specs.Sound.{sound}
use Rattle.builder.specs.Law.{Law}
use Rattle.builder.proofs.Begun.{begun-sound, begun-law}
use Rattle.builder.proofs.build.Builder.new.Goals as goal

pub invariant_of-result : goal.invariant_of-result
invariant_of-result c =
    let xs = c.args.first.now in
    let some : 0 < length xs = omega arith in
    record { sound = subst (λ (s : State). sound s ≡ true) (sym c.begin.ensures) (begun-sound [] [] xs some) }

pub returns : goal.returns
returns c =
    let xs = c.args.first.now in
    let some : 0 < length xs = omega arith in
    record { state = c.begin.ensures; law = λ es. subst (λ (s : State). Law s es) (sym c.begin.ensures) (begun-law [] [] xs some es) }
