use Rattle.std.proofs.Common.{◌≡◌, ◌<◌, true, length, sym, refl, subst, arith}
use Rattle.std.proofs.lemmas.Bool.{eqb-true, eqb-false}
use Rattle.builder.specs.State.{State}
use Rattle.builder.specs.Sound.{sound}
use Rattle.builder.specs.Law.{Law}
use Rattle.builder.proofs.Begun.{begun-sound, begun-law, begin-full, begin-free}
use Rattle.builder.proofs.build.Builder.over.Goals as goal

pub returns-then-is_empty : goal.returns-then-is_empty
returns-then-is_empty c = record { answer = begin-full c.args.nodes.now (eqb-true _ 0 (sym c.if-is_empty.ensures)); state = refl; law = tt }

pub invariant_of-self : goal.invariant_of-self
invariant_of-self c =
    let xs = c.args.nodes.now in
    let off = eqb-false (length xs) 0 (sym c.if-is_empty.ensures) in
    let some : 0 < length xs = omega arith in
    record { sound = subst (λ (s : State). sound s ≡ true) (sym c.begin.ensures) (begun-sound c.args.attrs.now c.args.bytes.now xs some) }

pub returns : goal.returns
returns c =
    let xs = c.args.nodes.now in
    let off = eqb-false (length xs) 0 (sym c.if-is_empty.ensures) in
    let some : 0 < length xs = omega arith in
    record {
      answer = begin-free xs off;
      state = c.begin.ensures;
      law = λ es. subst (λ (s : State). Law s es) (sym c.begin.ensures) (begun-law c.args.attrs.now c.args.bytes.now xs some es);
    }
