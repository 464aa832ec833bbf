use Rattle.std.proofs.Common.{◌≡◌, [], ◌∷◌, Some, refl, ◌∙◌, arith}
use lib.Ieee.{of_bits, of_int, div, sub, mul, round, lt}
use Rattle.std.proofs.lemmas.Grind.{common_steps}
use Rattle.std.specs.Float.{float_is_finite}
use Rattle.score.specs.Greatest.{first_greatest}
use Rattle.rounded.specs.Roundeds as rounded
use Rattle.fraction.specs.Fractions as fraction
use Rattle.examples.specs.Scores.{linked, plain, RankedDifferently}
use Rattle.examples.proofs.scores.greatest_of_two.Goals as goal

of-rounded : first_greatest rounded.greater (rounded.rounded linked ∷ rounded.rounded plain ∷ []) ≡ Some 1
unfolding of_bits of_int div sub mul round lt float_is_finite
of-rounded = refl

of-fractions : first_greatest fraction.greater (fraction.fraction linked ∷ fraction.fraction plain ∷ []) ≡ Some 0
of-fractions = refl

ranked : RankedDifferently
unfolding of_bits of_int div sub mul round lt float_is_finite
ranked = (refl, refl, refl, refl)

pub returns : goal.returns
returns c =
    let r : c.map.result ≡ rounded.rounded linked ∷ rounded.rounded plain ∷ [] = grind (arith, common_steps) in
    let e : c.map-2.result ≡ fraction.fraction linked ∷ fraction.fraction plain ∷ [] = grind (arith, common_steps) in
    let p = (rw r at c.first_greatest-rounded.ensures.value) ∙ of-rounded in
    let q = (rw e at c.first_greatest-exact.ensures.value) ∙ of-fractions in
    record { value = cc; ranked = ranked }
