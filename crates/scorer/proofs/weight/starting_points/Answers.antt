-- Both parts are small.
use Rattle.std.proofs.Common.{◌≡◌, ◌+ℤ◌, ap, ◌∙◌, arith, w32, to_z, of_z}
use Rattle.std.proofs.lemmas.Int.{ints}
use Rattle.scorer.specs.Weight.{tag_points}
use Rattle.scorer.proofs.weight.starting_points.Goals as goal

pub returns : goal.returns
returns g c =
    let a = c.tag_points.result in
    let b = c.get_class_weight.result in
    let back : to_z w32 (of_z w32 (to_z w32 (of_z w32 a) +ℤ to_z w32 (of_z w32 b))) ≡ a +ℤ b =
    omega (arith, ints, c.tag_points.ensures.low, c.tag_points.ensures.high, c.get_class_weight.ensures.low, c.get_class_weight.ensures.high) in
    let tag = c.tag_points.ensures.value ∙ ap tag_points c.tag_of.ensures in
    back ∙ (λ i. tag i +ℤ c.get_class_weight.ensures.value i)
