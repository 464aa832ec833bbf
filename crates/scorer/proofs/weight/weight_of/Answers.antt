-- The value that is weighed is that of the first attribute of the name.
use Rattle.std.proofs.Common.{◌≡◌, ℕ, true, List, is_some, Some, None, Option, sym, refl, ap, ◌∙◌, arith, w32, to_z, of_z}
use Rattle.std.proofs.lemmas.Int.{ints}
use Rattle.page.specs.declared.kind.Part.TheVariants.{Value}
use Rattle.page.specs.Forest.{find, attrs_of, part_of}
use Rattle.text.specs.Held.{bytes_in}
use Rattle.names.specs.Words.{has_word, positive, negative}
use Rattle.names.proofs.Attributes.{value_none, value-part}
use Rattle.scorer.specs.Weight.{gain, value_weight}
use Rattle.scorer.proofs.weight.weight_of.Goals as goal

weighed : (o : Option (List ℕ)) → is_some o ≡ true → value_weight o ≡ gain (has_word positive (bytes_in o)) (has_word negative (bytes_in o))
weighed None h = refl
weighed (Some v) h = refl

pub returns-in_default-clause-value : goal.returns-in_default-clause-value
returns-in_default-clause-value g c =
    let f = find (g.P.Page.tree c.args.p.now) c.args.n in
    sym (ap value_weight (value_none (attrs_of f) c.args.name.now (sym c.first_attr_of.ensures.index ∙ c.in_default.is)))

pub returns-clause-value : goal.returns-clause-value
returns-clause-value g c =
    let f = find (g.P.Page.tree c.args.p.now) c.args.n in
    let v = value-part f c.args.name.now c.in-Some.j (sym c.first_attr_of.ensures.index ∙ c.in-Some.is) in
    let value = c.new-value.ensures in
    let r = c.gained.result in
    let back : to_z w32 (of_z w32 r) ≡ r = omega (arith, ints, c.gained.ensures.low, c.gained.ensures.high) in
    back ∙ (c.gained.ensures.value ∙ (((λ i. gain (c.has_word_of-positive.ensures.value i) (c.has_word_of-negative.ensures.value i)) ∙ ap (λ l. gain (has_word positive l) (has_word negative l)) value) ∙ (sym (weighed (part_of f (Value c.in-Some.j)) v.1) ∙ ap value_weight v.0)))
