-- Two tags are equal just where they have one number.
use Rattle.std.proofs.Common.{◌≡◌, ◌||◌, ap, refl, ◌∙◌, rules}
use Rattle.std.proofs.lemmas.List.Recursion.{same_from_clauses}
use Rattle.std.specs.List.{list_any}
use denote.Enum.Bare.{sameb}
use Rattle.names.specs.contracts.tag.Tag.{the_type}
use Rattle.names.specs.declared.tag.Tag.{Tag}
use Rattle.names.specs.Is.{is, among}
use Rattle.names.proofs.tag.Tag.is_among.Goals as goal

same-is : (u t : Tag) → sameb the_type u t ≡ is u t
same-is u t = search rules

pub returns : goal.returns
returns c = c.contains.ensures.value ∙ same_from_clauses (list_any (λ u. sameb the_type u c.args.self)) (λ us. among us c.args.self) (λ u r. is u c.args.self || r) refl (λ u us. ap (λ b. b || list_any (λ v. sameb the_type v c.args.self) us) (same-is u c.args.self)) (λ u us. refl) c.args.tags.now
