-- The first entry that the part spells.
use Rattle.std.proofs.Common.{◌≡◌, ap, ◌∙◌, rules, Bor, Option, Some, None, List, ℕ}
use borrow.Author.Tests.{tests}
use Rattle.std.specs.Option.{MatchOption, option_map}
use Rattle.std.proofs.lemmas.Iterator.{YieldsList-from_slice}
use Rattle.std.proofs.lemmas.Iterator.Search.{find_from_yields_List}
use Rattle.names.specs.declared.tag.Tag.{Tag}
use Rattle.names.specs.declared.tag.Tag.TheVariants.{Other}
use Rattle.names.specs.Names.{same}
use Rattle.names.proofs.Sames.{letters, tagged, sought-find}
use Rattle.names.proofs.tag.look_up.Goals as goal

picked : (r : Option (Bor (Bor (List ℕ) × Tag))) (t : Tag) → MatchOption r (t ≡ Other) (λ x. t ≡ x.now.1) → t ≡ tagged (option_map (λ y. y.now) r)
picked None t h = h
picked (Some x) t h = h

pub returns : goal.returns
returns g c =
    let w = letters c.args.part.now in
    let found = find_from_yields_List (λ e. same e.0.now w) _ _ c.find.result c.find.ensures.ran (YieldsList-from_slice c.args.table.now c.iter.ensures.rest) (λ x b q k. search (rules, tests)) in
    picked c.find.result c.map_or.result (search rules) ∙ (ap tagged found ∙ sought-find c.args.table.now w)
