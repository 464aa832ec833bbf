-- Some word stands there.
use Rattle.std.proofs.Common.{drop, ◌∙◌, rules}
use borrow.Author.Tests.{tests}
use Rattle.std.proofs.lemmas.Iterator.{YieldsList-from_slice}
use Rattle.std.proofs.lemmas.Iterator.Search.{any_from_yields_List}
use Rattle.names.specs.Words.{begins}
use Rattle.names.proofs.Occurs.{some-any, begins-gone}
use Rattle.names.proofs.word.some_at.Goals as goal

pub returns-in-Some : goal.returns-in-Some
returns-in-Some g c =
    let v = drop c.args.at c.args.part.now in
    any_from_yields_List (λ w. begins w.now v) _ _ _ c.any.ensures.ran (YieldsList-from_slice c.args.words.now c.iter.ensures.rest) (λ x b q k. search (rules, tests)) ∙ some-any c.args.words.now v

pub returns-in-None : goal.returns-in-None
returns-in-None g c =
    let v = drop c.args.at c.args.part.now in
    any_from_yields_List (λ w. begins w.now v) _ _ _ c.any-in-None.ensures.ran (YieldsList-from_slice c.args.words.now c.iter-in-None.ensures.rest) (λ x b q k. (search (rules, tests), begins-gone x.now.now c.args.part.now c.args.at b (search rules) (λ z. search (rules, tests)) (λ z. search (rules, tests)))) ∙ some-any c.args.words.now v
