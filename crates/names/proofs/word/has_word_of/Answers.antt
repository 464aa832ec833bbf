-- Some word stands at some place.
use Rattle.std.proofs.Common.{◌≡◌, map, length, drop, ap, ◌∙◌, rules, arith}
use borrow.Author.Tests.{tests}
use Rattle.std.proofs.lemmas.Iterator.Search.{any_from_yields_List}
use Rattle.std.specs.List.{list_any}
use Rattle.names.specs.Words.{some_begins, has_word}
use Rattle.names.proofs.Occurs.{has-any, decides-word, YieldsList-from_inclusive, from-zero}
use Rattle.names.proofs.word.has_word_of.Goals as goal

pub returns : goal.returns
returns g c =
    let v = c.args.part.now in
    let ws = map (λ x. x.now) c.args.words.now in
    let found = any_from_yields_List (λ k. some_begins ws (drop k v)) _ _ _ c.any.ensures.ran (YieldsList-from_inclusive c.new.result) (λ x b q k. search (rules, tests)) in
    let e : c.any.result ≡ has_word ws v = found ∙ (ap (list_any (λ k. some_begins ws (drop k v))) (from-zero c.new.result (length v) c.new.ensures.start (c.new.ensures.end ∙ c.len.ensures) c.new.ensures.exhausted) ∙ has-any ws v 0 (length v) (omega arith)) in
    record { value = e; occurs = decides-word ws v c.any.result e }
