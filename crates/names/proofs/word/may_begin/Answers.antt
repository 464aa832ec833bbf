-- The first byte of the word is the one that stands there, or the word does not.
use Rattle.std.proofs.Common.{◌≡◌, Some, get_or, ◌∙◌, rules}
use borrow.Author.Tests.{tests}
use Rattle.names.proofs.Occurs.{stands-first}
use Rattle.names.proofs.word.may_begin.Goals as goal

pub returns-else-is_empty : goal.returns-else-is_empty
returns-else-is_empty c v at e =
    stands-first c.args.word.now v at _
    (λ l s. let k : Some c.args.byte ≡ Some (get_or c.args.word.now 0 0) = e ∙ s in search (rules, tests))
    (λ z. search (rules, tests))
