-- A step takes the first of what is left.
use Rattle.std.proofs.Common.{sym, ap, ◌∙◌, rules, length}
use Rattle.text.proofs.Reading.{reads}
use Rattle.text.proofs.part.CharsIterator.next.Goals as goal

pub returns-clause-steps : goal.returns-clause-steps
returns-clause-steps g c = sym c.self.view_is ∙ reads c.self.inside.bytes.now c.self.inside.at c.in_ok-c.c c.in_ok-c.w c.in_ok-c.ensures.value

pub returns-clause-goes : goal.returns-clause-goes
returns-clause-goes g c = let e = ap length (sym c.self.view_is ∙ reads c.self.inside.bytes.now c.self.inside.at c.in_ok-c.c c.in_ok-c.w c.in_ok-c.ensures.value) in search (rules, e)
