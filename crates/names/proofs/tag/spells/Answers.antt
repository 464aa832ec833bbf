-- The characters end before the word.
use Rattle.std.proofs.Common.{sym, ◌∙◌}
use Rattle.names.proofs.Sames.{spells-short}
use Rattle.names.proofs.tag.spells.Goals as goal

pub returns-in_default : goal.returns-in_default
returns-in_default g c = sym (spells-short c.args.word.now c.loop-b.chars c.loop-b.b-index c.loop-b-test.true c.in_default.ensures.steps.0) ∙ c.loop-b.invariant
