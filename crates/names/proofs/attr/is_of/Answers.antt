-- As many bytes, and the word at their front.
use Rattle.std.proofs.Common.{◌∙◌, sym, arith}
use Rattle.std.proofs.lemmas.Bool.{ne_eqb}
use Rattle.names.proofs.Sames.{same-begins, same_length}
use Rattle.names.proofs.attr.is_of.Goals as goal

pub returns-then-len-word : goal.returns-then-len-word
returns-then-len-word g c = c.word_at.ensures ∙ same-begins c.args.word.now c.args.part.now (omega arith)

pub returns-else-len-word : goal.returns-else-len-word
returns-else-len-word g c = ne_eqb _ _ c.if-len-word.false ∙ sym (same_length c.args.word.now c.args.part.now (λ e. c.if-len-word.false (c.len.ensures ∙ e)))
