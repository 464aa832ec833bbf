use Rattle.std.proofs.Common.{length, is_some, ap, ◌∙◌, subst}
use Rattle.std.proofs.lemmas.Bool.{cond-true}
use Rattle.uri.specs.Resolve.{resolved}
use Rattle.uri.specs.Write.{placed, write_answer, Lawful}
use Rattle.address.proofs.Joins.{in-room, fits}
use Rattle.address.proofs.joining.write_resolved.Goals as goal

pub returns : goal.returns
returns c =
    let b = c.bytes.result.now in
    let r = c.args.reference.now in
    let out = c.args.out.now in
    let room = in-room b r c.bytes.ensures.short c.requires in
    let answer = c.resolve.ensures.answer ∙ cond-true _ _ _ room in
    record {
      answer = answer ∙ ap (λ b. write_answer (resolved b r) (length out)) c.bytes.ensures.value;
      out = c.resolve.ensures.out ∙ (cond-true _ _ _ room ∙ ap (λ b. placed (resolved b r) out) c.bytes.ensures.value);
      laws = subst (λ b. Lawful b r c.resolve.result c.resolve.new.out) c.bytes.ensures.value c.resolve.ensures.laws;
      room = λ l. ap is_some answer ∙ fits b r (length out) c.bytes.ensures.short c.requires l;
    }
