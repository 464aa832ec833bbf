use Rattle.std.proofs.Common.{◌≡◌, ◌++◌, length, ap, ◌∙◌, arith}
use Rattle.uri.specs.Resolve.{recompose, resolved}
use Rattle.uri.specs.View.{draft_of, finished}
use Rattle.uri.specs.Write.{placed, write_answer}
use Rattle.uri.proofs.Resolved.{few, recomposed}
use Rattle.uri.proofs.TargetLaws.{answered-laws}
use Rattle.uri.proofs.resolution.resolve_in.Goals as goal

pub put_target-requires : goal.put_target-requires
put_target-requires o c = omega (arith, c.requires.room, c.requires.small, ap length c.new-target.ensures, few c.args.base.now c.args.reference.now _ _ _ c.split.ensures.components c.split-2.ensures.components c.transform.ensures)

pub returns : goal.returns
returns o c =
    let b = c.args.base.now in
    let r = c.args.reference.now in
    let out = c.args.out.now in
    let target : c.as_slice.result.now ≡ resolved b r =
    c.as_slice.ensures.value ∙ (c.put_target.ensures ∙ (ap (λ z. z ++ recompose (finished (draft_of c.transform.result))) c.new-target.ensures ∙ recomposed b r _ _ _ c.split.ensures.components c.split-2.ensures.components c.transform.ensures)) in
    let answer = c.write_bytes.ensures.answer ∙ ap (λ z. write_answer z (length out)) target in
    let written = c.write_bytes.ensures.out ∙ ap (λ z. placed z out) target in
    record { answer = answer; out = written; laws = answered-laws b r out _ _ answer written }
