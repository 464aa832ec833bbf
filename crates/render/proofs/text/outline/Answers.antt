use Rattle.std.proofs.Common.{sym, ap, ◌∙◌}
use Rattle.std.proofs.lemmas.Result.{IfOk-weaker}
use Rattle.render.specs.Render.{render}
use Rattle.render.specs.Outline.{printed}
use Rattle.render.proofs.text.outline.Goals as goal

pub returns-in-Ok : goal.returns-in-Ok
returns-in-Ok c =
    let f = c.args.file.now in
    let e = c.in-Ok.ensures in
    record {
      answer = IfOk-weaker c.page_text.result _ _ (λ v h. h ∙ (ap render e.page ∙ ap (printed f) e.verdict)) c.page_text.ensures;
      page = IfOk-weaker c.page_text.result _ _ (λ v h t fit w. h ∙ ap render (sym (e.exactly.only t fit w))) c.page_text.ensures;
    }
