-- The figures of a page give the score of its deep text.
use Rattle.std.proofs.Common.{◌≡◌, sym, ap, ◌∙◌, subst}
use Rattle.utf8.specs.Decode.{scalars_of}
use Rattle.page.specs.Forest.{find, kids_of}
use Rattle.dom.specs.Deep.{deep}
use Rattle.scorer.specs.Content.{score_of, Scored}
use Rattle.scorer.proofs.Deeps.{deep-chars, score-of, scored}
use Rattle.scorer.proofs.content.content_score.Goals as goal

pub returns : goal.returns
returns g c =
    let p = c.args.p.now in
    let T = g.P.Page.tree p in
    let kids = kids_of (find T c.args.n) in
    let e : c.content_score_by.result ≡ score_of (scalars_of (deep kids)) =
    c.content_score_by.ensures ∙ (score-of kids c.under_of.result c.under_of.ensures.value c.under_of.ensures.bounds ∙ ap score_of (deep-chars T c.args.n (g.P.Page.kept p).formed)) in
    record { value = e; matches = subst (Scored (scalars_of (deep kids))) (sym e) (scored (scalars_of (deep kids))) }
