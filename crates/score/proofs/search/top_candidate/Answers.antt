use Rattle.score.proofs.Choice.{top-bounded}
use Rattle.score.proofs.search.top_candidate.Goals as goal

pub returns-clause-bounded : goal.returns-clause-bounded
returns-clause-bounded g c =
    let kind = g.K.ScoreKind in
    let found = c.in_ok-i.ensures in
    λ ps within e. top-bounded kind.STEP kind.settled kind.exceeds c.index-scores-i.result c.args.scores.now c.in_ok-i.i c.exceeds_zero.result c.then_some.result found.greatest.0
    c.index-scores-i.is c.exceeds_zero.ensures c.then_some.ensures ps e (found.bounded ps within e)
