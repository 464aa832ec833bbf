use Rattle.std.proofs.Common.{[], ◌∷◌, sym}
use Rattle.std.proofs.lemmas.Result.{err_from_is_err_and}
use Rattle.table.specs.declared.record.Check.TheVariants.{Kind, Depth, Layout, WellFormed}
use Rattle.table.specs.Checks.{answer}
use Rattle.table.proofs.Asked.{stays}
use Rattle.table.proofs.checks.check_node.Goals as goal

pub returns-in_err-check_place : goal.returns-in_err-check_place
returns-in_err-check_place g c =
    let i = c.args.i in
    let p = err_from_is_err_and c.from_residual.result c.from_residual.ensures.1 in
    rw (p.1, p.2)
    (sym (stays (answer (g.R.Records.table c.args.t.now)) (Kind i ∷ Depth i ∷ []) (Layout i ∷ WellFormed i ∷ []) c.in_err-check_place.field-0.0 (sym c.in_err-check_place.ensures)))
