use Rattle.std.proofs.Common.{sym, refl, ◌∙◌}
use Rattle.std.proofs.lemmas.Result.{err_from_is_err_and}
use Rattle.table.proofs.Accepted.{accepted}
use Rattle.table.proofs.Deepest.{height-deepest}
use Rattle.linked.specs.Records.{table_in}
use Rattle.linked.proofs.Verdict.{accepted-linked}
use Rattle.linked.proofs.accepted.LinkedPage.open.Goals as goal

pub returns-in_err-check : goal.returns-in_err-check
returns-in_err-check c =
    let p = err_from_is_err_and c.from_residual.result c.from_residual.ensures.1 in
    rw (p.1, p.2) (record { verdict = c.in_err-check.ensures; page = refl })

pub invariant_of-self : goal.invariant_of-self
invariant_of-self c =
    let r = c.args.records in
    let a = accepted-linked r.nodes.now r.attrs.now r.bytes.now (sym c.in_ok-check.ensures) in
    record { accepted = a.0; linked = a.1; tall = c.stored_height-height.ensures ∙ height-deepest (table_in r) (accepted (table_in r) a.0) }
