use Rattle.std.proofs.Common.{sym, ◌∙◌}
use Rattle.std.proofs.lemmas.Result.{err_from_is_err_and}
use Rattle.pagefile.proofs.Accepting.{nodes-verdict}
use Rattle.pagefile.proofs.check.check.Goals as goal

pub returns-in_err-check_nodes-clause-refused : goal.returns-in_err-check_nodes-clause-refused
returns-in_err-check_nodes-clause-refused c =
    let f = c.args.file.now in
    let p = err_from_is_err_and c.from_residual-in_err-check_nodes.result c.from_residual-in_err-check_nodes.ensures.1 in
    let v = nodes-verdict f c.over.result.file.now c.over.ensures (sym c.in_ok-counts.ensures.refused) in
    rw (p.1, p.2) (c.in_err-check_nodes.ensures ∙ sym v)

pub returns-clause-refused : goal.returns-clause-refused
returns-clause-refused c =
    let f = c.args.file.now in
    let v = nodes-verdict f c.over.result.file.now c.over.ensures (sym c.in_ok-counts.ensures.refused) in
    c.in_ok-check_nodes.ensures ∙ sym v
