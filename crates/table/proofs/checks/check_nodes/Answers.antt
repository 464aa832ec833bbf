use Rattle.std.proofs.Common.{◌≡◌, ◌+◌, ◌-◌, [], sym, ap, ◌∙◌, arith}
use Rattle.std.proofs.lemmas.Result.{err_from_is_err_and}
use Rattle.table.specs.declared.record.Check.TheVariants.{SectionsEnd}
use Rattle.table.specs.Checks.{answer, first_no, of_node, of_nodes}
use Rattle.table.proofs.Asked.{of-next, of-last, no-here, stays, goes_on}
use Rattle.table.proofs.checks.check_nodes.Goals as goal

pub loop-i-preserved : goal.loop-i-preserved
loop-i-preserved g c =
    let ok = answer (g.R.Records.table c.args.t.now) in
    let n = c.nodes-n.result in
    let i = c.loop-i.i in
    c.loop-i.invariant ∙ (ap (first_no ok) (of-next i n c.loop-i-test.true) ∙ goes_on ok (of_node i) (of_nodes (i + 1) (n - (i + 1))) (sym c.in_ok-check_node.ensures))

pub returns-in_err-check_node : goal.returns-in_err-check_node
returns-in_err-check_node g c =
    let ok = answer (g.R.Records.table c.args.t.now) in
    let n = c.nodes-n.result in
    let i = c.loop-i.i in
    let p = err_from_is_err_and c.from_residual.result c.from_residual.ensures.1 in
    rw (p.1, p.2)
    (sym (ap (λ k. first_no ok (of_nodes 0 k)) (sym c.nodes-n.ensures) ∙ (c.loop-i.invariant ∙ (ap (first_no ok) (of-next i n c.loop-i-test.true)
    ∙ stays ok (of_node i) (of_nodes (i + 1) (n - (i + 1))) c.in_err-check_node.field-0.0 (sym c.in_err-check_node.ensures)))))

pub returns-then-not-ends_ok : goal.returns-then-not-ends_ok
returns-then-not-ends_ok g c =
    let ok = answer (g.R.Records.table c.args.t.now) in
    let n = c.nodes-n.result in
    let e : c.loop-i.i ≡ n = omega (arith, c.loop-i-test.false) in
    sym (ap (λ k. first_no ok (of_nodes 0 k)) (sym c.nodes-n.ensures) ∙ (c.loop-i.invariant ∙ (ap (λ k. first_no ok (of_nodes k (n - k))) e ∙ (ap (first_no ok) (of-last n) ∙ no-here ok (SectionsEnd n) [] (sym c.ends_ok.ensures ∙ c.if-not-ends_ok.true)))))
