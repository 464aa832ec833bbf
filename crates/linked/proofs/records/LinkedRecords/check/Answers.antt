use Rattle.std.proofs.Common.{◌≡◌, ℕ, ◌+◌, ◌-◌, true, ◌&&◌, List, [], ◌∷◌, length, Some, None, Option, sym, refl, ap, ◌∙◌, arith}
use Rattle.std.proofs.lemmas.Result.{err_from_is_err_and}
use Rattle.std.proofs.lemmas.Bool.{and_parts}
use Rattle.table.specs.declared.record.Section.TheVariants.{Nodes, Attributes, Bytes}
use Rattle.table.specs.declared.record.Check.{Check}
use Rattle.table.specs.declared.record.Check.TheVariants.{CountInRange, SectionsEnd}
use Rattle.table.specs.Checks.{first_no, kind_ok, depth_ok, of_node, of_nodes}
use Rattle.table.proofs.Asked.{of-next, of-last, no-next, no-here, stays, goes_on, all-granted}
use Rattle.table.proofs.Each.{each_more}
use Rattle.linked.specs.declared.records.LinkedRecords.{LinkedRecords}
use Rattle.linked.specs.Records.{table_in, links_ok}
use Rattle.linked.specs.Opening.{answer, verdict}
use Rattle.linked.proofs.Lists.{length-records}
use Rattle.linked.proofs.records.LinkedRecords.check.Goals as goal

abbrev counts : List Check
counts = CountInRange Nodes ∷ CountInRange Attributes ∷ CountInRange Bytes ∷ []

abbrev says : LinkedRecords → List Check → Option Check
says r = first_no (answer r.nodes.now (table_in r))

-- the verdict is that on the counts, or else that on the nodes
counts-no : (r : LinkedRecords) (c : Check) → says r counts ≡ Some c → verdict r ≡ Some c
counts-no r c h = stays (answer r.nodes.now (table_in r)) counts (of_nodes 0 (length (table_in r).nodes)) c h

nodes-say : (r : LinkedRecords) → None ≡ says r counts → verdict r ≡ says r (of_nodes 0 (length r.nodes.now))
nodes-say r h =
    goes_on (answer r.nodes.now (table_in r)) counts (of_nodes 0 (length (table_in r).nodes)) (sym h) ∙ ap (λ n. says r (of_nodes 0 n)) (length-records r.nodes.now)

-- a node that is granted has links that match
node-linked : (r : LinkedRecords) (i : ℕ) → None ≡ says r (of_node i) → links_ok r.nodes.now (table_in r) i ≡ true
node-linked r i h =
    let ok = answer r.nodes.now (table_in r) in
    let a = and_parts (kind_ok (table_in r) i) _ (all-granted ok (of_node i) (sym h)) in
    (and_parts (depth_ok (table_in r) i) _ (and_parts (depth_ok (table_in r) i && links_ok r.nodes.now (table_in r) i) _ a.1).0).1

pub returns-in_err-check_counts : goal.returns-in_err-check_counts
returns-in_err-check_counts c =
    let r = c.args.self.now in
    let p = err_from_is_err_and c.from_residual.result c.from_residual.ensures.1 in
    rw (p.1, p.2) (sym (counts-no r c.in_err-check_counts.field-0.0 (sym c.in_err-check_counts.ensures)))

pub loop-i-init : goal.loop-i-init
loop-i-init c =
    let r = c.args.self.now in
    let n = length r.nodes.now in
    let z : n - 0 ≡ n = omega arith in
    (ap (λ k. says r (of_nodes 0 k)) (sym z), refl)

pub check_node-requires : goal.check_node-requires
check_node-requires c = record { before = c.loop-i.invariant.1; inside = c.loop-i-test.true }

pub loop-i-preserved : goal.loop-i-preserved
loop-i-preserved c =
    let r = c.args.self.now in
    let xs = r.nodes.now in
    let n = length xs in
    let i = c.loop-i.i in
    let h = c.in_ok-check_node.ensures in (
      c.loop-i.invariant.0 ∙ (ap (says r) (of-next i n c.loop-i-test.true) ∙ goes_on (answer xs (table_in r)) (of_node i) (of_nodes (i + 1) (n - (i + 1))) (sym h)),
      each_more (links_ok xs (table_in r)) i (node-linked r i h) c.loop-i.invariant.1,
    )

pub returns-in_err-check_node : goal.returns-in_err-check_node
returns-in_err-check_node c =
    let r = c.args.self.now in
    let xs = r.nodes.now in
    let n = length xs in
    let i = c.loop-i.i in
    let p = err_from_is_err_and c.from_residual-in_err-check_node.result c.from_residual-in_err-check_node.ensures.1 in
    rw (p.1, p.2)
    (sym (nodes-say r c.in_ok-check_counts.ensures ∙ (c.loop-i.invariant.0 ∙ (ap (says r) (of-next i n c.loop-i-test.true)
    ∙ stays (answer xs (table_in r)) (of_node i) (of_nodes (i + 1) (n - (i + 1))) c.in_err-check_node.field-0.0 (sym c.in_err-check_node.ensures)))))

pub returns-then-not-ends_ok : goal.returns-then-not-ends_ok
returns-then-not-ends_ok c =
    let r = c.args.self.now in
    let n = length r.nodes.now in
    let e : c.loop-i.i ≡ n = omega (arith, c.loop-i-test.false) in
    sym (nodes-say r c.in_ok-check_counts.ensures
    ∙ (c.loop-i.invariant.0 ∙ (ap (λ k. says r (of_nodes k (n - k))) e ∙ (ap (says r) (of-last n) ∙ no-here (answer r.nodes.now (table_in r)) (SectionsEnd n) [] (sym c.ends_ok.ensures ∙ c.if-not-ends_ok.true)))))

pub returns : goal.returns
returns c =
    let r = c.args.self.now in
    let n = length r.nodes.now in
    let e : c.loop-i.i ≡ n = omega (arith, c.loop-i-test.false) in
    sym (nodes-say r c.in_ok-check_counts.ensures
    ∙ (c.loop-i.invariant.0 ∙ (ap (λ k. says r (of_nodes k (n - k))) e ∙ (ap (says r) (of-last n) ∙ no-next (answer r.nodes.now (table_in r)) (SectionsEnd n) [] (sym c.ends_ok.ensures ∙ c.if-not-ends_ok.false)))))
