use Rattle.std.proofs.Common.{◌≡◌, suc, ◌-◌, ◌<◌, ◌≤◌, Some, sym, ap, ◌∙◌, arith}
use Rattle.table.specs.Links.{depth_at}
use Rattle.table.proofs.Each.{each_at}
use Rattle.linked.specs.Links.{last_above, parent_link}
use Rattle.linked.specs.Records.{table_in, links_ok}
use Rattle.linked.proofs.Depths.{above-is, above-here, above-up, above-out}
use Rattle.linked.proofs.Linked.{links-are}
use Rattle.linked.proofs.records.LinkedRecords.parent_by_depth.Goals as goal

-- the parent that stands in the record of a node before i
up : (c : goal.After-from-p) → parent_link (table_in c.args.self.now) c.loop-p.p ≡ Some c.in_ok-self.field-0
up c =
    let s = c.args.self.now in
    let xs = s.nodes.now in
    let t = table_in s in
    let p = c.loop-p.p in
    sym (links-are xs t p (each_at (links_ok xs t) c.args.i p c.loop-p.invariant.0 c.requires.before)).up ∙ c.in_ok-self.was

less : (c : goal.After-from-p) → c.in_ok-self.field-0 < c.loop-p.p
less c = let t = table_in c.args.self.now in let p = c.loop-p.p in (above-is t (depth_at t p) p c.in_ok-self.field-0 (up c)).before

pub loop-p-init : goal.loop-p-init
loop-p-init c =
    let t = table_in c.args.self.now in
    let i = c.args.i in
    let z : i ≡ suc (i - 1) = (let h = c.if-i-eq0.false in omega arith) in
    (omega arith, ap (last_above t (depth_at t i)) z)

pub returns-in_err-self : goal.returns-in_err-self
returns-in_err-self c =
    let s = c.args.self.now in
    let xs = s.nodes.now in
    let t = table_in s in
    let i = c.args.i in
    let p = c.loop-p.p in
    let deep : depth_at t i ≤ depth_at t p = omega (arith, c.loop-p-test.true, ap (λ x. x.depth) c.node-depth.ensures, ap (λ x. x.depth) c.node.ensures) in
    let root = sym (links-are xs t p (each_at (links_ok xs t) i p c.loop-p.invariant.0 c.requires.before)).up ∙ c.in_err-self.was in
    c.from_residual.ensures ∙ sym (c.loop-p.invariant.1 ∙ above-out t (depth_at t i) p deep root)

pub loop-p-smaller : goal.loop-p-smaller
loop-p-smaller c = omega (arith, less c)

pub loop-p-preserved : goal.loop-p-preserved
loop-p-preserved c =
    let t = table_in c.args.self.now in
    let i = c.args.i in
    let p = c.loop-p.p in
    let deep : depth_at t i ≤ depth_at t p = omega (arith, c.loop-p-test.true, ap (λ x. x.depth) c.node-depth.ensures, ap (λ x. x.depth) c.node.ensures) in
    (omega (arith, less c, c.loop-p.invariant.0), c.loop-p.invariant.1 ∙ (above-up t (depth_at t i) p c.in_ok-self.field-0 deep (up c) ∙ ap (λ k. last_above t (depth_at t i) (suc k)) (sym c.from-p.ensures)))

pub returns : goal.returns
returns c =
    let t = table_in c.args.self.now in
    let i = c.args.i in
    let p = c.loop-p.p in
    sym (c.loop-p.invariant.1 ∙ above-here t (depth_at t i) p (omega (arith, c.loop-p-test.false, ap (λ x. x.depth) c.node-depth.ensures, ap (λ x. x.depth) c.node.ensures)))
