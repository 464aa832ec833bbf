use Rattle.std.proofs.Common.{◌≡◌, Some, sym, ap, ◌∙◌, arith}
use Rattle.table.proofs.Accepted.{accepted}
use Rattle.pagefile.specs.File.{table_of}
use Rattle.page.specs.Forest.{head_of, rest_of}
use Rattle.table.specs.Links.{depth_at}
use Rattle.table.proofs.Reading.{gone, sibling-there, sibling-higher, sibling-none}
use Rattle.pagefile.proofs.paged.OpenedPagePage.next_sibling_of.Goals as goal

pub returns-then-n-self : goal.returns-then-n-self
returns-then-n-self c h =
    let p = c.args.self.now in
    let t = table_of p.sections.file.now in
    let a = accepted t p.accepted in
    sym (ap (λ f. head_of (rest_of f)) (gone t a c.args.n (omega (arith, c.if-n-self.true, p.many))))

pub returns-in_err-self : goal.returns-in_err-self
returns-in_err-self c h =
    let p = c.args.self.now in
    let t = table_of p.sections.file.now in
    let n = c.args.n in
    let l = c.if-n-self.false in
    let none = sibling-none t (accepted t p.accepted) n (omega (arith, l, p.many)) (λ j b e. (p.ends n l).0 c.in_err-self.was j b (omega (arith, p.many))) in
    c.from_residual.ensures ∙ sym none

pub returns-then-node : goal.returns-then-node
returns-then-node c h =
    let p = c.args.self.now in
    let t = table_of p.sections.file.now in
    let n = c.args.n in
    let l = c.if-n-self.false in
    let e = c.in_ok-self.field-0 in
    let end = (p.ends n l).1 e c.in_ok-self.was in
    let same : depth_at t e ≡ depth_at t n = omega (arith, c.if-node.true, ap (λ x. x.depth) c.node.ensures, ap (λ x. x.depth) c.node-2.ensures, ap (depth_at t) c.from-end.ensures) in
    ap Some c.from-end.ensures ∙ sym (sibling-there t (accepted t p.accepted) n e end.0 (omega (arith, end.1, p.many)) end.3 same)

pub returns-else-node : goal.returns-else-node
returns-else-node c h =
    let p = c.args.self.now in
    let t = table_of p.sections.file.now in
    let n = c.args.n in
    let l = c.if-n-self.false in
    let e = c.in_ok-self.field-0 in
    let end = (p.ends n l).1 e c.in_ok-self.was in
    let low = end.2 in
    let here = ap (λ x. x.depth) c.node.ensures ∙ ap (depth_at t) c.from-end.ensures in
    let off : depth_at t e ≡ depth_at t n → ⊥ = λ z. c.if-node.false (here ∙ (z ∙ sym (ap (λ x. x.depth) c.node-2.ensures))) in
    sym (sibling-higher t (accepted t p.accepted) n e end.0 (omega (arith, end.1, p.many)) end.3 (omega arith))
