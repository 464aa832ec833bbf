use Rattle.std.proofs.Common.{◌∷◌, ◌<◌, length, sym, ap, ◌∙◌, arith}
use Rattle.page.specs.Forest.{find, head_of, from, trees}
use Rattle.page.proofs.Walk.{from-rest, from_some, from-has}
use Rattle.page.proofs.Nodes.{trees-first}
use Rattle.page.proofs.node.ChildrenIterator.next.Goals as goal

pub invariant_of-self : goal.invariant_of-self
invariant_of-self g c =
    let p = c.self.inside.page.now in
    let T = g.P.Page.tree p in
    let n = c.in_ok-first.first in
    let next = c.next_sibling_of-self-inside.ensures (from-has T c.self.inside.next n c.self.invariant c.in_ok-first.was) in
    ap head_of (from-rest T (g.P.Page.kept p).unique n c.next_sibling_of-self-inside.result next) ∙ sym next

pub returns-clause-steps : goal.returns-clause-steps
returns-clause-steps g c =
    let p = c.self.inside.page.now in
    let T = g.P.Page.tree p in
    let n = c.in_ok-first.first in
    let s = from_some T c.self.inside.next n c.self.invariant c.in_ok-first.was in
    let next = c.next_sibling_of-self-inside.ensures (from-has T c.self.inside.next n c.self.invariant c.in_ok-first.was) in
    ap trees (sym c.self.view_is ∙ s.0) ∙ (trees-first (find T n) n s.1 ∙ ap (λ f. find T n ∷ trees f) (sym (from-rest T (g.P.Page.kept p).unique n c.next_sibling_of-self-inside.result next)))

pub returns-clause-goes : goal.returns-clause-goes
returns-clause-goes g c =
    let less : length (trees (from (g.P.Page.tree c.self.inside.page.now) c.next_sibling_of-self-inside.result)) < length (trees c.args.self.now) = omega (arith, ap length (returns-clause-steps g c)) in
    record { on = λ _. (tt, tt, less); keeps = tt; rests = λ _. tt }
