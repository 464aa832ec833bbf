use Rattle.std.proofs.Common.{sym, ap, ◌∙◌, subst}
use Rattle.page.specs.Forest.{head_of, kids_of}
use Rattle.page.specs.Kept.{KeptNode}
use Rattle.page.proofs.Find.{head-has}
use Rattle.page.proofs.Walk.{from-kids}
use Rattle.page.proofs.Nodes.{kept_node}
use Rattle.page.proofs.node.Node.children.Goals as goal

pub invariant_of-result : goal.invariant_of-result
invariant_of-result g c =
    let p = c.self.inside.page.now in
    let T = g.P.Page.tree p in
    let first = c.first_child_of.ensures (head-has T c.self.inside.number c.self.invariant) in
    ap head_of (from-kids T (g.P.Page.kept p).unique c.self.inside.number c.first_child_of.result first) ∙ sym first

pub returns-clause-children : goal.returns-clause-children
returns-clause-children g c =
    let p = c.self.inside.page.now in
    let T = g.P.Page.tree p in
    let first = c.first_child_of.ensures (head-has T c.self.inside.number c.self.invariant) in
    from-kids T (g.P.Page.kept p).unique c.self.inside.number c.first_child_of.result first ∙ ap kids_of c.self.view_is

pub returns-clause-kept : goal.returns-clause-kept
returns-clause-kept g c =
    let p = c.self.inside.page.now in
    subst KeptNode c.self.view_is (kept_node (g.P.Page.limit p) (g.P.Page.tree p) c.self.inside.number (g.P.Page.kept p))
