use Rattle.std.proofs.Common.{ap, ◌∙◌, subst}
use Rattle.page.specs.Forest.{kind_of}
use Rattle.page.specs.Kept.{KeptNode}
use Rattle.page.proofs.Find.{head-has}
use Rattle.page.proofs.Nodes.{kept_node}
use Rattle.page.proofs.node.Node.kind.Goals as goal

pub returns-clause-kind : goal.returns-clause-kind
returns-clause-kind g c =
    let T = g.P.Page.tree c.self.inside.page.now in
    c.kind_of.ensures (head-has T c.self.inside.number c.self.invariant) ∙ ap kind_of c.self.view_is

pub returns-clause-kept : goal.returns-clause-kept
returns-clause-kept g c =
    let p = c.self.inside.page.now in
    subst KeptNode c.self.view_is (kept_node (g.P.Page.limit p) (g.P.Page.tree p) c.self.inside.number (g.P.Page.kept p))
