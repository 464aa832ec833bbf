use Rattle.std.proofs.Common.{ap, ◌∙◌, length}
use Rattle.page.specs.Forest.{attrs_of, find}
use Rattle.page.proofs.Find.{head-has}
use Rattle.page.proofs.Nodes.{counted}
use Rattle.page.proofs.node.Node.attrs.Goals as goal

pub returns : goal.returns
returns g c =
    let T = g.P.Page.tree c.self.inside.page.now in
    let n = c.self.inside.number in
    counted (find T n) c.attrs_of.result (c.attrs_of.ensures (head-has T n c.self.invariant)) ∙ ap (λ f. length (attrs_of f)) c.self.view_is
