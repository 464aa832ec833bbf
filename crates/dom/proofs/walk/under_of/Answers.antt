-- What is under a node has its figures; what is under none has none.
use Rattle.std.proofs.Common.{◌≡◌, sym, ap, ◌∙◌, subst}
use Rattle.page.specs.Forest.{find, kids_of}
use Rattle.page.proofs.Nodes.{tree-found}
use Rattle.dom.specs.Under.{under_of}
use Rattle.dom.specs.Small.{Bounded}
use Rattle.dom.proofs.Bounds.{room-found, room-kids, bounded}
use Rattle.dom.proofs.walk.under_of.Goals as goal

pub returns-in-Some : goal.returns-in-Some
returns-in-Some g c =
    let p = c.args.p.now in
    let f = find (g.P.Page.tree p) c.args.n in
    let value : c.fill.result ≡ under_of (kids_of f) = c.fill.ensures.value ∙ ap (λ x. under_of (kids_of x)) (tree-found f c.in-Some.node c.in-Some.ensures) in
    record { value = value; bounds = subst Bounded (sym value) (bounded (kids_of f) (room-kids f (room-found (g.P.Page.limit p) (g.P.Page.tree p) c.args.n (g.P.Page.kept p)))) }
