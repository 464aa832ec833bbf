-- A tree is its root and what stands under it.
use Rattle.std.proofs.Common.{◌≡◌, ◌++◌, vec_items, sym, ap, ◌∙◌, subst, append_assoc, append-nil}
use Rattle.page.specs.Forest.{Forest, none, kids_of, rest_of}
use Rattle.figures.specs.Points.{element_line, point_lines}
use Rattle.figures.specs.Listed.{Listed}
use Rattle.figures.proofs.Elements.{line-parts}
use Rattle.figures.proofs.Lists.{listed, first}
use Rattle.figures.proofs.lines.push_points.Goals as goal

tree-lines : (t : Forest) → rest_of t ≡ none → point_lines t ≡ element_line t ++ point_lines (kids_of t)
tree-lines t e = line-parts t ∙ (ap (λ r. element_line t ++ (point_lines (kids_of t) ++ point_lines r)) e ∙ ap (λ l. element_line t ++ l) (append-nil (point_lines (kids_of t))))

pub push_under-requires : goal.push_under-requires
push_under-requires g c =
    let p = c.args.p.now in
    let T = g.P.Page.tree p in
    let k = g.P.Page.kept p in
    let all = subst (Listed c.args.table.now) (sym c.root-root.ensures) (listed c.args.table.now (g.P.Page.limit p) T k.unique k.below c.requires.long c.requires.measured) in
    (first c.args.table.now c.root-root.result c.number.result (sym c.number.ensures) all).kids

pub returns : goal.returns
returns g c =
    let T = g.P.Page.tree c.args.p.now in
    let r = c.root-root.result in
    let E = vec_items c.args.out.now in
    c.in_ok-push_under.ensures
    ∙ (ap (λ l. l ++ point_lines (kids_of r)) c.in_ok-push_line.ensures
    ∙ (append_assoc E (element_line r) (point_lines (kids_of r))
    ∙ ap (λ l. E ++ l) (ap (λ f. element_line f ++ point_lines (kids_of f)) c.root-root.ensures ∙ sym (tree-lines T (g.P.Page.kept c.args.p.now).alone))))
