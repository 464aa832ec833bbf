use Rattle.std.proofs.Common.{◌≡◌, ◌+◌, ◌≤◌, ◌++◌, vec_items, sym, refl, ap, ◌∙◌, append_assoc, append-nil, arith}
use Rattle.page.specs.Forest.{Forest, none, node, kids_of, rest_of, levels}
use Rattle.render.specs.Render.{lines}
use Rattle.render.specs.Found.{line_of}
use Rattle.render.proofs.lines.push_lines.Goals as goal

-- a tree is its root and what stands under it
tree-lines : (t : Forest) → rest_of t ≡ none → lines 0 t ≡ line_of 0 t ++ lines 1 (kids_of t)
tree-lines none e = refl
tree-lines (node m k c a kids rest) e = ap (λ r. line_of 0 (node m k c a kids rest) ++ (lines 1 kids ++ lines 0 r)) e ∙ ap (λ l. line_of 0 (node m k c a kids rest) ++ l) (append-nil (lines 1 kids))

levels_root : (t : Forest) → levels t ≤ 64 → 1 + levels (kids_of t) ≤ 64
levels_root none h = omega arith
levels_root (node m k c a kids rest) h = omega arith

pub push_under-requires : goal.push_under-requires
push_under-requires g c = omega (arith, levels_root (g.P.Page.tree c.args.p.now) (g.P.Page.kept c.args.p.now).flat, ap (λ f. levels (kids_of f)) c.root-root.ensures)

pub returns : goal.returns
returns g c =
    let T = g.P.Page.tree c.args.p.now in
    let r = c.root-root.result in
    let E = vec_items c.args.out.now in
    c.in_ok-push_under.ensures
    ∙ (ap (λ l. l ++ lines 1 (kids_of r)) c.in_ok-push_line.ensures
    ∙ (append_assoc E (line_of 0 r) (lines 1 (kids_of r))
    ∙ ap (λ l. E ++ l) (ap (λ f. line_of 0 f ++ lines 1 (kids_of f)) c.root-root.ensures ∙ sym (tree-lines T (g.P.Page.kept c.args.p.now).alone))))
