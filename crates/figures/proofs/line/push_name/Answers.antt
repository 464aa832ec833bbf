-- The number, and then the name.
use Rattle.std.proofs.Common.{◌++◌, vec_items, codes, decimal, ap, ◌∙◌, append_assoc}
use Rattle.page.specs.declared.kind.Part.TheVariants.{Content}
use Rattle.render.specs.Render.{quoted}
use Rattle.text.specs.Held.{held}
use Rattle.figures.specs.Points.{lowered_name}
use Rattle.figures.proofs.line.push_name.Goals as goal

pub returns : goal.returns
returns g c =
    let E = vec_items c.args.out.now in
    let N = decimal c.args.n ++ codes " " in
    let name = c.as_bytes-2.ensures.value ∙ c.in_ok-name.ensures in
    let number = c.as_bytes.ensures.value ∙ c.in_ok-number.ensures in
    let one = c.in_ok-extend_from_slice.ensures.items ∙ ap (λ l. E ++ l) number in
    c.in_ok-push_quoted.ensures ∙ ((λ i. one i ++ quoted (name i)) ∙ append_assoc E N (quoted (lowered_name (held (g.P.Page.tree c.args.p.now) c.args.n Content))))
