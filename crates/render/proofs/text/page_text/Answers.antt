use Rattle.std.proofs.Common.{◌++◌, ap, ◌∙◌}
use Rattle.pagefile.specs.Opened.{opened_tree}
use Rattle.render.specs.Render.{header, lines}
use Rattle.render.proofs.text.page_text.Goals as goal

pub returns : goal.returns
returns c =
    let t = opened_tree c.args.page.now in
    let k = c.counts.ensures in
    c.in_ok-push_lines.ensures ∙ ap (λ l. l ++ lines 0 t) (c.in_ok-out.ensures ∙ (λ q. header (k.nodes q) (k.attrs q) (k.bytes q)))
