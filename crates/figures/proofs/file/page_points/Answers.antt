-- The walk has filled the table.
use Rattle.std.proofs.Common.{◌≡◌, length, ◌∙◌, subst, sym}
use Rattle.std.proofs.lemmas.List.{with_items_is}
use Rattle.dom.specs.Fill.{Measured}
use Rattle.figures.proofs.file.page_points.Goals as goal

pub push_points-requires-clause-measured : goal.push_points-requires-clause-measured
push_points-requires-clause-measured g c =
    let xs = c.fill_under.new.table in
    let long : length xs ≡ c.in_ok-table.table.len = c.fill_under.auto.table ∙ c.as_mut_slice.ensures.len in
    subst (Measured (g.P.Page.tree c.args.p.now)) (sym (c.as_slice.ensures.value ∙ with_items_is c.in_ok-table.table xs long)) c.fill_under.ensures.measured
