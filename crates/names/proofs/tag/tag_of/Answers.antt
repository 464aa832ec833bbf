-- The table of the code is that of the rule.
use Rattle.std.proofs.Common.{◌≡◌, Some, sym, ap, ◌∙◌}
use Rattle.page.specs.declared.kind.NodeKind.TheVariants.{Element}
use Rattle.page.specs.Forest.{find, kind_of}
use Rattle.names.specs.Tags.{named}
use Rattle.names.proofs.Sames.{element-tag}
use Rattle.names.proofs.tag.tag_of.Goals as goal

pub returns-in-Some-Element : goal.returns-in-Some-Element
unfolding named
returns-in-Some-Element g c =
    let f = find (g.P.Page.tree c.args.p.now) c.args.n in
    let k : Some Element ≡ kind_of f = ap Some (sym c.in-Some-Element.field-0-is) ∙ (sym c.in-Some-Element.is ∙ c.kind.ensures) in
    c.look_up.ensures ∙ (ap named c.new.ensures ∙ sym (element-tag f k))
