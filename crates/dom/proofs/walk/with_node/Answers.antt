-- A text adds its own figures; any other node adds by its tag.
use Rattle.std.proofs.Common.{◌≡◌, Some, sym, ap, ◌∙◌, subst}
use Rattle.page.specs.declared.kind.NodeKind.TheVariants.{Text}
use Rattle.page.specs.declared.kind.Part.TheVariants.{Content}
use Rattle.page.specs.Forest.{find, kind_of, part_of}
use Rattle.utf8.specs.Decode.{scalars_of}
use Rattle.text.specs.Held.{bytes_in}
use Rattle.names.specs.Tags.{tag_of}
use Rattle.dom.specs.Under.{leaf_of, plus, element_of}
use Rattle.dom.specs.Small.{Small}
use Rattle.dom.proofs.Joins.{text-node, text-tag, other-node}
use Rattle.dom.proofs.walk.with_node.Goals as goal

pub in_element-requires : goal.in_element-requires
in_element-requires g c = subst (λ t. Small (element_of t c.args.inner.now)) (text-tag c.args.node.now (ap Some (sym c.in-Text.is) ∙ c.kind.ensures.kind)) c.requires.element

pub plus-requires : goal.plus-requires
plus-requires g c =
    let f = c.args.node.now in
    let here : find (g.P.Page.tree c.page-p.result.now) c.number-n.result ≡ f = c.page-p.ensures c.number-n.result (sym c.number-n.ensures) in
    let leaf = c.leaf_of.ensures ∙ ap (λ x. leaf_of (scalars_of (bytes_in (part_of x Content)))) here in
    subst Small (text-node f c.args.inner.now (ap Some (sym c.in-Text.is) ∙ c.kind.ensures.kind) ∙ (λ i. plus (sym leaf i) (sym c.in_element.ensures i))) c.requires.small

pub in_element-requires-in_default : goal.in_element-requires-in_default
in_element-requires-in_default g c =
    let here : find (g.P.Page.tree c.page-p.result.now) c.number-n.result ≡ c.args.node.now = c.page-p.ensures c.number-n.result (sym c.number-n.ensures) in
    subst (λ v. Small (element_of v c.args.inner.now)) (sym (c.tag_of.ensures ∙ ap tag_of here)) c.requires.element

pub returns-in-Text : goal.returns-in-Text
returns-in-Text g c =
    let f = c.args.node.now in
    let here : find (g.P.Page.tree c.page-p.result.now) c.number-n.result ≡ f = c.page-p.ensures c.number-n.result (sym c.number-n.ensures) in
    let leaf = c.leaf_of.ensures ∙ ap (λ x. leaf_of (scalars_of (bytes_in (part_of x Content)))) here in
    c.plus.ensures ∙ ((λ i. plus (leaf i) (c.in_element.ensures i)) ∙ sym (text-node f c.args.inner.now (ap Some (sym c.in-Text.is) ∙ c.kind.ensures.kind)))

pub returns-in_default : goal.returns-in_default
returns-in_default g c =
    let f = c.args.node.now in
    let here : find (g.P.Page.tree c.page-p.result.now) c.number-n.result ≡ f = c.page-p.ensures c.number-n.result (sym c.number-n.ensures) in
    let other : Some Text ≡ kind_of f → ⊥ = λ e. let k = c.kind.ensures.kind in let z : c.kind.result ≡ Text = cc in c.in_default.not-Text z in
    c.in_element-in_default.ensures
    ∙ (ap (λ v. element_of v c.args.inner.now) (c.tag_of.ensures ∙ ap tag_of here) ∙ sym (other-node f c.args.inner.now c.number-n.result (sym c.number-n.ensures) other))
