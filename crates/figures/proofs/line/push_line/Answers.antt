-- The number and the name, and then the figures.
use Rattle.std.proofs.Common.{◌≡◌, ℕ, ℤ, ◌++◌, Bool, true, false, is_some, unwrap_or, Some, vec_items, refl, rules, sym, ap, ◌∙◌, subst, append_assoc, arith, w32, to_z, of_z}
use Rattle.std.specs.Bool.{then_some}
use Rattle.std.proofs.lemmas.Int.{ints}
use Rattle.page.specs.declared.kind.NodeKind.TheVariants.{Element}
use Rattle.page.specs.declared.kind.Part.TheVariants.{Content}
use Rattle.page.specs.Forest.{find, kind_of, kids_of, attrs_of, part_of}
use Rattle.text.specs.Held.{bytes_in}
use Rattle.names.specs.Tags.{tag_of}
use Rattle.dom.specs.Deep.{text_length, link_length}
use Rattle.dom.specs.Small.{Bounded}
use Rattle.dom.proofs.Bounds.{room_node, room-kids, bounded}
use Rattle.scorer.specs.Content.{qualifies_by, qualifies_in, score_by, score_of, content_score}
use Rattle.scorer.specs.Weight.{class_weight}
use Rattle.scorer.proofs.Deeps.{deep-formed, formed-kids, score-of}
use Rattle.figures.specs.Points.{numbered, figures_text}
use Rattle.figures.proofs.Elements.{element-line}
use Rattle.figures.proofs.line.push_line.Goals as goal

-- what is written of a score that is there if the element qualifies
said : (t l : ℕ) (w : ℤ) (b : Bool) (x : ℕ) → figures_text t l w (is_some (then_some b x)) (unwrap_or (then_some b x) 0) ≡ figures_text t l w b x
said t l w true x = refl
said t l w false x = refl

pub returns : goal.returns
returns g c =
    let f = c.args.node.now in
    let n = c.number-n.result in
    let here : find (g.P.Page.tree c.page-p.result.now) n ≡ f = c.page-p.ensures n (sym c.number-n.ensures) in
    let kids = kids_of f in
    let under = c.args.under.now in
    let is = c.requires in
    let k : Some Element ≡ kind_of f = ap Some (sym c.in-Element.is) ∙ c.kind.ensures.kind in
    let kept = c.kind.ensures.kept in
    let score : score_by under ≡ content_score f = score-of kids under is (subst Bounded (sym is) (bounded kids (room-kids f (room_node f kept)))) ∙ ap score_of (deep-formed kids (formed-kids f kept.formed)) in
    let yes : c.qualifies_by.result ≡ qualifies_in f = c.qualifies_by.ensures ∙ (let tag = c.tag_of.ensures ∙ ap tag_of here in λ i. qualifies_by (tag i) (is i)) in
    let r = c.get_class_weight-weight.result in
    let asked : c.then-score.result ≡ then_some c.qualifies_by.result (score_by under) = search rules in
    let back : to_z w32 (of_z w32 r) ≡ r = omega (arith, ints, c.get_class_weight-weight.ensures.low, c.get_class_weight-weight.ensures.high) in
    let weight : to_z w32 (of_z w32 r) ≡ class_weight (attrs_of f) = back ∙ (c.get_class_weight-weight.ensures.value ∙ ap (λ x. class_weight (attrs_of x)) here) in
    let E = vec_items c.args.out.now in
    let N = numbered n (bytes_in (part_of f Content)) in
    let F = figures_text (text_length kids) (link_length kids) (class_weight (attrs_of f)) (qualifies_in f) (content_score f) in
    let name = c.in_ok-push_name.ensures ∙ ap (λ x. E ++ numbered n (bytes_in (part_of x Content))) here in
    let text = c.as_bytes.ensures.value ∙ (c.in_ok-text.ensures ∙ (ap (λ o. figures_text under.text under.links (to_z w32 (of_z w32 r)) (is_some o) (unwrap_or o 0)) asked ∙ (said under.text under.links (to_z w32 (of_z w32 r)) c.qualifies_by.result (score_by under) ∙ (λ i. figures_text (is i).text (is i).links (weight i) (yes i) (score i))))) in
    c.in_ok-extend_from_slice.ensures.items
    ∙ ((λ i. name i ++ text i) ∙ (append_assoc E N F ∙ ap (λ l. E ++ l) (sym (element-line f n (sym c.number-n.ensures) k))))
