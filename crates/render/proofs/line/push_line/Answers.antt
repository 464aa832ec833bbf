use Rattle.std.proofs.Common.{◌≡◌, ℕ, ◌*◌, List, [], ◌∷◌, ◌++◌, replicate, Some, vec_items, ap, ◌∙◌, append_assoc}
use Rattle.page.specs.declared.kind.NodeKind.{NodeKind}
use Rattle.page.specs.Forest.{Forest, none, node, kind_of, attrs_of}
use Rattle.render.specs.Render.{word, attrs_text}
use Rattle.render.specs.Found.{content_in, line_of}
use Rattle.render.proofs.line.push_line.Goals as goal

-- the five pieces of a line
pieces : (f : Forest) (k : NodeKind) (d : ℕ) (E : List ℕ) → Some k ≡ kind_of f
    → ((((E ++ replicate (2 * d) 32) ++ word k) ++ content_in f) ++ attrs_text (attrs_of f)) ++ (10 ∷ []) ≡ E ++ line_of d f
pieces none k d E e = cc
pieces (node m j c a kids rest) k d E e =
    let z : k ≡ j = cc in
    rw z (simp append_assoc)

pub returns : goal.returns
returns g c =
    let f = c.args.node.now in
    let k = c.kind.result in
    let E = vec_items c.args.out.now in
    let one = c.in_ok-push_indent.ensures in
    let two = c.in_ok-extend_from_slice.ensures.items ∙ (λ q. one q ++ c.kind_word.ensures q) in
    let three = c.in_ok-push_content.ensures ∙ ap (λ l. l ++ content_in f) two in
    let four = c.in_ok-push_attrs.ensures ∙ ap (λ l. l ++ attrs_text (attrs_of f)) three in
    c.in_ok-push.ensures.items ∙ (ap (λ l. l ++ (10 ∷ [])) four ∙ pieces f k c.args.depth E c.kind.ensures.kind)
