use Rattle.std.proofs.Common.{◌≡◌, ℕ, List, [], ◌∷◌, ◌++◌, get_or, is_some, vec_items, ap, ◌∙◌, append_assoc}
use Rattle.page.specs.Forest.{attrs_of}
use Rattle.render.specs.Render.{quoted, attr_text}
use Rattle.render.specs.Found.{bytes_in}
use Rattle.render.proofs.Attributes.{attr-name, attr-value}
use Rattle.render.proofs.line.push_attr.Goals as goal

pub push_part-requires : goal.push_part-requires
push_part-requires g c = ap is_some (attr-name c.args.node.now c.args.j c.requires)

pub push_part-requires-2 : goal.push_part-requires-2
push_part-requires-2 g c = ap is_some (attr-value c.args.node.now c.args.j c.requires)

-- the four pieces of an attribute
pieces : (E n v : List ℕ) → (((E ++ (32 ∷ [])) ++ quoted n) ++ (61 ∷ [])) ++ quoted v ≡ E ++ attr_text (n, v)
pieces E n v = simp append_assoc

pub returns : goal.returns
returns g c =
    let f = c.args.node.now in
    let j = c.args.j in
    let a = get_or (attrs_of f) j ([], []) in
    let E = vec_items c.args.out.now in
    let name = ap (λ o. quoted (bytes_in o)) (attr-name f j c.requires) in
    let value = ap (λ o. quoted (bytes_in o)) (attr-value f j c.requires) in
    let one = c.in_ok-push.ensures.items in
    let two = c.in_ok-push_part.ensures ∙ (λ q. one q ++ name q) in
    let three = c.in_ok-push-2.ensures.items ∙ ap (λ l. l ++ (61 ∷ [])) two in
    c.in_ok-push_part-2.ensures ∙ ((λ q. three q ++ value q) ∙ pieces E a.0 a.1)
