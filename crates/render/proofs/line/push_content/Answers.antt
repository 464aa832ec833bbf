use Rattle.std.proofs.Common.{◌≡◌, ℕ, [], ◌∷◌, ◌++◌, true, is_some, Some, vec_items, sym, refl, ap, ◌∙◌, append_assoc, append-nil, arith}
use Rattle.page.specs.declared.kind.NodeKind.{NodeKind}
use Rattle.page.specs.declared.kind.NodeKind.TheVariants.{Document, Doctype, Text, Comment, Element}
use Rattle.page.specs.declared.kind.Part.TheVariants.{Content}
use Rattle.page.specs.Forest.{Forest, none, node, kind_of, part_of}
use Rattle.render.specs.Render.{quoted, content_text}
use Rattle.render.specs.Found.{content_in, part_bytes}
use Rattle.render.proofs.line.push_content.Goals as goal

-- the document has no content in its line
no-content : (f : Forest) → Some Document ≡ kind_of f → content_in f ≡ []
no-content none e = refl
no-content (node m k c a kids rest) e = let z : k ≡ Document = cc in ap (λ j. content_text j c) z

some-content : (f : Forest) (k : NodeKind) → Some k ≡ kind_of f → (k ≡ Document → ⊥) → content_in f ≡ 32 ∷ quoted (part_bytes f Content)
some-content none k e h = cc
some-content (node m j c a kids rest) k e h = let z : j ≡ k = cc in go j (λ (y : j ≡ Document). h (sym z ∙ y))
  where
    go : (i : NodeKind) → (i ≡ Document → ⊥) → content_text i c ≡ 32 ∷ quoted c
    go Document h = absurd (h refl)
    go Doctype h = refl
    go Text h = refl
    go Comment h = refl
    go Element h = refl

content-there : (f : Forest) (k : NodeKind) → Some k ≡ kind_of f → is_some (part_of f Content) ≡ true
content-there none k e = absurd (let z : ◌≡◌ {A = ℕ} 0 1 = cc in omega arith)
content-there (node m j c a kids rest) k e = refl

pub push_part-requires : goal.push_part-requires
push_part-requires g c = content-there c.args.node.now c.kind.result c.kind.ensures.kind

pub returns-in-Document : goal.returns-in-Document
returns-in-Document g c =
    let f = c.args.node.now in
    sym (ap (λ l. vec_items c.args.out.now ++ l) (no-content f (ap Some (sym c.in-Document.is) ∙ c.kind.ensures.kind)) ∙ append-nil (vec_items c.args.out.now))

pub returns : goal.returns
returns g c =
    let f = c.args.node.now in
    let E = vec_items c.args.out.now in
    c.in_ok-push_part.ensures
    ∙ (ap (λ l. l ++ quoted (part_bytes f Content)) c.in_ok-push.ensures.items
    ∙ (append_assoc E (32 ∷ []) (quoted (part_bytes f Content)) ∙ ap (λ l. E ++ l) (sym (some-content f c.kind.result c.kind.ensures.kind c.in_default.not-Document))))
