-- The line of an element, and the lines of a forest.
use Rattle.std.proofs.Common.{◌≡◌, ℕ, ◌++◌, Some, refl, ap, ◌∙◌, arith}
use Rattle.page.specs.declared.kind.NodeKind.TheVariants.{Element}
use Rattle.page.specs.declared.kind.Part.TheVariants.{Content}
use Rattle.page.specs.Forest.{Forest, none, node, head_of, kind_of, attrs_of, kids_of, rest_of, part_of}
use Rattle.text.specs.Held.{bytes_in}
use Rattle.dom.specs.Deep.{text_length, link_length}
use Rattle.scorer.specs.Content.{qualifies_in, content_score}
use Rattle.scorer.specs.Weight.{class_weight}
use Rattle.figures.specs.Points.{numbered, figures_text, if_element, element_line, point_lines}

pub element-line : (f : Forest) (n : ℕ) → head_of f ≡ Some n → Some Element ≡ kind_of f
    → element_line f ≡ numbered n (bytes_in (part_of f Content)) ++ figures_text (text_length (kids_of f)) (link_length (kids_of f)) (class_weight (attrs_of f)) (qualifies_in f) (content_score f)
element-line none n h e = absurd (let z : ◌≡◌ {A = ℕ} 0 1 = cc in omega arith)
element-line (node m k c a kids rest) n h e =
    let is : k ≡ Element = cc in
    let same : m ≡ n = cc in
    let F = figures_text (text_length kids) (link_length kids) (class_weight a) (qualifies_in (node m k c a kids rest)) (content_score (node m k c a kids rest)) in
    ap (λ j. if_element j (numbered m c ++ F)) is ∙ ap (λ j. numbered j c ++ F) same

-- the lines of a forest: the first node's, those under it, and the rest
pub line-parts : (f : Forest) → point_lines f ≡ element_line f ++ (point_lines (kids_of f) ++ point_lines (rest_of f))
line-parts none = refl
line-parts (node m k c a kids rest) = refl
