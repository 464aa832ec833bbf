-- A forest as a list that gives it back, as the view of a type needs it: the nodes in document order, and an empty mark
-- behind the last child and the last sibling.
use Rattle.std.specs.Prelude.{◌≡◌, ℕ, List, [], ◌∷◌, ◌++◌, Some, None, Option, refl}
use Rattle.std.specs.Coded.{Coded, code_by, coded×, coded_ℕ, coded_list, coded_option}
use Rattle.std.proofs.Common.{sym, ap, ◌∙◌, append_assoc, append-nil}
use Rattle.page.specs.declared.kind.NodeKind.{NodeKind}
use Rattle.page.specs.declared.kind.NodeKind.TheVariants.{Document, Doctype, Text, Comment, Element}
use Rattle.page.specs.Kinds.{code, coded}
use Rattle.page.specs.Forest.{Forest, none, node}

-- number, kind, content, attributes
abbrev pub Row : Type 0
Row = ℕ × (ℕ × (List ℕ × List (List ℕ × List ℕ)))

abbrev pub rows : Forest → List (Option Row)
rows none = None ∷ []
rows (node m k c a kids rest) = Some (m, (code k, (c, a))) ∷ (rows kids ++ rows rest)

abbrev pub kind_or_text : Option NodeKind → NodeKind
kind_or_text None = Text
kind_or_text (Some k) = k

-- a row over the forests of its children and its siblings
abbrev pub over : Row → List Forest → List Forest
over r [] = []
over r (kids ∷ []) = []
over r (kids ∷ rest ∷ fs) = node r.0 (kind_or_text (coded r.1.0)) r.1.1.0 r.1.1.1 kids rest ∷ fs

-- the forests that rows one after the other give
abbrev pub forests : List (Option Row) → List Forest
forests [] = []
forests (None ∷ rs) = none ∷ forests rs
forests (Some r ∷ rs) = over r (forests rs)

abbrev pub first_of : List Forest → Forest
first_of [] = none
first_of (f ∷ fs) = f

kind-back : (k : NodeKind) → kind_or_text (coded (code k)) ≡ k
kind-back Document = refl
kind-back Doctype = refl
kind-back Text = refl
kind-back Comment = refl
kind-back Element = refl

forests-rows : (f : Forest) (rs : List (Option Row)) → forests (rows f ++ rs) ≡ f ∷ forests rs
forests-rows none rs = refl
forests-rows (node m k c a kids rest) rs =
    ap (λ l. over (m, (code k, (c, a))) (forests l)) (append_assoc (rows kids) (rows rest) rs)
    ∙ (ap (over (m, (code k, (c, a)))) (forests-rows kids (rows rest ++ rs) ∙ ap (λ l. kids ∷ l) (forests-rows rest rs))
    ∙ ap (λ e. node m e c a kids rest ∷ forests rs) (kind-back k))

pub rows-back : (f : Forest) → first_of (forests (rows f)) ≡ f
rows-back f = ap first_of (ap forests (sym (append-nil (rows f))) ∙ forests-rows f [])

abbrev pub forest_code : Coded Forest
forest_code =
    code_by (List (Option Row)) (coded_list (coded_option (coded× coded_ℕ (coded× coded_ℕ (coded× (coded_list coded_ℕ) (coded_list (coded× (coded_list coded_ℕ) (coded_list coded_ℕ)))))))) rows (λ rs. first_of (forests rs)) rows-back
