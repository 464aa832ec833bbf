-- Worked examples of text, page files and their outlines.
use Rattle.std.specs.Prelude.{◌≡◌, ℕ, Bool, true, false, List, [], ◌∷◌, ◌++◌, replicate, codes}
use Rattle.std.specs.List.{AllByRecursion}
use Rattle.utf8.specs.Table.{well_formed}
use Rattle.page.specs.declared.kind.NodeKind.TheVariants.{Document, Text, Element}
use Rattle.page.specs.Forest.{Forest, none, node}
use Rattle.pagefile.specs.Format.{encode}
use Rattle.pagefile.specs.Opened.{document_alone}
use Rattle.render.specs.Outline.{outline_of}

-- bytes, and whether they are well-formed UTF-8
abbrev pub texts : List (List ℕ × Bool)
texts =
    ([], true)
    ∷ (codes "a", true)
    ∷ (195 ∷ 169 ∷ [], true)
    ∷ (224 ∷ 160 ∷ 128 ∷ [], true)
    ∷ (224 ∷ 128 ∷ 128 ∷ [], false)
    ∷ (237 ∷ 159 ∷ 191 ∷ [], true)
    ∷ (237 ∷ 160 ∷ 128 ∷ [], false)
    ∷ (244 ∷ 143 ∷ 191 ∷ 191 ∷ [], true)
    ∷ (244 ∷ 144 ∷ 128 ∷ 128 ∷ [], false)
    ∷ (226 ∷ 130 ∷ [], false)
    ∷ []

abbrev pub Texts : Type 0
Texts = AllByRecursion (λ e. well_formed e.0 ≡ e.1) texts

pub record Page : Type 0 where
  pub tree : Forest
  pub file : List ℕ
  pub text : List ℕ

-- a paragraph with an id, holding the text "a"
abbrev pub paragraph : Forest
paragraph = node 0 Document [] [] (node 1 Element (codes "p") ((codes "id", codes "x") ∷ []) (node 2 Text (codes "a") [] none none) none) none

-- trees, their files and their outlines
abbrev pub pages : List Page
pages =
    record { tree = document_alone; file = 1 ∷ replicate 27 0; text = codes "# 1 nodes, 0 attributes, 0 bytes\ndocument\n" }
    ∷ record {
      tree = paragraph;
      file =
          (3 ∷ 0 ∷ 0 ∷ 0 ∷ [])
          ++ ((0 ∷ 0 ∷ 0 ∷ 0 ∷ 0 ∷ 0 ∷ 0 ∷ 0 ∷ 0 ∷ 0 ∷ 0 ∷ 0 ∷ 0 ∷ 0 ∷ 0 ∷ 0 ∷ [])
          ++ ((4 ∷ 1 ∷ 1 ∷ 0 ∷ 0 ∷ 0 ∷ 0 ∷ 0 ∷ 0 ∷ 0 ∷ 0 ∷ 0 ∷ 1 ∷ 0 ∷ 0 ∷ 0 ∷ [])
          ++ ((2 ∷ 2 ∷ 0 ∷ 0 ∷ 1 ∷ 0 ∷ 0 ∷ 0 ∷ 4 ∷ 0 ∷ 0 ∷ 0 ∷ 1 ∷ 0 ∷ 0 ∷ 0 ∷ [])
          ++ ((1 ∷ 0 ∷ 0 ∷ 0 ∷ [])
          ++ ((2 ∷ 0 ∷ 1 ∷ 0 ∷ 1 ∷ 0 ∷ 0 ∷ 0 ∷ [])
          ++ ((5 ∷ 0 ∷ 0 ∷ 0 ∷ []) ++ codes "pidxa"))))));
      text = codes "# 3 nodes, 1 attributes, 5 bytes\ndocument\n  element \"p\" \"id\"=\"x\"\n    text \"a\"\n";
    }
    ∷ []

abbrev pub Pages : Type 0
Pages = AllByRecursion (λ (e : Page). (encode e.tree ≡ e.file) × (outline_of e.file ≡ e.text)) pages

-- files that are refused, and the line that is printed
abbrev pub refusals : List (List ℕ × List ℕ)
refusals =
    ([], codes "refused 11 1\n")
    ∷ (0 ∷ 0 ∷ 0 ∷ 0 ∷ [], codes "refused 12 1\n")
    ∷ (1 ∷ replicate 28 0, codes "refused 11 3\n")
    ∷ ((1 ∷ 0 ∷ 0 ∷ 0 ∷ 4 ∷ []) ++ replicate 23 0, codes "refused 13 0\n")
    ∷ []

abbrev pub Refused : Type 0
Refused = AllByRecursion (λ e. outline_of e.0 ≡ e.1) refusals
