-- What every page keeps of its tree.
use Rattle.std.specs.Prelude.{◌≡◌, ℕ, ◌<◌, ◌≤◌, true, false, List, [], ◌∷◌, is_some}
use Rattle.utf8.specs.Table.{well_formed}
use Rattle.page.specs.Kinds.{is_element, is_document}
use Rattle.page.specs.Forest.{Forest, none, node, has, head_of, kids_of, rest_of, size, texts, levels}

-- no number stands twice
abbrev pub Unique : Forest → Type 0
Unique none = Unit {0}
Unique (node m k c a kids rest) =
    (has kids m ≡ false) × (has rest m ≡ false) × ((n : ℕ) → has kids n ≡ true → has rest n ≡ false) × Unique kids × Unique rest

-- every number is below b
abbrev pub Below : ℕ → Forest → Type 0
Below b none = Unit {0}
Below b (node m k c a kids rest) = (m < b) × Below b kids × Below b rest

-- attributes only on elements
abbrev pub Plain : Forest → Type 0
Plain none = Unit {0}
Plain (node m k c a kids rest) = (is_element k ≡ false → a ≡ []) × Plain kids × Plain rest

-- what holds below the root: no document, and children only under elements
abbrev pub Inner : Forest → Type 0
Inner none = Unit {0}
Inner (node m k c a kids rest) = (is_document k ≡ false) × (is_element k ≡ false → kids ≡ none) × Inner kids × Inner rest

-- names and values are well-formed UTF-8
abbrev pub AttrsFormed : List (List ℕ × List ℕ) → Type 0
AttrsFormed [] = Unit {0}
AttrsFormed (x ∷ xs) = (well_formed x.0 ≡ true) × (well_formed x.1 ≡ true) × AttrsFormed xs

-- every content, name and value is
abbrev pub WellFormed : Forest → Type 0
WellFormed none = Unit {0}
WellFormed (node m k c a kids rest) = (well_formed c ≡ true) × AttrsFormed a × WellFormed kids × WellFormed rest

-- the law of a page with a number bound and a tree
pub record Kept (bound : ℕ) (t : Forest) : Type 0 where
  pub some : is_some (head_of t) ≡ true
  pub alone : rest_of t ≡ none
  pub unique : Unique t
  pub below : Below bound t
  pub few : bound ≤ 8192
  pub flat : levels t ≤ 64
  pub short : texts t ≤ 131072
  pub formed : WellFormed t
  pub plain : Plain t
  pub inner : Inner (kids_of t)

-- and of each node, with what stands under it and behind it
pub record KeptNode (t : Forest) : Type 0 where
  pub unique : Unique t
  pub below : Below 8192 t
  pub few : size t ≤ 8192
  pub flat : levels t ≤ 64
  pub short : texts t ≤ 131072
  pub formed : WellFormed t
  pub plain : Plain t
