-- Worked examples of punctuation and of qualifying.
use Rattle.std.specs.Prelude.{◌≡◌, ℕ, Bool, true, false, List, [], ◌∷◌, replicate, codes}
use Rattle.std.specs.List.{AllByRecursion}
use Rattle.page.specs.declared.kind.NodeKind.TheVariants.{Text, Element}
use Rattle.page.specs.Forest.{Forest, none, node}
use Rattle.text.specs.declared.marks.State.TheVariants.{Plain}
use Rattle.text.specs.Marks.{hits}
use Rattle.scorer.specs.Content.{qualifies_in}

-- texts, and how many marks they have
abbrev pub marked : List (List ℕ × ℕ)
marked = (codes "Hi. Go, now!", 3) ∷ (codes "a.b,5.", 0) ∷ (codes "...", 1) ∷ []

abbrev pub Marked : Type 0
Marked = AllByRecursion (λ e. hits Plain e.0 ≡ e.1) marked

-- a paragraph over so many letters n
abbrev pub paragraph : ℕ → Forest
paragraph k = node 0 Element (codes "p") [] (node 1 Text (replicate k 110) [] none none) none

-- lengths, and whether such a paragraph qualifies
abbrev pub lengths : List (ℕ × Bool)
lengths = (19, false) ∷ (20, true) ∷ []

abbrev pub Qualifying : Type 0
Qualifying = AllByRecursion (λ e. qualifies_in (paragraph e.0) ≡ e.1) lengths
