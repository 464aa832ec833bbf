-- Where a node's parent and the end of what stands under it are, by the depths in document order.
use Rattle.std.specs.Prelude.{◌≡◌, ℕ, ◌<◌, ◌≤◌, max, List, [], ◌∷◌, Option, None, Some}
use Rattle.table.specs.declared.record.NodeRecord.{NodeRecord}
use Rattle.table.specs.Table.{Table, node_at}

abbrev pub depth_at : Table → ℕ → ℕ
depth_at t i = (node_at t i).depth

-- p is the last node before k that is less deep
abbrev pub ParentOf : Table → ℕ → ℕ → Type 0
ParentOf t k p = (p < k) × (depth_at t p < depth_at t k) × ((j : ℕ) → p < j → j < k → depth_at t k ≤ depth_at t j)

-- o is the first node after k, of the first n, that is not deeper than k, or none where none is
abbrev pub EndOf : Table → ℕ → ℕ → Option ℕ → Type 0
EndOf t n k o =
    (o ≡ None → (j : ℕ) → k < j → j < n → depth_at t k < depth_at t j)
    × ((e : ℕ) → o ≡ Some e → (k < e) × (e < n) × (depth_at t e ≤ depth_at t k) × ((j : ℕ) → k < j → j < e → depth_at t k < depth_at t j))

-- how deep the deepest node stands
abbrev pub deepest : List NodeRecord → ℕ
deepest [] = 0
deepest (x ∷ xs) = max x.depth (deepest xs)
