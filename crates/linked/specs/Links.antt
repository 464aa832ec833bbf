-- The links of a node that the depths in document order mean.
use Rattle.std.specs.Prelude.{ℕ, zero, suc, ◌-◌, Bool, true, false, cond, length, Some, None, Option, ◌==◌, nat_lt}
use Rattle.table.specs.Table.{Table}
use Rattle.table.specs.Links.{depth_at}

-- the last of the first i nodes that is less deep than d
abbrev pub last_above : Table → ℕ → ℕ → Option ℕ
last_above t d zero = None
last_above t d (suc i) = cond (nat_lt (depth_at t i) d) (Some i) (last_above t d i)

-- the first of k nodes from j on that is not deeper than d, if it stands at d
abbrev pub first_at : Table → ℕ → ℕ → ℕ → Option ℕ
first_at t d j zero = None
first_at t d j (suc k) = cond (nat_lt d (depth_at t j)) (first_at t d (suc j) k) (cond (depth_at t j == d) (Some j) None)

-- the parent is the last node before that is less deep
abbrev pub parent_link : Table → ℕ → Option ℕ
parent_link t i = last_above t (depth_at t i) i

-- the first child is the node behind, where that is deeper
abbrev pub child_link : Table → ℕ → Option ℕ
child_link t i = cond (nat_lt (depth_at t i) (depth_at t (suc i))) (Some (suc i)) None

-- the next sibling is the next node that is not deeper, where that is as deep
abbrev pub sibling_link : Table → ℕ → Option ℕ
sibling_link t i = first_at t (depth_at t i) (suc i) (length t.nodes - suc i)

-- whether two links are the same
abbrev pub same_link : Option ℕ → Option ℕ → Bool
same_link None None = true
same_link None (Some n) = false
same_link (Some m) None = false
same_link (Some m) (Some n) = m == n
