-- What every builder keeps: what is used is accepted by opening, and the builder stands at the last node or above it.
use Rattle.std.specs.Prelude.{ℕ, ◌+◌, Bool, false, not, ◌&&◌, ◌||◌, length, Some, None, Option, ◌==◌, nat_le, nat_lt}
use Rattle.table.specs.Table.{Table, node_at}
use Rattle.table.specs.Checks.{each, is_parent_code, accepts}
use Rattle.table.specs.Links.{depth_at, deepest}
use Rattle.linked.specs.Records.{all_linked}
use Rattle.builder.specs.State.{State, used_nodes, used_table}

-- each of the first n nodes that stands after p is deeper than p
abbrev pub deeper_after : Table → ℕ → ℕ → Bool
deeper_after t n p = each n (λ j. nat_le j p || nat_lt (depth_at t p) (depth_at t j))

-- the last child of a node, if it has any, is the last one at its depth; else the node is the last of all
abbrev pub last_ok : Table → ℕ → ℕ → Option ℕ → Bool
last_ok t n p None = p + 1 == n
last_ok t n p (Some q) = nat_lt p q && (nat_lt q n && (depth_at t q == depth_at t p + 1 && deeper_after t n q))

-- an element that was just given has no child
abbrev pub fresh_ok : Table → ℕ → Option ℕ → Bool
fresh_ok t p None = (node_at t p).kind == 4
fresh_ok t p (Some q) = false

abbrev pub sound : State → Bool
sound s =
    let t = used_table s in
    let n = s.used.nodes in
    let p = s.current in
    nat_le n (length s.nodes)
    && (nat_le s.used.attrs (length s.attrs)
    && (nat_le s.used.bytes (length s.bytes)
    && (accepts t
    && (all_linked (used_nodes s) t
    && (s.height == deepest t.nodes
    && (nat_lt p n
    && (is_parent_code (node_at t p).kind
    && (deeper_after t n p
    && (last_ok t n p s.last
    && (not s.fresh || fresh_ok t p s.last))))))))))
