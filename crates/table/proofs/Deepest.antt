-- The height of the tree of accepted records is the depth of the deepest.
use Rattle.std.proofs.Common.{◌≡◌, ℕ, zero, suc, ◌+◌, ◌-◌, max, List, [], ◌∷◌, ◌++◌, length, drop, fold, sym, refl, ap, ◌∙◌, arith}
use Rattle.std.specs.List.{range_with_len}
use Rattle.std.proofs.lemmas.List.{drop_all, drop_more}
use Rattle.page.specs.Forest.{Forest, none, node, levels, height_of}
use Rattle.table.specs.Rows.{Row, flatten}
use Rattle.table.specs.Table.{Table, no_node, rows_of, tree_of}
use Rattle.table.specs.Tabulate.{bytes_of, node_records}
use Rattle.table.specs.Links.{depth_at, deepest}
use Rattle.table.proofs.Round.{rows_of-tree}
use Rattle.table.proofs.Accepted.{Accepted, table-formed}
use Rattle.table.proofs.Tabulated.{tabulated}

-- one more than the depth of the deepest row, or 0 where there is none
abbrev under : List Row → ℕ
under [] = 0
under (x ∷ xs) = max (suc x.depth) (under xs)

under-append : (xs ys : List Row) → under (xs ++ ys) ≡ max (under xs) (under ys)
under-append [] ys = omega arith
under-append (x ∷ xs) ys = omega (arith, under-append xs ys)

under-flatten : (t : Forest) (d : ℕ) → max d (under (flatten d t)) ≡ d + levels t
under-flatten none d = omega arith
under-flatten (node m k c a kids rest) d = omega (arith, under-append (flatten (suc d) kids) (flatten d rest), under-flatten kids (suc d), under-flatten rest d)

deepest-rows : (xs : List Row) (a b : ℕ) → deepest (node_records a b xs) ≡ under xs - 1
deepest-rows [] a b = refl
deepest-rows (x ∷ xs) a b = omega (arith, deepest-rows xs (a + length x.attrs) (b + length (bytes_of x)))

-- the greatest depth of k nodes from i on, to the end
greatest : (t : Table) (k i m : ℕ) → i + k ≡ length t.nodes → fold (λ a j. max a (depth_at t j)) m (range_with_len i k) ≡ max m (deepest (drop i t.nodes))
greatest t zero i m e = omega (arith, ap deepest (drop_all i t.nodes (omega arith)))
greatest t (suc k) i m e = omega (arith, greatest t k (i + 1) (max m (depth_at t i)) (omega arith), ap deepest (drop_more t.nodes i no_node (omega arith)))

pub deepest-range : (t : Table) (n : ℕ) → n ≡ length t.nodes → fold (λ a j. max a (depth_at t j)) 0 (range_with_len 0 n) ≡ deepest t.nodes
deepest-range t n e = omega (arith, greatest t n 0 0 (omega arith))

pub height-deepest : (t : Table) → Accepted t → deepest t.nodes ≡ height_of (tree_of t)
height-deepest t acc =
    let rows = (rows_of-tree (rows_of t) (table-formed t acc)).0 in
    ap (λ (s : Table). deepest s.nodes) (sym (tabulated t acc))
    ∙ (deepest-rows (rows_of t) 0 0 ∙ omega (arith, ap under rows, under-flatten (tree_of t) 0))
