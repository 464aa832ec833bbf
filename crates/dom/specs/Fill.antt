-- A table of the figures of every node, by number.
use Rattle.std.specs.Prelude.{◌≡◌, ℕ, ◌<◌, true, List, length, slice_index_or, slice_set}
use Rattle.page.specs.Forest.{Forest, none, node, find, has, kids_of}
use Rattle.dom.specs.declared.under.Under.{Under}
use Rattle.dom.specs.Under.{under_of}

-- a table with the figures of each node of a forest written at its number
abbrev pub fill_all : Forest → List Under → List Under
fill_all none xs = xs
fill_all (node m k c a kids rest) xs = fill_all rest (slice_set (fill_all kids xs) m (under_of kids))

-- every node whose number the table holds has its figures there
abbrev pub Measured : Forest → List Under → Type 0
Measured t xs = (n : ℕ) (d : Under) → has t n ≡ true → n < length xs → slice_index_or xs n d ≡ under_of (kids_of (find t n))
