-- A table that lists the figures of each node of a forest.
use Rattle.std.specs.Prelude.{◌≡◌, ◌<◌, List, length, slice_index_or}
use Rattle.page.specs.Forest.{Forest, none, node}
use Rattle.dom.specs.declared.under.Under.{Under}
use Rattle.dom.specs.Under.{under_of}

abbrev pub Listed : List Under → Forest → Type 0
Listed xs none = Unit {0}
Listed xs (node m k c a kids rest) = (m < length xs) × ((d : Under) → slice_index_or xs m d ≡ under_of kids) × Listed xs kids × Listed xs rest
