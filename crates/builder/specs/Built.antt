-- What a builder has built.
use Rattle.page.specs.Forest.{Forest}
use Rattle.table.specs.Table.{tree_of}
use Rattle.builder.specs.declared.build.Builder.{Builder}
use Rattle.builder.specs.State.{State, used_table}
use Rattle.builder.specs.Stored.{state_in}

abbrev pub state_of : Builder → State
state_of b = state_in b.store

-- the tree of the records that are used
abbrev pub built_tree : State → Forest
built_tree s = tree_of (used_table s)
