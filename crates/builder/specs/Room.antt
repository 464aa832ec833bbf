-- What a store has to have so that a node or an attribute can be added.
use Rattle.std.specs.Prelude.{ℕ, ◌+◌, ◌<◌, ◌≤◌, List, length, Some, None, Option}
use Rattle.builder.specs.State.{State}
use Rattle.builder.specs.After.{open_node, next_depth}

-- a link stays below n
abbrev pub Below : Option ℕ → ℕ → Type 0
Below None n = Unit {0}
Below (Some q) n = q < n

pub record NodeRoom (s : State) (c : List ℕ) : Type 0 where
  pub free : s.used.nodes < length s.nodes
  pub few : s.used.nodes < 4096
  pub fits : s.used.bytes + length c ≤ length s.bytes
  pub short : s.used.bytes + length c ≤ 131072
  pub attrs : s.used.attrs ≤ 8192
  pub shallow : next_depth s ≤ 62
  pub inside : s.current < s.used.nodes
  pub last : Below s.last s.used.nodes

pub record AttrRoom (s : State) (name value : List ℕ) : Type 0 where
  pub free : s.used.attrs < length s.attrs
  pub fits : s.used.bytes + (length name + length value) ≤ length s.bytes
  pub short : s.used.bytes + (length name + length value) ≤ 131072
  pub narrow_name : length name < 65536
  pub narrow_value : length value < 65536
  pub few : (open_node s).node.attrs < 8192
  pub inside : s.current < length s.nodes
