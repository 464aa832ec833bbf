-- What the fields of a builder's store mean.
use Rattle.builder.specs.declared.store.Store.{Store}
use Rattle.builder.specs.State.{State}

abbrev pub state_in : Store → State
state_in s = record {
  nodes = s.nodes.items.now;
  attrs = s.attrs.items.now;
  bytes = s.bytes.items.now;
  used = record { nodes = s.nodes.used; attrs = s.attrs.used; bytes = s.bytes.used };
  height = s.height;
  current = s.current;
  last = s.last;
  fresh = s.fresh;
}
