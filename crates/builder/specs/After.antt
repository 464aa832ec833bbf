-- What an event answers, and what it leaves.
use Rattle.std.specs.Prelude.{ℕ, ◌+◌, min, max, Bool, true, false, cond, not, ◌&&◌, List, [], ◌∷◌, ◌++◌, length, Some, None, Option, ◌==◌, nat_le, nat_lt, slice_index_or, slice_set}
use Rattle.std.specs.Option.{unwrap_or}
use Rattle.utf8.specs.Table.{well_formed}
use Rattle.page.specs.declared.kind.NodeKind.{NodeKind}
use Rattle.page.specs.declared.kind.NodeKind.TheVariants.{Doctype, Text, Comment, Element}
use Rattle.page.specs.Kinds.{code}
use Rattle.table.specs.declared.record.Section.TheVariants.{Nodes, Attributes, Bytes}
use Rattle.table.specs.Checks.{most}
use Rattle.linked.specs.declared.node.LinkedNode.{LinkedNode}
use Rattle.linked.specs.Records.{no_linked}
use Rattle.builder.specs.declared.refusal.BuildRefusal.{BuildRefusal}
use Rattle.builder.specs.declared.refusal.BuildRefusal.TheVariants.{Misplaced, Full, TooDeep, IllFormed}
use Rattle.builder.specs.Put.{put}
use Rattle.builder.specs.State.{State}
use Rattle.builder.specs.Events.{Event, element, attribute, text, comment, doctype, close}

-- the record of the innermost open node, and the depth of the next node
abbrev pub open_node : State → LinkedNode
open_node s = slice_index_or s.nodes s.current no_linked

abbrev pub next_depth : State → ℕ
next_depth s = (open_node s).node.depth + 1

-- room is the smaller of what is lent and what a file may have
abbrev pub node_free : State → Bool
node_free s = nat_lt s.used.nodes (min (length s.nodes) (most Nodes))

abbrev pub attr_free : State → Bool
attr_free s = nat_lt s.used.attrs (min (length s.attrs) (most Attributes))

abbrev pub bytes_free : State → ℕ → Bool
bytes_free s n = nat_le (s.used.bytes + n) (min (length s.bytes) (most Bytes))

-- a length fits the two bytes of its field
abbrev pub narrow : List ℕ → Bool
narrow c = nat_lt (length c) 65536

-- the questions of an event in their order, each with the refusal where it is answered no
abbrev pub of_node : State → List ℕ → List (Bool × BuildRefusal)
of_node s c = (node_free s && bytes_free s (length c), Full) ∷ (nat_le (next_depth s) 62, TooDeep) ∷ (well_formed c, IllFormed) ∷ []

abbrev pub questions : State → Event → List (Bool × BuildRefusal)
questions s (element c) = of_node s c
questions s (attribute n v) =
    (s.fresh, Misplaced)
    ∷ (narrow n && (narrow v && (attr_free s && bytes_free s (length n + length v))), Full)
    ∷ (well_formed n && well_formed v, IllFormed)
    ∷ []
questions s (text c) = of_node s c
questions s (comment c) = of_node s c
questions s (doctype c) = of_node s c
questions s close = (not (s.current == 0), Misplaced) ∷ []

-- the first question answered no
abbrev pub first_no : List (Bool × BuildRefusal) → Option BuildRefusal
first_no [] = None
first_no (q ∷ qs) = cond q.0 (first_no qs) (Some q.1)

abbrev pub answer : State → Event → Option BuildRefusal
answer s e = first_no (questions s e)

-- a record with a link to n
abbrev pub with_child : LinkedNode → ℕ → LinkedNode
with_child x n = record { node = x.node; parent = x.parent; first_child = Some n; next_sibling = x.next_sibling }

abbrev pub with_next : LinkedNode → ℕ → LinkedNode
with_next x n = record { node = x.node; parent = x.parent; first_child = x.first_child; next_sibling = Some n }

-- node n entered in the record of its previous sibling, or as first child in that of its parent
abbrev pub enter : List LinkedNode → ℕ → Option ℕ → ℕ → List LinkedNode
enter xs parent None n = slice_set xs parent (with_child (slice_index_or xs parent no_linked) n)
enter xs parent (Some q) n = slice_set xs q (with_next (slice_index_or xs q no_linked) n)

abbrev pub new_node : State → NodeKind → List ℕ → LinkedNode
new_node s k c = record {
  node = record { kind = code k; depth = next_depth s; attrs = 0; first = s.used.attrs; start = s.used.bytes; len = length c };
  parent = Some s.current;
  first_child = None;
  next_sibling = None;
}

-- one node more under the innermost open one
abbrev pub with_node : State → NodeKind → List ℕ → State
with_node s k c = record {
  nodes = slice_set (enter s.nodes s.current s.last s.used.nodes) s.used.nodes (new_node s k c);
  attrs = s.attrs;
  bytes = put s.bytes s.used.bytes c;
  used = record { nodes = s.used.nodes + 1; attrs = s.used.attrs; bytes = s.used.bytes + length c };
  height = max s.height (next_depth s);
  current = s.current;
  last = Some s.used.nodes;
  fresh = false;
}

-- node n, which has no child, is open
abbrev pub inside : State → ℕ → State
inside s n = record { nodes = s.nodes; attrs = s.attrs; bytes = s.bytes; used = s.used; height = s.height; current = n; last = None; fresh = true }

-- a record with one attribute more
abbrev pub one_more : LinkedNode → LinkedNode
one_more x = record {
  node = record { kind = x.node.kind; depth = x.node.depth; attrs = x.node.attrs + 1; first = x.node.first; start = x.node.start; len = x.node.len };
  parent = x.parent;
  first_child = x.first_child;
  next_sibling = x.next_sibling;
}

-- one attribute more of the innermost open node
abbrev pub with_attr : State → List ℕ → List ℕ → State
with_attr s n v = record {
  nodes = slice_set s.nodes s.current (one_more (open_node s));
  attrs = slice_set s.attrs s.used.attrs (record { name = length n; value = length v; start = s.used.bytes });
  bytes = put s.bytes s.used.bytes (n ++ v);
  used = record { nodes = s.used.nodes; attrs = s.used.attrs + 1; bytes = s.used.bytes + (length n + length v) };
  height = s.height;
  current = s.current;
  last = s.last;
  fresh = true;
}

-- the innermost open node is closed
abbrev pub closed : State → State
closed s = record {
  nodes = s.nodes;
  attrs = s.attrs;
  bytes = s.bytes;
  used = s.used;
  height = s.height;
  current = unwrap_or (open_node s).parent 0;
  last = Some s.current;
  fresh = false;
}

-- what a granted event leaves
abbrev pub granted : State → Event → State
granted s (element c) = inside (with_node s Element c) s.used.nodes
granted s (attribute n v) = with_attr s n v
granted s (text c) = with_node s Text c
granted s (comment c) = with_node s Comment c
granted s (doctype c) = with_node s Doctype c
granted s close = closed s

abbrev pub unless : Option BuildRefusal → State → State → State
unless None s t = t
unless (Some r) s t = s

-- what an event leaves: a refused one changes nothing
abbrev pub after : State → Event → State
after s e = unless (answer s e) s (granted s e)
