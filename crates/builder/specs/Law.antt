-- What holds after any list of events.
use Rattle.std.specs.Prelude.{◌≡◌, ℕ, false, List, [], ◌∷◌, Some, None, Option, slice_set}
use Rattle.table.specs.declared.record.AttrRecord.{AttrRecord}
use Rattle.table.specs.Rows.{flatten, Numbered}
use Rattle.table.specs.Table.{tree_of}
use Rattle.linked.specs.declared.node.LinkedNode.{LinkedNode}
use Rattle.linked.specs.Records.{no_linked}
use Rattle.linked.specs.Opening.{verdict_of}
use Rattle.builder.specs.declared.refusal.BuildRefusal.{BuildRefusal}
use Rattle.builder.specs.declared.refusal.BuildRefusal.TheVariants.{Full}
use Rattle.builder.specs.State.{State, used_nodes, used_attrs, used_bytes, used_table}
use Rattle.builder.specs.Events.{Event, event_rows, event_tree}
use Rattle.builder.specs.After.{answer, after}

-- a builder that was just given its records: the document takes the first
abbrev pub begun : List LinkedNode → List AttrRecord → List ℕ → State
begun nodes attrs bytes = record {
  nodes = slice_set nodes 0 no_linked;
  attrs = attrs;
  bytes = bytes;
  used = record { nodes = 1; attrs = 0; bytes = 0 };
  height = 0;
  current = 0;
  last = None;
  fresh = false;
}

-- records without a first one are refused
abbrev pub begin_answer : List LinkedNode → Option BuildRefusal
begin_answer [] = Some Full
begin_answer (x ∷ xs) = None

-- what a list of events leaves
abbrev pub afters : State → List Event → State
afters s [] = s
afters s (e ∷ es) = afters (after s e) es

abbrev pub kept : Option BuildRefusal → Event → List Event → List Event
kept None e es = e ∷ es
kept (Some r) e es = es

-- those of a list of events that are granted
abbrev pub given_by : State → List Event → List Event
given_by s [] = []
given_by s (e ∷ es) = kept (answer s e) e (given_by (after s e) es)

-- whatever events come to s: the tree is that of the granted ones; its nodes in document order are the ones they give, numbered
-- in that order; and opening accepts the records
pub record Law (s : State) (es : List Event) : Type 0 where
  pub tree : tree_of (used_table (afters s es)) ≡ event_tree (given_by s es)
  pub nodes : flatten 0 (tree_of (used_table (afters s es))) ≡ event_rows (given_by s es)
  pub numbers : Numbered 0 (tree_of (used_table (afters s es)))
  pub accepted : verdict_of (used_nodes (afters s es)) (used_attrs (afters s es)) (used_bytes (afters s es)) ≡ None
