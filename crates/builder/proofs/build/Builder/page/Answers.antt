use Rattle.std.proofs.Common.{◌≡◌, sym, ap, ◌∙◌}
use Rattle.page.specs.Forest.{height_of}
use Rattle.table.specs.Table.{Table, tree_of}
use Rattle.table.specs.Checks.{accepts}
use Rattle.table.proofs.Deepest.{height-deepest}
use Rattle.linked.specs.Records.{table_of, all_linked}
use Rattle.builder.specs.State.{used_table}
use Rattle.builder.specs.Stored.{state_in}
use Rattle.builder.proofs.Sound.{sound-is, table-accepted}
use Rattle.builder.proofs.build.Builder.page.Goals as goal

pub invariant_of-result : goal.invariant_of-result
invariant_of-result c =
    let b = c.args.self.now in
    let s = state_in b.store in
    let h = sound-is s b.sound in
    let nodes = c.used_items.ensures in
    let same : table_of c.used_items.result.now c.used_items-2.result.now c.used_items-3.result.now ≡ used_table s = λ q. table_of (nodes q) (c.used_items-2.ensures q) (c.used_items-3.ensures q) in
    record {
      accepted = ap accepts same ∙ h.accepted;
      linked = (λ q. all_linked (nodes q) (same q)) ∙ h.linked;
      tall = h.height ∙ (height-deepest (used_table s) (table-accepted s h) ∙ ap (λ (t : Table). height_of (tree_of t)) (sym same));
    }

pub returns : goal.returns
returns c = record {
  nodes = c.used_items.ensures;
  attrs = c.used_items-2.ensures;
  bytes = c.used_items-3.ensures;
  tree = λ q. tree_of (table_of (c.used_items.ensures q) (c.used_items-2.ensures q) (c.used_items-3.ensures q));
}
