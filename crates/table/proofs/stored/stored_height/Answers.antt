use Rattle.std.proofs.Common.{ap, ◌∙◌, arith, rules, unwrap_or}
use Rattle.std.proofs.lemmas.Iterator.{YieldsList-from_range, YieldsList-from_map}
use Rattle.std.proofs.lemmas.Iterator.Consumers.{reduce_from_yields_List}
use Rattle.std.proofs.lemmas.List.Folds.{max_of_map}
use Rattle.std.specs.List.{range_with_len}
use Rattle.std.specs.Ordering.{max_by_ordering, nat_cmp}
use Rattle.table.specs.Links.{depth_at}
use Rattle.table.proofs.Deepest.{deepest-range}
use Rattle.table.proofs.stored.stored_height.Goals as goal

pub returns : goal.returns
returns g c =
    let t = g.R.Records.table c.args.t.now in
    let n = c.nodes.result in
    let best =
    reduce_from_yields_List (λ p z. max_by_ordering (nat_cmp p z) p z) c.map.result c.max.result c.max.ensures.ran
    (YieldsList-from_map _ (depth_at t) (YieldsList-from_range 0 n n c.map.ensures.source (omega arith)) c.map.ensures.closure (λ x r q k. search rules)) in
    c.unwrap_or.ensures ∙ (ap (λ o. unwrap_or o 0) best ∙ (max_of_map (depth_at t) (range_with_len 0 n) ∙ deepest-range t n c.nodes.ensures))
