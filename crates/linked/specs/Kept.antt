-- A page in linked records keeps the law of a page.
use Rattle.std.specs.Prelude.{length}
use Rattle.std.proofs.Common.{subst}
use Rattle.std.proofs.lemmas.List.{length-map}
use Rattle.page.specs.Kept.{Kept}
use Rattle.table.proofs.Accepted.{accepted, table_kept}
use Rattle.linked.specs.declared.accepted.LinkedPage.{LinkedPage}
use Rattle.linked.specs.Records.{table_in}
use Rattle.linked.specs.Opened.{linked_tree}

pub linked-kept : (p : LinkedPage) → Kept (length p.records.nodes.now) (linked_tree p)
linked-kept p =
    let t = table_in p.records in
    subst (λ n. Kept n (linked_tree p)) (length-map p.records.nodes.now (λ x. x.node)) (table_kept t (accepted t p.accepted))
