-- An opened page keeps the law of a page.
use Rattle.std.proofs.Common.{sym, subst}
use Rattle.page.specs.Kept.{Kept}
use Rattle.table.proofs.Accepted.{accepted, table_kept}
use Rattle.pagefile.specs.declared.opened.OpenedPage.{OpenedPage}
use Rattle.pagefile.specs.File.{table_of}
use Rattle.pagefile.specs.Opened.{opened_tree}

pub opened-kept : (p : OpenedPage) → Kept p.sections.counts.nodes (opened_tree p)
opened-kept p = let t = table_of p.sections.file.now in subst (λ n. Kept n (opened_tree p)) (sym p.many) (table_kept t (accepted t p.accepted))
