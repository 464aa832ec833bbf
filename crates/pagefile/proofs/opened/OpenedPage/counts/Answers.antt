use Rattle.std.proofs.Common.{sym, ap, ◌∙◌}
use Rattle.table.proofs.Accepted.{accepted}
use Rattle.table.proofs.Fitting.{table-totals}
use Rattle.pagefile.specs.File.{table_of}
use Rattle.pagefile.proofs.Sized.{sized, length-bytes}
use Rattle.pagefile.proofs.Accepting.{length-attrs}
use Rattle.pagefile.proofs.opened.OpenedPage.counts.Goals as goal

pub returns : goal.returns
returns c =
    let p = c.args.self.now in
    let s = p.sections in
    let f = s.file.now in
    let t = table_of f in
    let r = table-totals t (accepted t p.accepted) in
    record {
      nodes = p.many ∙ sym r.0;
      attrs = ap (λ k. k.attrs) s.counted ∙ (sym (length-attrs f) ∙ sym r.1);
      bytes = ap (λ k. k.bytes) s.counted ∙ (sym (length-bytes f (sized f s.laid)) ∙ sym r.2);
    }
