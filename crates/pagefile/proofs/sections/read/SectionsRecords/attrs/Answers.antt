use Rattle.std.proofs.Common.{sym, ap, ◌∙◌}
use Rattle.pagefile.specs.File.{attr_in}
use Rattle.pagefile.proofs.Listed.{length-listed}
use Rattle.pagefile.proofs.sections.read.SectionsRecords.attrs.Goals as goal

pub returns : goal.returns
returns c =
    let s = c.args.self.now in
    let f = s.file.now in
    ap (λ k. k.attrs) s.counted ∙ sym (length-listed (attr_in f) _ 0)
