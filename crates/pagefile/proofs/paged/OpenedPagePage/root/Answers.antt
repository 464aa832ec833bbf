use Rattle.std.proofs.Common.{sym}
use Rattle.table.proofs.Accepted.{accepted}
use Rattle.pagefile.specs.File.{table_of}
use Rattle.table.proofs.Reading.{top}
use Rattle.pagefile.proofs.paged.OpenedPagePage.root.Goals as goal

pub returns : goal.returns
returns c =
    let p = c.args.self.now in
    let t = table_of p.sections.file.now in
    let a = accepted t p.accepted in
    sym (top t a)
