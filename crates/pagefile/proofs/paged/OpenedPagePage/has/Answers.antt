use Rattle.table.proofs.Accepted.{accepted}
use Rattle.pagefile.specs.File.{table_of}
use Rattle.table.proofs.Reading.{has-test}
use Rattle.pagefile.proofs.paged.OpenedPagePage.has.Goals as goal

pub returns : goal.returns
returns c =
    let p = c.args.self.now in
    let t = table_of p.sections.file.now in
    let a = accepted t p.accepted in
    has-test t a c.args.n p.sections.counts.nodes p.many
