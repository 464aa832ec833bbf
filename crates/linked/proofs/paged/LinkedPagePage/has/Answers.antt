use Rattle.std.proofs.Common.{sym}
use Rattle.table.proofs.Accepted.{accepted}
use Rattle.table.proofs.Reading.{has-test}
use Rattle.linked.specs.Records.{table_in}
use Rattle.linked.proofs.Lists.{length-records}
use Rattle.linked.proofs.paged.LinkedPagePage.has.Goals as goal

pub returns : goal.returns
returns c =
    let p = c.args.self.now in
    let t = table_in p.records in
    has-test t (accepted t p.accepted) c.args.n _ (sym (length-records p.records.nodes.now))
