use Rattle.std.proofs.Common.{Some, sym, ap, ◌∙◌, arith}
use Rattle.page.specs.Forest.{count_of}
use Rattle.table.specs.Table.{node_at}
use Rattle.table.proofs.Accepted.{accepted}
use Rattle.table.proofs.Tabulated.{length-attrs}
use Rattle.table.proofs.Reading.{found, inside}
use Rattle.table.proofs.stored.Reader.attrs_of.Goals as goal

pub returns : goal.returns
returns g c h =
    let t = g.R.Records.table c.args.self.now.records.now in
    let a = accepted t c.args.self.now.accepted in
    let x = node_at t c.args.n in
    let same = ap (λ y. y.attrs) c.node.ensures in
    ap Some (omega arith) ∙ sym (ap count_of (found t a c.args.n (inside t a c.args.n h)) ∙ ap Some (length-attrs t x.attrs x.first))
