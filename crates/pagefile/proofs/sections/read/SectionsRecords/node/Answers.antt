use Rattle.std.proofs.Common.{sym, ap, ◌∙◌, arith}
use Rattle.table.specs.declared.record.Section.TheVariants.{Nodes}
use Rattle.table.specs.Table.{no_node}
use Rattle.table.proofs.Blank.{blank-node}
use Rattle.pagefile.specs.File.{node_in, count}
use Rattle.pagefile.proofs.Listed.{get_first, past-listed}
use Rattle.pagefile.proofs.sections.read.SectionsRecords.node.Goals as goal

pub returns-then-i-self : goal.returns-then-i-self
returns-then-i-self c =
    let s = c.args.self.now in
    let f = s.file.now in
    c.node_at.ensures ∙ sym (get_first (node_in f) (count f Nodes) c.args.i no_node (omega (arith, c.if-i-self.true, ap (λ k. k.nodes) s.counted)))

pub returns-else-i-self : goal.returns-else-i-self
returns-else-i-self c =
    let s = c.args.self.now in
    let f = s.file.now in
    blank-node c.default.result c.default.ensures ∙ sym (past-listed (node_in f) (count f Nodes) 0 c.args.i no_node (omega (arith, c.if-i-self.false, ap (λ k. k.nodes) s.counted)))
