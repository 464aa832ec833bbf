use Rattle.std.proofs.Common.{sym, ap, ◌∙◌, arith}
use Rattle.table.specs.declared.record.Section.TheVariants.{Attributes}
use Rattle.table.specs.Table.{no_attr}
use Rattle.table.proofs.Blank.{blank-attr}
use Rattle.pagefile.specs.File.{attr_in, count}
use Rattle.pagefile.proofs.Listed.{get_first, past-listed}
use Rattle.pagefile.proofs.sections.read.SectionsRecords.attr.Goals as goal

pub returns-then-j-self : goal.returns-then-j-self
returns-then-j-self c =
    let s = c.args.self.now in
    let f = s.file.now in
    c.attr_at.ensures ∙ sym (get_first (attr_in f) (count f Attributes) c.args.j no_attr (omega (arith, c.if-j-self.true, ap (λ k. k.attrs) s.counted)))

pub returns-else-j-self : goal.returns-else-j-self
returns-else-j-self c =
    let s = c.args.self.now in
    let f = s.file.now in
    blank-attr c.default.result c.default.ensures ∙ sym (past-listed (attr_in f) (count f Attributes) 0 c.args.j no_attr (omega (arith, c.if-j-self.false, ap (λ k. k.attrs) s.counted)))
