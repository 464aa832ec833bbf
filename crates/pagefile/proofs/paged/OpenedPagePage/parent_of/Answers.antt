use Rattle.std.proofs.Common.{◌<◌, Some, sym, ap, ◌∙◌, arith}
use Rattle.table.proofs.Accepted.{accepted}
use Rattle.pagefile.specs.File.{table_of}
use Rattle.pagefile.specs.Links.{parent_in}
use Rattle.table.proofs.Reading.{parent-first, parent-gone, parent-there}
use Rattle.pagefile.proofs.paged.OpenedPagePage.parent_of.Goals as goal

pub returns-then-n-eq-ROOT : goal.returns-then-n-eq-ROOT
returns-then-n-eq-ROOT c h =
    let p = c.args.self.now in
    let t = table_of p.sections.file.now in
    let a = accepted t p.accepted in
    sym (parent-first t a c.args.n c.if-n-eq-ROOT.true)

pub returns-then-n-self : goal.returns-then-n-self
returns-then-n-self c h =
    let p = c.args.self.now in
    let t = table_of p.sections.file.now in
    let a = accepted t p.accepted in
    let n = c.args.n in
    let some : 0 < n = (let z = c.if-n-eq-ROOT.false in omega arith) in
    let up = p.parents n some c.if-n-self.true in
    ap Some c.from.ensures ∙ sym (parent-there t a n (parent_in p.links n) (omega (arith, c.if-n-self.true, p.many)) up.0 up.1 up.2)

pub returns-else-n-self : goal.returns-else-n-self
returns-else-n-self c h =
    let p = c.args.self.now in
    let t = table_of p.sections.file.now in
    let a = accepted t p.accepted in
    sym (parent-gone t a c.args.n (omega (arith, c.if-n-self.false, p.many)))
