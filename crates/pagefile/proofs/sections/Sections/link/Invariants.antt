use Rattle.pagefile.specs.File.{table_of}
use Rattle.pagefile.specs.Links.{Parents, Ends}
use Rattle.pagefile.proofs.sections.Sections.link.Given as goal

abbrev pub invariant-loop-i : goal.invariant-loop-i
invariant-loop-i l = Parents (table_of l.self.file.now) l.i l.links × Ends (table_of l.self.file.now) l.i l.links
