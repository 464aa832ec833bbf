use Rattle.std.proofs.Common.{◌≡◌, length}
use Rattle.pagefile.specs.File.{table_of}
use Rattle.pagefile.specs.Links.{Parents}
use Rattle.pagefile.proofs.Linking.{Climbed}
use Rattle.pagefile.proofs.sections.Sections.climb.Given as goal

abbrev pub invariant-loop-links : goal.invariant-loop-links
invariant-loop-links l = let t = table_of l.self.file.now in Climbed t l.i l.p l.links × Parents t l.i l.links × (length l.links ≡ 4096)

abbrev pub decreases-loop-links : goal.decreases-loop-links
decreases-loop-links l = l.p
