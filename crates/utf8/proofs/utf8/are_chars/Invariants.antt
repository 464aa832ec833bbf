-- What is left decides; it grows shorter.
use Rattle.std.proofs.Common.{◌≡◌, length}
use Rattle.utf8.specs.Table.{well_formed}
use Rattle.utf8.proofs.utf8.are_chars.Given as goal

abbrev pub invariant-loop-w : goal.invariant-loop-w
invariant-loop-w l = well_formed l.bytes ≡ well_formed l.rest

abbrev pub decreases-loop-w : goal.decreases-loop-w
decreases-loop-w l = length l.rest
