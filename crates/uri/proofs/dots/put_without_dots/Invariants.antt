use Rattle.std.proofs.Common.{length}
use Rattle.uri.proofs.Shorter.{Going}
use Rattle.uri.proofs.dots.put_without_dots.Given as goal

abbrev pub invariant-loop-input : goal.invariant-loop-input
invariant-loop-input o l = Going l.path l.input l.output.items

abbrev pub decreases-loop-input : goal.decreases-loop-input
decreases-loop-input o l = length l.input
