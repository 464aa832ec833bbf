-- What is left brings the machine to the same end.
use Rattle.std.proofs.Common.{◌≡◌}
use Rattle.utf8.specs.Decode.{scalars_of}
use Rattle.text.specs.Held.{run}
use Rattle.text.proofs.part.PartOf.feed.Given as goal

abbrev pub invariant-loop-c : goal.invariant-loop-c
invariant-loop-c g l = run g.M.Machine.step l.m l.c-iterator ≡ run g.M.Machine.step l.initial.m (scalars_of l.self)
