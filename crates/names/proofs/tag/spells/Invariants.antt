-- What is left of the word and of the characters decides.
use Rattle.std.proofs.Common.{◌≡◌, map, drop}
use Rattle.utf8.specs.Decode.{scalars_of}
use Rattle.names.specs.Names.{lowered, same}
use Rattle.names.proofs.tag.spells.Given as goal

abbrev pub invariant-loop-b : goal.invariant-loop-b
invariant-loop-b g l = same (drop l.b-index l.word) (map lowered l.chars) ≡ same l.word (map lowered (scalars_of l.part))
