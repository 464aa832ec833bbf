-- A new counter counts the matches of any text.
use Rattle.std.proofs.Common.{refl}
use Rattle.text.proofs.Matching.{counts}
use Rattle.text.proofs.marks.Marks.new.Goals as goal

pub returns : goal.returns
returns c = record { start = (refl, refl); counts = counts _ }
