-- A new machine trims any text.
use Rattle.text.proofs.Trims.{trims}
use Rattle.text.proofs.trim.Trim.new.Goals as goal

pub returns : goal.returns
returns c = trims
