use Rattle.std.proofs.Common.{refl}
use Rattle.uri.specs.Dots.{turn}
use Rattle.uri.specs.Resolve.{resolved}
use Rattle.examples.specs.Joins.{JoinsStand}
use Rattle.examples.proofs.joins.joined_base.Goals as goal

joins-stand : JoinsStand
unfolding turn resolved
joins-stand = (refl, (refl, (refl, (refl, (refl, (refl, (refl, (refl, (refl, (refl, (refl, (refl, (refl, tt)))))))))))))

pub returns : goal.returns
returns c = record { base = refl; joins = joins-stand }
