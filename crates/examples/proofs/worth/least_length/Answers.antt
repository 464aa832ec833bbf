use Rattle.std.proofs.Common.{refl}
use Rattle.text.specs.Space.{space}
use Rattle.text.specs.Trim.{weight}
use Rattle.names.specs.Tags.{named}
use Rattle.examples.specs.Worth.{Marked, Qualifying}
use Rattle.examples.proofs.worth.least_length.Goals as goal

marked : Marked
marked = (refl, (refl, (refl, tt)))

qualifying : Qualifying
unfolding space weight named
qualifying = (refl, (refl, tt))

pub returns : goal.returns
returns c = record { value = refl; marked = marked; qualifying = qualifying }
