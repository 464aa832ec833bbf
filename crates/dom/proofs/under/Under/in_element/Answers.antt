use Rattle.std.proofs.Common.{rules}
use Rattle.dom.proofs.under.Under.in_element.Goals as goal

pub returns : goal.returns
returns c = search rules
