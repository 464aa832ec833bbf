use Rattle.std.proofs.Common.{rules}
use Rattle.uri.proofs.Formed.{matched_by}
use Rattle.uri.proofs.parse.split.Goals as goal

pub returns-clause-matched : goal.returns-clause-matched
returns-clause-matched c = matched_by _ _ (search rules)
