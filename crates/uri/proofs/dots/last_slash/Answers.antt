use Rattle.std.proofs.Common.{rules}
use Rattle.uri.proofs.Slashes.{slash_found}
use Rattle.uri.proofs.dots.last_slash.Goals as goal

pub returns-clause-value : goal.returns-clause-value
returns-clause-value c = slash_found c.args.bytes.now c.rposition.result (search rules)
