-- There are no more characters than bytes, and encoded characters come back in order.
use Rattle.std.proofs.Common.{ap, ◌∙◌, inl, arith}
use Rattle.utf8.specs.Decode.{scalars_of}
use Rattle.utf8.proofs.Scalars.{few, scalars_of-encodes}
use Rattle.utf8.proofs.utf8.count_chars.Goals as goal

pub count-requires-clause-fits : goal.count-requires-clause-fits
count-requires-clause-fits c = inl (omega (arith, few c.args.bytes.now))

pub returns-clause-order : goal.returns-clause-order
returns-clause-order c = λ cs s e. ap scalars_of e ∙ scalars_of-encodes cs s
