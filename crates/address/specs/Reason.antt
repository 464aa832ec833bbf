-- Why nothing was written, in words.
use Rattle.std.specs.Prelude.{ℕ, List, codes}
use Rattle.address.specs.declared.joining.NoJoin.{NoJoin}
use Rattle.address.specs.declared.joining.NoJoin.TheVariants.{Reference, Room}

abbrev pub reason : NoJoin → List ℕ
reason Reference = codes "the reference is too long or has a byte that is not visible"
reason Room = codes "the buffer has no room for the result"
