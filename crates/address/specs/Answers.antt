-- What the calls answer.
use Rattle.std.specs.Prelude.{ℕ, List, take, Some, None, Ok, Err, Option, Result}
use Rattle.std.specs.Option.{ok_or}
use Rattle.uri.specs.Laws.{Laws}
use Rattle.uri.specs.Write.{placed, write_answer}
use Rattle.address.specs.declared.base.Base.{Base}
use Rattle.address.specs.declared.joining.NoJoin.{NoJoin}
use Rattle.address.specs.declared.joining.NoJoin.TheVariants.{Reference, Room}

-- the bytes of a base
abbrev pub bytes_of : Base → List ℕ
bytes_of b = b.bytes.items

-- joining writes nothing where it gives nothing or where there is no room
abbrev pub join_answer : Option (List ℕ) → ℕ → Result ℕ NoJoin
join_answer None size = Err Reference
join_answer (Some j) size = ok_or (write_answer j size) Room

abbrev pub join_out : Option (List ℕ) → List ℕ → List ℕ
join_out None out = out
join_out (Some j) out = placed j out

-- the laws of joining hold of what was written
abbrev pub Lawful : List ℕ → List ℕ → Result ℕ NoJoin → List ℕ → Type 0
Lawful b r (Ok n) out = Laws b r (take n out)
Lawful b r (Err e) out = Unit {0}
