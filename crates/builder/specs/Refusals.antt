-- The numbers of the refusals of events.
use Rattle.std.specs.Prelude.{ℕ, Some, None, Ok, Err, Option, Result}
use Rattle.builder.specs.declared.refusal.BuildRefusal.{BuildRefusal}
use Rattle.builder.specs.declared.refusal.BuildRefusal.TheVariants.{Misplaced, Full, TooDeep, IllFormed}

abbrev pub number : BuildRefusal → ℕ
number Misplaced = 21
number Full = 22
number TooDeep = 23
number IllFormed = 24

-- an event concerns no record
abbrev pub record_of : BuildRefusal → ℕ
record_of r = 0

-- why a call was refused
abbrev pub refused : {X : Type 0} → Result X BuildRefusal → Option BuildRefusal
refused (Ok x) = None
refused (Err r) = Some r
