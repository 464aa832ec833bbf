-- The refusal of a base.
use Rattle.std.specs.Prelude.{ℕ}
use Rattle.address.specs.declared.refusal.BaseRefusal.{BaseRefusal}
use Rattle.address.specs.declared.refusal.BaseRefusal.TheVariants.{NotABase}

-- the number of a refusal, and the record that it names
abbrev pub number : BaseRefusal → ℕ
number NotABase = 41

abbrev pub record_of : BaseRefusal → ℕ
record_of NotABase = 0
