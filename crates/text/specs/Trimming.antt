-- The machine that trims, and what it has measured after any text.
use Rattle.std.specs.Prelude.{◌≡◌, ℕ, ◌+◌, ◌-◌, ◌^◌, ◌<◌, min, Bool, true, false, not, List, Some, None, Option, is_some}
use Rattle.std.specs.Char.{len_utf8}
use Rattle.text.specs.declared.trim.Trimmed.{Trimmed}
use Rattle.text.specs.declared.trim.Trim.{Trim}
use Rattle.text.specs.Space.{space}
use Rattle.text.specs.Held.{run}
use Rattle.text.specs.Trim.{weight, total, blank, trimmed_length, trimmed_bytes}

-- a sum that stays at the largest number
abbrev pub plus : ℕ → ℕ → ℕ
plus a b = min (a + b) (2 ^ 64 - 1)

-- a figure after a character, which is White_Space or not; a text has begun with its first character that is not
abbrev pub added : Option Trimmed → Bool → ℕ → Option Trimmed
added None true by = None
added None false by = Some (record { sum = by; gap = 0 })
added (Some m) true by = Some (record { sum = m.sum; gap = plus m.gap by })
added (Some m) false by = Some (record { sum = plus (plus m.sum m.gap) by; gap = 0 })

-- nothing of a text that has not begun
abbrev pub sum_of : Option Trimmed → ℕ
sum_of None = 0
sum_of (Some m) = m.sum

-- the machine after a character
abbrev pub trim_step : Trim → ℕ → Trim
trim_step m c = record { chars = added m.chars (space c) (weight c); bytes = added m.bytes (space c) (len_utf8 c) }

-- what a machine has measured after a text that takes fewer than 2^64 bytes: the trimmed text
abbrev pub Trims : Trim → Type 0
Trims m =
    (cs : List ℕ) → total len_utf8 cs < 2 ^ 64
    → (sum_of (run trim_step m cs).chars ≡ trimmed_length cs) × (sum_of (run trim_step m cs).bytes ≡ trimmed_bytes cs) × (not (is_some (run trim_step m cs).chars) ≡ blank cs)
