-- The machine that takes all figures of a text.
use Rattle.std.specs.Prelude.{ℕ, ◌+◌, ◌-◌, ◌^◌, min}
use Rattle.text.specs.Trimming.{trim_step}
use Rattle.dom.specs.declared.scan.Scan.{Scan}
use Rattle.dom.specs.Passes.{passes_step}

-- the machine after a character
abbrev pub scan_step : Scan → ℕ → Scan
scan_step s c = record { trim = trim_step s.trim c; chars = min (s.chars + 1) (2 ^ 64 - 1); marks = passes_step s.marks c }
