-- The whole answer of `points` to a file.
use Rattle.std.specs.Prelude.{ℕ, List, Some, None, Option}
use Rattle.table.specs.declared.record.Check.{Check}
use Rattle.table.specs.Table.{tree_of}
use Rattle.pagefile.specs.File.{table_of}
use Rattle.pagefile.specs.Opening.{verdict}
use Rattle.render.specs.Outline.{refusal_text}
use Rattle.figures.specs.Points.{point_lines}

-- what is printed for a file with this verdict
abbrev pub printed : List ℕ → Option Check → List ℕ
printed f None = point_lines (tree_of (table_of f))
printed f (Some c) = refusal_text c

abbrev pub points_of : List ℕ → List ℕ
points_of f = printed f (verdict f)
