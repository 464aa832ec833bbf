-- The whole answer of `outline` to a file.
use Rattle.std.specs.Prelude.{ℕ, List, ◌++◌, Some, None, codes, decimal, Option}
use Rattle.table.specs.declared.record.Check.{Check}
use Rattle.table.specs.Table.{tree_of}
use Rattle.table.specs.Checks.{number, record_of}
use Rattle.pagefile.specs.File.{table_of}
use Rattle.pagefile.specs.Opening.{verdict}
use Rattle.render.specs.Render.{render}

-- a refusal: its number and the record that was checked
abbrev pub refusal_text : Check → List ℕ
refusal_text c = codes "refused " ++ (decimal (number c) ++ (codes " " ++ (decimal (record_of c) ++ codes "\n")))

-- what is printed for a file with this verdict
abbrev pub printed : List ℕ → Option Check → List ℕ
printed f None = render (tree_of (table_of f))
printed f (Some c) = refusal_text c

abbrev pub outline_of : List ℕ → List ℕ
outline_of f = printed f (verdict f)
