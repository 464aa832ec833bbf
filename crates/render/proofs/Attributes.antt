-- The parts of a node that was found.
use Rattle.std.proofs.Common.{◌≡◌, ℕ, ◌<◌, [], length, get_or, Some, ap, arith}
use Rattle.std.proofs.lemmas.Option.{slice_get-get_or}
use Rattle.page.specs.declared.kind.Part.TheVariants.{Name, Value}
use Rattle.page.specs.Forest.{Forest, none, node, attrs_of, count_of, part_of, name_in, value_in}

pub attr-name : (f : Forest) (j : ℕ) → j < length (attrs_of f) → part_of f (Name j) ≡ Some (get_or (attrs_of f) j ([], [])).0
attr-name none j l = absurd (omega arith)
attr-name (node m k c a kids rest) j l = ap name_in (slice_get-get_or a j ([], []) l)

pub attr-value : (f : Forest) (j : ℕ) → j < length (attrs_of f) → part_of f (Value j) ≡ Some (get_or (attrs_of f) j ([], [])).1
attr-value none j l = absurd (omega arith)
attr-value (node m k c a kids rest) j l = ap value_in (slice_get-get_or a j ([], []) l)
