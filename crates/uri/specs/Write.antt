-- Writing into a buffer.
use Rattle.std.specs.Prelude.{ℕ, ◌+◌, ◌≤◌, Bool, cond, List, ◌++◌, length, take, drop, Some, None, Option, nat_le}
use Rattle.arrayvec.specs.ArrayVec.{ArrayVec, array_vec_len}
use Rattle.uri.specs.Laws.{Laws}
use Rattle.uri.specs.Resolve.{resolved}

-- whether the bytes can be appended to an array vector of this capacity
abbrev pub HasRoom : ℕ → ArrayVec ℕ → List ℕ → Type 0
HasRoom capacity out bytes = array_vec_len out + length bytes ≤ capacity

-- a buffer with the bytes at its front, where they fit
abbrev pub placed : List ℕ → List ℕ → List ℕ
placed bytes out = cond (nat_le (length bytes) (length out)) (bytes ++ drop (length bytes) out) out

-- a write answers its length, or nothing where there is no room
abbrev pub write_answer : List ℕ → ℕ → Option ℕ
write_answer bytes size = cond (nat_le (length bytes) size) (Some (length bytes)) None

-- a base and a reference that are resolved in 4,049 bytes
abbrev pub in_room : List ℕ → List ℕ → Bool
in_room b r = nat_le (length b + 1 + length r) 4049

-- resolution writes the target, and nothing where base and reference are longer or where there is no room for it
abbrev pub resolve_answer : List ℕ → List ℕ → ℕ → Option ℕ
resolve_answer b r size = cond (in_room b r) (write_answer (resolved b r) size) None

abbrev pub resolve_out : List ℕ → List ℕ → List ℕ → List ℕ
resolve_out b r out = cond (in_room b r) (placed (resolved b r) out) out

-- the laws of resolution hold of what was written
abbrev pub Lawful : List ℕ → List ℕ → Option ℕ → List ℕ → Type 0
Lawful b r None out = Unit {0}
Lawful b r (Some n) out = Laws b r (take n out)
