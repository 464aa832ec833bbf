-- What joining and writing answer.
use Rattle.std.proofs.Common.{◌≡◌, ℕ, ◌+◌, ◌≤◌, true, leb, List, length, is_some, ap, arith}
use Rattle.std.proofs.lemmas.Bool.{cond-true, le-leb}
use Rattle.uri.specs.Write.{write_answer, in_room}
use Rattle.uri.proofs.TargetLaws.{laws}
use Rattle.uri.specs.Resolve.{resolved}

-- a buffer of 4,049 bytes is enough for a base of 2,000 and a reference of 2,048
pub fits : (b r : List ℕ) (size : ℕ) → length b ≤ 2000 → length r ≤ 2048 → 4049 ≤ size → is_some (write_answer (resolved b r) size) ≡ true
fits b r size l k m =
    ap is_some (cond-true (leb (length (resolved b r)) size) _ _ (le-leb (length (resolved b r)) size (omega (arith, (laws b r).short))))

-- a base and a reference that can be joined are resolved in 4,049 bytes
pub in-room : (b r : List ℕ) → length b ≤ 2000 → length r ≤ 2048 → in_room b r ≡ true
in-room b r l k = le-leb (length b + 1 + length r) 4049 (omega arith)
