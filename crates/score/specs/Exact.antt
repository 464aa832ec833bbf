-- The exact score h (t - l) / 2t of points, the distance k |h| (t + l) / (2t * 2 ^ 22) of step k around it, and when one exact score is above another by more than
-- both distances. All is over whole numbers: fractions are compared by cross multiplication.
use Rattle.std.specs.Prelude.{◌≡◌, ℕ, ◌+◌, ◌*◌, ◌^◌, ℤ, pos, ◌+ℤ◌, ◌-ℤ◌, ◌*ℤ◌, ◌≤ℤ◌, ◌<ℤ◌, unsigned_abs}
use Rattle.score.specs.declared.points.Points.{Points}

-- h (t - l), which is 2t times the exact score
abbrev pub exact : Points → ℤ
exact p = p.h *ℤ (pos p.t -ℤ pos p.l)

-- the exact score is n / d
abbrev pub Exactly : Points → ℤ → ℕ → Type 0
Exactly p n d = exact p *ℤ pos d ≡ n *ℤ pos (2 * p.t)

-- k |h| (t + l), which is 2t * 2 ^ 22 times the distance of step k
abbrev pub distance : ℕ → Points → ℕ
distance k p = k * unsigned_abs p.h * (p.t + p.l)

-- the exact score less the distance, and the exact score and the distance: both times 2t * 2 ^ 22
abbrev pub lowest : ℕ → Points → ℤ
lowest k p = exact p *ℤ pos (2 ^ 22) -ℤ pos (distance k p)

abbrev pub highest : ℕ → Points → ℤ
highest k p = exact p *ℤ pos (2 ^ 22) +ℤ pos (distance k p)

-- the exact score of p is above that of q by more than both distances
unfoldable pub Above : ℕ → Points → Points → Type 0
Above k p q = (highest k q *ℤ pos p.t) <ℤ (lowest k p *ℤ pos q.t)

-- the exact score of p is at most that of q and both distances
unfoldable pub AtMost : ℕ → Points → Points → Type 0
AtMost k p q = (lowest k p *ℤ pos q.t) ≤ℤ (highest k q *ℤ pos p.t)

-- the exact score is not above its own distance
unfoldable pub AtMostOwn : ℕ → Points → Type 0
AtMostOwn k p = (exact p *ℤ pos (2 ^ 22)) ≤ℤ pos (distance k p)
