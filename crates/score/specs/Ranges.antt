-- The ranges within which points are settled as they are.
use Rattle.std.specs.Prelude.{Bool, cond, ◌&&◌, ℤ, pos, negsuc, ◌*ℤ◌, int_lt, nat_le, nat_lt}
use Rattle.score.specs.declared.points.Points.{Points}

-- h lies between -2 ^ 21 and 2 ^ 21, t is from 1 to 131,072, and l is below 2 ^ 23
abbrev pub in_range : Points → Bool
in_range p = int_lt (negsuc 2097151) p.h && int_lt p.h (pos 2097152) && nat_le 1 p.t && nat_le p.t 131072 && nat_lt p.l 8388608

-- the integer score v: twice v half points, one character of text, no links
abbrev pub integer : ℤ → Points
integer v = record { h = pos 2 *ℤ v; t = 1; l = 0 }

-- the points that are settled: outside the ranges, those of the integer score 0
abbrev pub in_range_or_zero : Points → Points
in_range_or_zero p = cond (in_range p) p (integer (pos 0))
