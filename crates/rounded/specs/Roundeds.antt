-- The rounded kind.
use Rattle.std.specs.Prelude.{Bool, cond, pos, from_bits, Float}
use Rattle.std.specs.Float.Ieee.{of_int, sub, mul, div, lt}
use Rattle.std.specs.Float.{float_is_finite, binary32}
use Rattle.score.specs.declared.points.Points.{Points}
use Rattle.rounded.specs.declared.Rounded.{Rounded}

-- 0.0, 1.0 and 2.0, by their bits
abbrev pub zero : Float
zero = from_bits binary32 0x0000_0000

abbrev pub one : Float
one = from_bits binary32 0x3f80_0000

abbrev pub two : Float
two = from_bits binary32 0x4000_0000

-- h / 2 times 1 - l / t, each operation rounded to the nearest `f32`
abbrev pub rounded : Points → Rounded
rounded p =
    record { value = mul binary32 (div binary32 (of_int binary32 p.h) two) (sub binary32 one (div binary32 (of_int binary32 (pos p.l)) (of_int binary32 (pos p.t)))) }

-- the value, where one that is not finite is taken for 0
abbrev pub finite_or_zero : Rounded → Float
finite_or_zero a = cond (float_is_finite a.value) a.value zero

-- a is above b
abbrev pub greater : Rounded → Rounded → Bool
greater a b = lt (finite_or_zero b) (finite_or_zero a)
