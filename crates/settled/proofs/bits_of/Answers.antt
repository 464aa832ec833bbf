use Rattle.std.proofs.Common.{not, T}
use lib.Ieee.{Float, nan, inf, fin, is_nan}
use Rattle.std.specs.Float.{float_is_finite}
use Rattle.settled.proofs.bits_of.Goals as goal

finite_number : (x : Float) → T (float_is_finite x) → T (not (is_nan x))
unfolding float_is_finite is_nan
finite_number nan h = h
finite_number (inf s) h = tt
finite_number (fin s m e) h = tt

pub float_to_bits-result : goal.float_to_bits-result
float_to_bits-result c = finite_number c.settle.result.value c.settle.ensures.finite
