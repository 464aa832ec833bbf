-- What it gives that points are in range. Assumes nothing.
use Rattle.std.proofs.Common.{◌^◌, ◌<◌, ◌≤◌, T, nat_abs, arith}
use Rattle.std.proofs.lemmas.Bool.Decides.{nat_tests}
use Rattle.score.specs.declared.points.Points.{Points}
use Rattle.score.specs.Ranges.{in_range}

pub record InRange (p : Points) : Type 0 where
  pub size : nat_abs p.h < 2 ^ 21
  pub some : 1 ≤ p.t
  pub text : p.t ≤ 131072
  pub links : p.l < 2 ^ 23

pub range-out : (p : Points) → T (in_range p) → InRange p
range-out p i = record { size = grind (arith, nat_tests); some = grind (arith, nat_tests); text = grind (arith, nat_tests); links = grind (arith, nat_tests) }
