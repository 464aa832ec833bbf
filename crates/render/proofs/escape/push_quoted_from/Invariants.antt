-- What is written is what was yielded.
use Rattle.std.proofs.Common.{◌≡◌, ◌++◌, vec_items}
use Rattle.render.specs.Render.{escaped}
use Rattle.render.proofs.escape.push_quoted_from.Given as goal

abbrev pub invariant-loop-b : goal.invariant-loop-b
invariant-loop-b g l =
    record {
      can : (goal.iterator-loop-b g).can_next l.b-iterator;
      ends : (goal.iterator-loop-b g).is_finite l.b-iterator;
      written : vec_items l.out ≡ vec_items l.initial.out ++ escaped l.yielded;
    }
