use Rattle.std.proofs.Common.{sym, subst}
use Rattle.std.proofs.lemmas.List.{length-take-le}
use Rattle.uri.proofs.Fronts.{IsSegment, segment-of}
use Rattle.uri.proofs.dots.cut_segment.Goals as goal

pub slice_bounds-result-end : goal.slice_bounds-result-end
slice_bounds-result-end c = sym (length-take-le _ c.args.input.now (subst (IsSegment c.args.input.now) (sym c.cut.ensures.front) (segment-of c.args.input.now c.requires)).0)

pub returns-clause-segment : goal.returns-clause-segment
returns-clause-segment c = (subst (IsSegment c.args.input.now) (sym c.cut.ensures.front) (segment-of c.args.input.now c.requires)).1
