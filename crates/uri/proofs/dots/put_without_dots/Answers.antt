use Rattle.std.proofs.Common.{rules}
use Rattle.uri.proofs.Shorter.{goes_on}
use Rattle.uri.proofs.dots.put_without_dots.Goals as goal

pub loop-input-preserved : goal.loop-input-preserved
loop-input-preserved o c =
    (goes_on c.args.path.now c.loop-input.input.now c.loop-input.output.items _ _ (search rules) c.loop-input.invariant c.take_turn-input.ensures.input c.take_turn-input.ensures.output).0

pub loop-input-smaller : goal.loop-input-smaller
loop-input-smaller o c =
    (goes_on c.args.path.now c.loop-input.input.now c.loop-input.output.items _ _ (search rules) c.loop-input.invariant c.take_turn-input.ensures.input c.take_turn-input.ensures.output).1
