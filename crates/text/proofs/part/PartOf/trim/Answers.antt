-- What the machine has measured after the part.
use Rattle.std.proofs.Common.{◌^◌, ◌<◌, not, is_some, ap, ◌∙◌, arith}
use Rattle.std.specs.Char.{len_utf8}
use Rattle.utf8.specs.Decode.{scalars_of}
use Rattle.text.specs.Trim.{total}
use Rattle.text.specs.Trimming.{sum_of}
use Rattle.text.proofs.Trims.{widths-held}
use Rattle.text.proofs.part.PartOf.trim.Goals as goal

pub returns : goal.returns
returns g c =
    let xs = c.args.self.now in
    let few : total len_utf8 (scalars_of xs) < 2 ^ 64 = omega (arith, widths-held xs, c.feed.ensures.fits) in
    let all = c.new-trim.ensures (scalars_of xs) few in
    record {
      chars = ap (λ m. sum_of m.chars) c.feed.ensures.fed ∙ all.0;
      bytes = ap (λ m. sum_of m.bytes) c.feed.ensures.fed ∙ all.1;
      blank = ap (λ m. not (is_some m.chars)) c.feed.ensures.fed ∙ all.2;
    }
