-- The place is not past the largest number.
use Rattle.std.proofs.Common.{◌≡◌, ◌+◌, ap, ◌∙◌, arith, get_or}
use Rattle.page.specs.Forest.{find, part_of}
use Rattle.text.specs.Held.{held}
use Rattle.text.proofs.Reading.{byte-is}
use Rattle.text.proofs.part.byte_behind.Goals as goal

pub returns : goal.returns
returns g c wide inside =
    let o = part_of (find (g.P.Page.tree c.args.page.now) c.args.node) c.args.part in
    let is : c.saturating_add.result ≡ c.args.at + c.args.k = omega arith in
    byte-is o c.saturating_add.result c.byte_of.result c.byte_of.ensures (omega (arith, is)) ∙ ap (λ i. get_or (held (g.P.Page.tree c.args.page.now) c.args.node c.args.part) i 0) is
