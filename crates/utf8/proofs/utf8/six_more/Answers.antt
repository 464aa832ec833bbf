-- Masking and shifting are a remainder, a product and a sum.
use Rattle.std.proofs.Common.{◌≡◌, ◌+◌, ◌*◌, ◌%◌, ap, ◌∙◌, arith}
use lib.Bits.{bit_or}
use Rattle.std.proofs.lemmas.Nat.{and_mask, or_shifted}
use Rattle.utf8.proofs.utf8.six_more.Goals as goal

pub returns : goal.returns
returns c =
    let low : c.from.result ≡ c.args.b % 64 = c.from.ensures ∙ and_mask c.args.b 6 in
    let high : c.args.bits * 64 % 4294967296 ≡ c.args.bits * 64 = omega arith in
    let joins : bit_or (c.args.bits * 64) c.from.result ≡ c.args.bits * 64 + c.from.result = or_shifted c.args.bits 6 c.from.result (omega arith) in
    ap (λ h. bit_or h c.from.result) high ∙ (joins ∙ ap (λ n. c.args.bits * 64 + n) low)
