-- The answer is what the bytes decode to, and so has its laws.
use Rattle.std.proofs.Common.{◌≡◌, Some, sym, ap, ◌∙◌}
use Rattle.utf8.specs.Decode.{decoded}
use Rattle.utf8.proofs.Encoding.{decoded-begins, some-begins, first_some, none-begins}
use Rattle.utf8.proofs.Rows.{no_width, of_width}
use Rattle.utf8.proofs.utf8.decode.Goals as goal

pub returns-in_err-w : goal.returns-in_err-w
returns-in_err-w c =
    let bs = c.args.bytes.now in
    let r = c.from_residual.result in
    let e : r ≡ decoded bs = c.from_residual.ensures ∙ sym (no_width bs (sym c.in_err-w.ensures.width)) in
    record { table = e; some = some-begins bs r e; first = first_some bs r e; none = none-begins bs r e }

pub code_point-code-requires-clause-width : goal.code_point-code-requires-clause-width
code_point-code-requires-clause-width c = of_width c.args.bytes.now c.in_ok-w.w (sym c.in_ok-w.ensures.width)

pub from_u32_unchecked-requires : goal.from_u32_unchecked-requires
from_u32_unchecked-requires c = (decoded-begins c.args.bytes.now c.code_point-code.result c.in_ok-w.w c.code_point-code.ensures).is_scalar

pub returns : goal.returns
returns c =
    let bs = c.args.bytes.now in
    let r = Some (c.from_u32_unchecked.result, c.in_ok-w.w) in
    let e : r ≡ decoded bs = ap (λ x. Some (x, c.in_ok-w.w)) c.from_u32_unchecked.ensures ∙ sym c.code_point-code.ensures in
    record { table = e; some = some-begins bs r e; first = first_some bs r e; none = none-begins bs r e }
