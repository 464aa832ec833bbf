-- The first byte decides below 0x80; else the next four do.
use Rattle.std.proofs.Common.{◌+◌, ◌^◌, ◌<◌, ◌≤◌, length, get_or, IfSome, Some, sym, ap, ◌∙◌, subst, arith, rules}
use Rattle.std.proofs.lemmas.Option.{slice_get_within}
use Rattle.text.proofs.Reading.{nothing-past, first-small, first-bytes, ends}
use Rattle.text.proofs.part.PartOf.char_at.Goals as goal

pub returns-in_err-lead-clause-value : goal.returns-in_err-lead-clause-value
returns-in_err-lead-clause-value g c = c.from_residual.ensures ∙ sym (nothing-past c.args.self.now c.args.at (sym c.get.ensures ∙ c.in_err-lead.was))

pub returns-then-lead-lt128 : goal.returns-then-lead-lt128
returns-then-lead-lt128 g c =
    let xs = c.args.self.now in
    let is = sym c.get.ensures ∙ c.in_ok-lead.was in
    let within = slice_get_within xs c.args.at c.in_ok-lead.lead is in
    record {
      inside = (omega arith, omega arith, omega arith);
      value = ap (λ b. Some (b, 1)) c.from.ensures ∙ sym (first-small xs c.args.at c.in_ok-lead.lead is c.if-lead-lt128.true);
    }

pub returns : goal.returns
returns g c =
    let xs = c.args.self.now in
    let at = c.args.at in
    let within = slice_get_within xs at c.in_ok-lead.lead (sym c.get.ensures ∙ c.in_ok-lead.was) in
    let is = c.self.view_is in
    let e = c.decode.ensures.table ∙ first-bytes xs c.next_bytes.result at c.min.result (search rules) (omega arith) (λ k h i. c.next_bytes.ensures k h (omega arith) (omega (arith, ap length is)) ∙ ap (λ l. get_or l (at + k) 0) is) in
    record { inside = subst (λ o. IfSome o (λ x. (0 < x.1) × (at + x.1 ≤ length xs) × (at + x.1 < 2 ^ 64))) (sym e) (ends xs at within (omega arith)); value = e }
