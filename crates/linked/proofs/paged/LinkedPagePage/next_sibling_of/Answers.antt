use Rattle.std.proofs.Common.{◌≡◌, ◌<◌, length, sym, ap, ◌∙◌, arith, rules}
use Rattle.std.proofs.lemmas.List.{get_or_read}
use Rattle.table.proofs.Accepted.{accepted}
use Rattle.table.proofs.Reading.{inside}
use Rattle.linked.specs.Records.{no_linked, table_in}
use Rattle.linked.proofs.Lists.{length-records}
use Rattle.linked.proofs.Linked.{linked-at}
use Rattle.linked.proofs.Relatives.{sibling-link}
use Rattle.linked.proofs.paged.LinkedPagePage.next_sibling_of.Goals as goal

pub returns-in_err-get : goal.returns-in_err-get
returns-in_err-get c h =
    let p = c.args.self.now in
    let t = table_in p.records in
    absurd (omega (arith, c.in_err-get.ensures.lookup.3, length-records p.records.nodes.now, inside t (accepted t p.accepted) c.args.n h))

pub returns : goal.returns
returns c h =
    let p = c.args.self.now in
    let t = table_in p.records in
    let n = c.args.n in
    let xs = p.records.nodes.now in
    let x = c.in_ok-get.field-0.now in
    let l : n < length xs = omega (arith, inside t (accepted t p.accepted) n h, length-records xs) in
    let is = get_or_read xs n x l c.in_ok-get.ensures.lookup.1 no_linked in
    let wide : c.map.result ≡ x.next_sibling = search rules in
    wide ∙ (ap (λ y. y.next_sibling) is ∙ ((linked-at xs t p.linked n l).next ∙ sym (sibling-link t (accepted t p.accepted) n (omega (arith, l, length-records xs)))))
