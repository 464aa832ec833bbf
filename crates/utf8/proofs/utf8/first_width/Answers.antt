use Rattle.std.proofs.Common.{◌≡◌, ◌<◌, ◌-◌, Some, get_or, length, take, drop, ◌∙◌, rules, arith}
use Rattle.std.specs.List.{list_all}
use Rattle.utf8.specs.Table.{within, tail, table, begin, counted}
use Rattle.utf8.specs.Decode.{some_width}
use Rattle.utf8.proofs.Rows.{shown}
use Rattle.utf8.proofs.utf8.first_width.Goals as goal

pub returns-clause-width : goal.returns-clause-width
returns-clause-width c =
    let bs = c.args.bytes.now in
    let first : c.in_ok-lead.field-0.now ≡ get_or bs 0 0 = search rules in
    let some : 0 < length bs = search rules in
    let second : c.in_ok-get.field-0.now ≡ get_or bs 1 0 = search rules in
    let width : some_width (counted (begin table (get_or bs 0 0)) (get_or bs 1 0)) ≡ Some c.in_ok-w.w = search rules in
    let tails : c.are_tails.result ≡ list_all (within tail) (take (c.in_ok-w.w - 2) (drop 2 bs)) = search rules in
    c.then_some.ensures ∙ shown bs c.in_ok-w.w c.are_tails.result width some (omega arith) (omega arith) tails
