use Rattle.std.proofs.Common.{◌≡◌, ◌++◌, length, refl, ap, ◌∙◌, arith, rules}
use Rattle.std.proofs.lemmas.List.{take_rest}
use Rattle.uri.specs.Turn.{dot_dot_prefix, dot_prefix, dot, last_dot, parent, last_parent, only_dots, segment, rule_of}
use Rattle.uri.proofs.Fronts.{first-short}
use Rattle.uri.proofs.Turns.{turned}
use Rattle.uri.proofs.dots.take_turn.Goals as goal

pub put-requires : goal.put-requires
put-requires o c = omega (arith, ap length c.cut_segment.ensures.segment, first-short c.args.input.now)

pub returns-in-46 : goal.returns-in-46
returns-in-46 o c =
    let found : dot_dot_prefix ≡ rule_of c.args.input.now = search (rules) in
    let h = turned c.args.input.now c.args.output.now.items _ _ _ found (take_rest _ 3) (refl) in
    record { input = h.0; output = h.1 }

pub returns-in-46-3 : goal.returns-in-46-3
returns-in-46-3 o c =
    let found : dot_prefix ≡ rule_of c.args.input.now = search (rules) in
    let h = turned c.args.input.now c.args.output.now.items _ _ _ found (take_rest _ 2) (refl) in
    record { input = h.0; output = h.1 }

pub returns-in-47 : goal.returns-in-47
returns-in-47 o c =
    let found : dot ≡ rule_of c.args.input.now = search (rules) in
    let h = turned c.args.input.now c.args.output.now.items _ _ _ found (take_rest _ 2) (refl) in
    record { input = h.0; output = h.1 }

pub returns-in-47-2 : goal.returns-in-47-2
returns-in-47-2 o c =
    let found : last_dot ≡ rule_of c.args.input.now = search (rules) in
    let h = turned c.args.input.now c.args.output.now.items _ _ _ found (refl) (refl) in
    record { input = h.0; output = h.1 }

pub returns-in-47-3 : goal.returns-in-47-3
returns-in-47-3 o c =
    let found : parent ≡ rule_of c.args.input.now = search (rules) in
    let h = turned c.args.input.now c.args.output.now.items _ _ _ found (take_rest _ 3) (c.drop_last-in-47-3.ensures) in
    record { input = h.0; output = h.1 }

pub returns-in-47-4 : goal.returns-in-47-4
returns-in-47-4 o c =
    let found : last_parent ≡ rule_of c.args.input.now = search (rules) in
    let h = turned c.args.input.now c.args.output.now.items _ _ _ found (refl) (c.drop_last.ensures) in
    record { input = h.0; output = h.1 }

pub returns-in-46-2 : goal.returns-in-46-2
returns-in-46-2 o c =
    let found : only_dots ≡ rule_of c.args.input.now = search (rules) in
    let h = turned c.args.input.now c.args.output.now.items _ _ _ found (refl) (refl) in
    record { input = h.0; output = h.1 }

pub returns-in_default : goal.returns-in_default
returns-in_default o c =
    let found : segment ≡ rule_of c.args.input.now = search (rules) in
    let h = turned c.args.input.now c.args.output.now.items _ _ _ found (c.cut_segment.ensures.behind) (c.put.ensures ∙ ap (λ z. c.args.output.now.items ++ z) c.cut_segment.ensures.segment) in
    record { input = h.0; output = h.1 }
