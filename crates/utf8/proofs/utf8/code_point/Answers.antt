-- The bits that each width joins are those of the decoded character.
use Rattle.std.proofs.Common.{◌≡◌, ◌%◌, get_or, ◌∙◌, arith}
use Rattle.std.proofs.lemmas.Nat.{and_mask}
use Rattle.utf8.proofs.Rows.{most, at_one, at-two, at-three, at-four}
use Rattle.utf8.proofs.utf8.code_point.Goals as goal

pub returns-in-1 : goal.returns-in-1
returns-in-1 c = let e = at_one c.args.bytes.now (omega arith) in cc

pub returns-in-2 : goal.returns-in-2
returns-in-2 c =
    let bs = c.args.bytes.now in
    let lead : c.from-in-2.result ≡ get_or bs 0 0 % 32 = c.from-in-2.ensures ∙ and_mask (get_or bs 0 0) 5 in
    let e = at-two bs (omega arith) in
    cc

pub returns-in-3 : goal.returns-in-3
returns-in-3 c =
    let bs = c.args.bytes.now in
    let lead : c.from-in-3.result ≡ get_or bs 0 0 % 16 = c.from-in-3.ensures ∙ and_mask (get_or bs 0 0) 4 in
    let e = at-three bs (omega arith) in
    cc

pub returns-in_default : goal.returns-in_default
returns-in_default c =
    let bs = c.args.bytes.now in
    let lead : c.from-in_default.result ≡ get_or bs 0 0 % 8 = c.from-in_default.ensures ∙ and_mask (get_or bs 0 0) 3 in
    let w : 4 ≡ c.args.w = omega (arith, most bs) in
    let e = at-four bs (omega arith) in
    cc
