-- The word is compared byte by byte.
use Rattle.std.proofs.Common.{◌-◌, refl, sym, ◌∙◌, length, rules, arith}
use borrow.Author.Tests.{tests}
use Rattle.std.proofs.lemmas.Bool.{lt-leb}
use Rattle.std.proofs.lemmas.Iterator.{YieldsList-from_range, YieldsList-from_slice, YieldsList-from_zip}
use Rattle.std.proofs.lemmas.Iterator.Search.{all_from_yields_List}
use Rattle.std.proofs.lemmas.List.{length-drop}
use Rattle.names.proofs.Occurs.{is_at, begins-zip, begins-short}
use Rattle.names.proofs.word.word_at.Goals as goal

pub returns-then-word-saturating_sub : goal.returns-then-word-saturating_sub
returns-then-word-saturating_sub g c =
    let w = c.args.word.now in
    let v = c.args.part.now in
    let n = length v - c.args.at in
    let road = YieldsList-from_zip {s = c.zip.result} (YieldsList-from_range c.args.at c.len-then-word-saturating_sub.result n c.zip.ensures.first (omega arith)) (YieldsList-from_slice w c.zip.ensures.second.0) in
    all_from_yields_List (is_at v) c.all.new.self _ _ c.all.ensures.ran road (λ x b q k. search (rules, tests)) ∙ begins-zip w v c.args.at n refl (omega arith)

pub returns-else-word-saturating_sub : goal.returns-else-word-saturating_sub
returns-else-word-saturating_sub g c = lt-leb _ _ (omega arith) ∙ sym (begins-short c.args.word.now _ (simp length-drop (omega arith)))
