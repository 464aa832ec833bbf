use Rattle.std.proofs.Common.{◌-◌, ◌&&◌, length, take, drop, sym, ap, ◌∙◌, rules, tests}
use Rattle.std.proofs.lemmas.Iterator.{YieldsList-from_slice}
use Rattle.std.proofs.lemmas.Iterator.Search.{all_from_yields_List}
use Rattle.std.specs.List.{list_all}
use Rattle.address.specs.Join.{scheme_byte}
use Rattle.address.proofs.Shapes.{scheme-name}
use Rattle.address.proofs.fill.is_scheme_name.Goals as goal

pub returns-then-is_ascii_alphabetic : goal.returns-then-is_ascii_alphabetic
returns-then-is_ascii_alphabetic c =
    let name = c.args.name.now in
    let others = take (length name - 1) (drop 1 name) in
    all_from_yields_List scheme_byte _ _ c.all.result c.all.ensures.ran (YieldsList-from_slice others cc) (λ x b q k. search (rules, tests))
    ∙ sym (scheme-name name ∙ ap (λ t. t && list_all scheme_byte others) (sym c.if-is_ascii_alphabetic.ensures.value))
