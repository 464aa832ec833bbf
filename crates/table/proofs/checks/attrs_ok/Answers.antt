use Rattle.std.proofs.Common.{refl, ◌∙◌, arith, rules, tests}
use Rattle.std.proofs.lemmas.Iterator.{YieldsList-from_range}
use Rattle.std.proofs.lemmas.Iterator.Search.{all_from_yields_List}
use Rattle.table.specs.Checks.{attr_ok}
use Rattle.table.proofs.Each.{all-each}
use Rattle.table.proofs.checks.attrs_ok.Goals as goal

pub returns : goal.returns
returns g c =
    let x = c.args.x in
    let ok = attr_ok (g.R.Records.table c.args.t.now) x in
    all_from_yields_List ok _ _ _ c.all.ensures.ran (YieldsList-from_range 0 c.from.result x.attrs refl (omega arith)) (λ k b q h. search (rules, tests)) ∙ all-each ok x.attrs
