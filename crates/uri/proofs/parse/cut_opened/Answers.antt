use Rattle.std.proofs.Common.{Some, None, ap, ◌∙◌}
use Rattle.std.proofs.lemmas.Slice.Eq.{strip_prefix_is}
use Rattle.std.proofs.lemmas.Bool.Decides.{Decides-eqb}
use Rattle.uri.specs.Components.{opened}
use Rattle.uri.proofs.Fronts.{stripped}
use Rattle.uri.proofs.parse.cut_opened.Goals as goal

pub returns-in-Some : goal.returns-in-Some
returns-in-Some c =
    let bs = c.args.bytes.now in
    let mark = c.args.«open».now in
    let e = stripped bs mark (Some c.in-Some.inner) (strip_prefix_is Decides-eqb bs mark (Some c.in-Some.inner) c.in-Some.ensures.cases) in
    record {
      part = ap Some c.cut.ensures.front ∙ ap (λ o. (opened c.args.stops.now o bs).0) e;
      behind = c.cut.ensures.rest ∙ ap (λ o. (opened c.args.stops.now o bs).1) e;
    }

pub returns-in-None : goal.returns-in-None
returns-in-None c =
    let bs = c.args.bytes.now in
    let mark = c.args.«open».now in
    let e = stripped bs mark None (strip_prefix_is Decides-eqb bs mark None c.in-None.ensures.cases) in
    record { part = ap (λ o. (opened c.args.stops.now o bs).0) e; behind = ap (λ o. (opened c.args.stops.now o bs).1) e }
