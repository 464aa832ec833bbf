use Rattle.std.proofs.Common.{◌≡◌, true, false, take, drop, rules, tests, sym, ap, ◌∙◌}
use Rattle.std.proofs.lemmas.Iterator.{IsFirst-from_position, YieldsList-from_slice}
use Rattle.uri.specs.Bytes.{among}
use Rattle.uri.proofs.Fronts.{among-any, front_ends}
use Rattle.uri.proofs.parse.cut.Goals as goal

pub returns : goal.returns
returns c =
    let ds = c.args.stops.now in
    let bs = c.args.bytes.now in
    let e =
    front_ends ds bs _
    (IsFirst-from_position _ _ _ (λ b. among ds b ≡ true) (λ b. among ds b ≡ false) c.position-stop.ensures.ran (YieldsList-from_slice bs cc)
    (λ x q k. sym (among-any ds x.now) ∙ search (rules, tests)) (λ x q k. (search (rules, tests), sym (among-any ds x.now) ∙ search (rules, tests)))) in
    record {
      front = c.split_at.ensures.front ∙ (ap (λ n. take n bs) c.unwrap_or.ensures ∙ e.0);
      rest = c.split_at.ensures.back ∙ (ap (λ n. drop n bs) c.unwrap_or.ensures ∙ e.1);
    }
