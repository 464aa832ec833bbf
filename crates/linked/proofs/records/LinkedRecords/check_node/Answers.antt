use Rattle.std.proofs.Common.{◌≡◌, Bool, true, false, cond, ◌&&◌, Some, None, Option, sym}
use Rattle.std.proofs.lemmas.Option.{none-some}
use Rattle.std.proofs.lemmas.Result.{err_from_is_err_and}
use Rattle.table.specs.declared.record.Check.{Check}
use Rattle.table.specs.Checks.{kind_ok, depth_ok}
use Rattle.linked.specs.Records.{table_in, links_ok}
use Rattle.linked.proofs.records.LinkedRecords.check_node.Goals as goal

-- a node that is refused at its place is refused, whatever its links
still : (k d l : Bool) (a b x : Check) (more : Option Check) → cond k (cond d None (Some b)) (Some a) ≡ Some x → cond k (cond (d && l) more (Some b)) (Some a) ≡ Some x
still true true l a b x more h = absurd (none-some x h)
still true false l a b x more h = h
still false d l a b x more h = h

pub returns-in_err-check_place : goal.returns-in_err-check_place
returns-in_err-check_place c =
    let r = c.args.self.now in
    let t = table_in r in
    let i = c.args.i in
    let p = err_from_is_err_and c.from_residual.result c.from_residual.ensures.1 in
    rw (p.1, p.2) (sym (still (kind_ok t i) (depth_ok t i) (links_ok r.nodes.now t i) _ _ c.in_err-check_place.field-0.0 _ (sym c.in_err-check_place.ensures)))
