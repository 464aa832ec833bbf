use Rattle.std.proofs.Common.{◌≡◌, ℕ, Bool, true, false, cond, eqb, Some, None, unwrap_or, Option, sym, refl, ap, ◌∙◌}
use Rattle.std.specs.Option.{ok_or}
use Rattle.std.specs.Result.{result_unwrap_or}
use Rattle.page.specs.declared.kind.NodeKind.{NodeKind}
use Rattle.page.specs.declared.kind.NodeKind.TheVariants.{Element}
use Rattle.page.specs.Kinds.{coded}
use Rattle.page.specs.Forest.{kind_of}
use Rattle.table.specs.Table.{kind_with}
use Rattle.table.proofs.Accepted.{accepted}
use Rattle.table.proofs.Reading.{found, inside}
use Rattle.table.proofs.stored.Reader.kind_of.Goals as goal

chosen : (b : Bool) (x : NodeKind) (o : Option NodeKind) (y : NodeKind) → unwrap_or o Element ≡ y → unwrap_or (cond b (Some x) o) Element ≡ cond b x y
chosen true x o y e = refl
chosen false x o y e = e

last : (b : Bool) → unwrap_or (cond b (Some Element) None) Element ≡ Element
last true = refl
last false = refl

with : (k : ℕ) → unwrap_or (coded k) Element ≡ kind_with k
with k = chosen (eqb k 0) _ _ _ (chosen (eqb k 1) _ _ _ (chosen (eqb k 2) _ _ _ (chosen (eqb k 3) _ _ _ (last (eqb k 4)))))

read : {E : Type 0} (o : Option NodeKind) (e : E) → result_unwrap_or (ok_or o e) Element ≡ unwrap_or o Element
read None e = refl
read (Some k) e = refl

pub returns : goal.returns
returns g c h =
    let t = g.R.Records.table c.args.self.now.records.now in
    let a = accepted t c.args.self.now.accepted in
    let is = c.unwrap_or.ensures ∙ (ap (λ o. result_unwrap_or o Element) c.named_kind.ensures ∙ (read (coded c.node-x.result.kind) _ ∙ with c.node-x.result.kind ∙ ap (λ x. kind_with x.kind) c.node-x.ensures)) in
    ap Some is ∙ sym (ap kind_of (found t a c.args.n (inside t a c.args.n h)))
