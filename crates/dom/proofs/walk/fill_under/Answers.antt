-- The walk from the root fills the table for the whole tree.
use Rattle.std.proofs.Common.{◌≡◌, set, sym, ap, ◌∙◌, subst}
use Rattle.page.specs.Forest.{head_of, kids_of}
use Rattle.dom.specs.Under.{under_of}
use Rattle.dom.specs.Fill.{fill_all, Measured}
use Rattle.dom.proofs.Fills.{fill-parts, fill-measured}
use Rattle.dom.proofs.walk.fill_under.Goals as goal

pub returns : goal.returns
returns g c =
    let p = c.args.p.now in
    let T = g.P.Page.tree p in
    let n = c.number.result in
    let root : c.root-root.result ≡ T = c.root-root.ensures in
    let xs = c.args.table.now in
    let k = g.P.Page.kept p in
    let e : c.put.new.table ≡ fill_all T xs =
    c.put.ensures
    ∙ ((λ i. set (c.fill-all.ensures.after i) n (c.fill-all.ensures.value i))
    ∙ (ap (λ f. set (fill_all (kids_of f) xs) n (under_of (kids_of f))) root
    ∙ (ap (λ f. fill_all f (set (fill_all (kids_of T) xs) n (under_of (kids_of T)))) (sym k.alone) ∙ sym (fill-parts T n xs (ap head_of (sym root) ∙ sym c.number.ensures))))) in
    record { after = e; measured = subst (Measured T) (sym e) (fill-measured T k.unique xs) }
