use Rattle.std.proofs.Common.{◌≡◌, ◌<◌, length, None, refl, ap, subst, arith}
use Rattle.pagefile.specs.File.{table_of}
use Rattle.pagefile.specs.declared.link.Link.{Link}
use Rattle.pagefile.specs.Links.{Ends}
use Rattle.pagefile.proofs.Sized.{sized}
use Rattle.pagefile.proofs.Linking.{parents-more, ends_more}
use Rattle.pagefile.proofs.sections.Sections.link.Goals as goal

pub loop-i-preserved : goal.loop-i-preserved
loop-i-preserved c =
    let s = c.args.self.now in
    let f = s.file.now in
    let t = table_of f in
    let i = c.loop-i.i in
    let few = (sized f s.laid).few_nodes in
    let n = ap (λ k. k.nodes) s.counted in
    let at = c.loop-i-test.true in
    let ls = c.climb-parent.new.links in
    let e = c.climb-parent.ensures in
    let x : Link = record { parent = c.climb-parent.result; end = None } in
    let len : i < length ls = omega arith in
    (parents-more t i ls x len e.parent e.up, ends_more t i ls x len refl e.down)

pub returns-clause-ends : goal.returns-clause-ends
returns-clause-ends c =
    let s = c.args.self.now in
    let f = s.file.now in
    let t = table_of f in
    let n = s.counts.nodes in
    let i = c.loop-i.i in
    let some = (sized f s.laid).some_nodes in
    let e : i ≡ n = omega (arith, c.loop-i-test.false, ap (λ k. k.nodes) s.counted, c.loop-i.auto.i-end) in
    subst (λ m. Ends t m c.loop-i.links) e c.loop-i.invariant.1
