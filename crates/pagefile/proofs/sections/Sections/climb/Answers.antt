use Rattle.std.proofs.Common.{◌≡◌, ℕ, ◌<◌, ◌≤◌, List, length, set, Some, sym, refl, ap, ◌∙◌, subst, arith, get_or-set_same, length-set}
use Rattle.table.specs.Links.{depth_at, ParentOf}
use Rattle.pagefile.specs.declared.link.Link.{Link}
use Rattle.pagefile.specs.Links.{no_link, parent_in}
use Rattle.table.proofs.Accepted.{Accepted, accepted, root-depth, later-depth}
use Rattle.pagefile.specs.File.{table_of}
use Rattle.pagefile.proofs.Sized.{sized}
use Rattle.pagefile.proofs.Accepting.{length-nodes}
use Rattle.pagefile.proofs.Linking.{climb-starts, climb-more, parents-kept, climb-ends}
use Rattle.pagefile.proofs.sections.Sections.climb.Goals as goal

-- a node as deep as a later one is not the root
inner : (f : List ℕ) → Accepted (table_of f) → (i p : ℕ) → 0 < i → i < length (table_of f).nodes → depth_at (table_of f) i ≤ depth_at (table_of f) p → 0 < p
inner f a i p low here high =
    let t = table_of f in
    let off : p ≡ 0 → ⊥ = λ z. let y : depth_at t p ≡ depth_at t 0 = ap (depth_at t) z in omega (arith, root-depth t a, later-depth t a i low here) in
    omega arith

-- the link of p once its end is entered, and its parent read after
abbrev ended : List Link → ℕ → ℕ → Link
ended ls p i = record { parent = parent_in ls p; end = Some i }

next : (ls : List Link) (p i q : ℕ) → p < length ls → q ≡ parent_in (set ls p (ended ls p i)) p → q ≡ parent_in ls p
next ls p i q len e = e ∙ ap (λ l. l.parent) (get_or-set_same ls p (ended ls p i) no_link len)

pub loop-links-init : goal.loop-links-init
loop-links-init c = (climb-starts (table_of c.args.self.now.file.now) c.args.i c.args.links.now c.requires.low c.requires.down, c.requires.up, c.told-links)

pub loop-links-smaller : goal.loop-links-smaller
loop-links-smaller c =
    let s = c.args.self.now in
    let f = s.file.now in
    let t = table_of f in
    let i = c.args.i in
    let p = c.loop-links.p in
    let a = accepted t c.requires.accepted in
    let low = inner f a i p c.requires.low (omega (arith, c.requires.high, ap (λ k. k.nodes) s.counted, length-nodes f)) (omega (arith, ap (λ x. x.depth) c.node-depth.ensures, ap (λ x. x.depth) c.node.ensures, c.loop-links-test.true)) in
    let up = c.loop-links.invariant.1 p low c.loop-links.invariant.0.before in
    let len : p < length c.loop-links.links = omega (arith, c.loop-links.invariant.0.before, c.loop-links.invariant.2, c.requires.high, ap (λ k. k.nodes) s.counted, (sized f s.laid).few_nodes) in
    omega (arith, up.0, next c.loop-links.links p i c.from-p.result len c.from-p.ensures)

pub loop-links-preserved : goal.loop-links-preserved
loop-links-preserved c =
    let s = c.args.self.now in
    let f = s.file.now in
    let t = table_of f in
    let i = c.args.i in
    let p = c.loop-links.p in
    let ls = c.loop-links.links in
    let climbed = c.loop-links.invariant.0 in
    let n = ap (λ k. k.nodes) s.counted in
    let high : depth_at t i ≤ depth_at t p = omega (arith, ap (λ x. x.depth) c.node-depth.ensures, ap (λ x. x.depth) c.node.ensures, c.loop-links-test.true) in
    let low = inner f (accepted t c.requires.accepted) i p c.requires.low (omega (arith, c.requires.high, n, length-nodes f)) high in
    let less = climbed.before in
    let x = ended ls p i in
    let len : p < length ls = omega (arith, c.loop-links.invariant.2, c.requires.high, n, (sized f s.laid).few_nodes) in
    let is = next ls p i c.from-p.result len c.from-p.ensures in
    let up = subst (ParentOf t p) (sym is) (c.loop-links.invariant.1 p low less) in
    (climb-more t i p c.from-p.result ls x len refl high up climbed, parents-kept t i p ls x len refl c.loop-links.invariant.1, simp length-set c.loop-links.invariant.2)

pub returns-clause-down : goal.returns-clause-down
returns-clause-down c =
    let t = table_of c.args.self.now.file.now in
    let i = c.args.i in
    let p = c.loop-links.p in
    let here = ap (λ x. x.depth) c.node-depth.ensures in
    let there = ap (λ x. x.depth) c.node.ensures in
    let low : depth_at t p < depth_at t i = omega (arith, here, there, c.loop-links-test.false) in
    climb-ends t i p c.loop-links.links low c.loop-links.invariant.0
