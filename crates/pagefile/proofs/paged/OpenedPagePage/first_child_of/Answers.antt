use Rattle.std.proofs.Common.{◌≡◌, ℕ, ◌+◌, ◌<◌, ◌≤◌, ◌⊎◌, length, None, sym, ap, inl, inr, arith}
use Rattle.table.proofs.Accepted.{accepted}
use Rattle.pagefile.specs.File.{table_of}
use Rattle.std.proofs.lemmas.List.{get_or_past}
use Rattle.std.proofs.lemmas.Bool.{cases_lt}
use Rattle.page.specs.Forest.{find, head_of, kids_of}
use Rattle.table.specs.Table.{Table, no_node, tree_of}
use Rattle.table.specs.Links.{depth_at}
use Rattle.table.proofs.Accepted.{Accepted}
use Rattle.table.proofs.Reading.{gone, child-there, child-none, child-last}
use Rattle.pagefile.proofs.paged.OpenedPagePage.first_child_of.Goals as goal

-- the node behind, if any, is no child
childless : (t : Table) (a : Accepted t) (n : ℕ) → n < length t.nodes → depth_at t (n + 1) ≤ depth_at t n → head_of (kids_of (find (tree_of t) n)) ≡ None
childless t a n l d = go (cases_lt (n + 1) (length t.nodes))
  where
    go : (n + 1 < length t.nodes) ⊎ (length t.nodes ≤ n + 1) → head_of (kids_of (find (tree_of t) n)) ≡ None
    go (inl h) = child-none t a n h d
    go (inr h) = child-last t a n l h

-- a node that is deeper is there
deeper-there : (t : Table) (n : ℕ) → depth_at t n < depth_at t (n + 1) → n + 1 < length t.nodes
deeper-there t n d = go (cases_lt (n + 1) (length t.nodes))
  where
    go : (n + 1 < length t.nodes) ⊎ (length t.nodes ≤ n + 1) → n + 1 < length t.nodes
    go (inl h) = h
    go (inr h) = absurd (omega (arith, ap (λ x. x.depth) (get_or_past t.nodes (n + 1) no_node h)))

pub returns-then-n-self : goal.returns-then-n-self
returns-then-n-self c h =
    let p = c.args.self.now in
    let t = table_of p.sections.file.now in
    let a = accepted t p.accepted in
    sym (ap (λ f. head_of (kids_of f)) (gone t a c.args.n (omega (arith, c.if-n-self.true, p.many))))

pub returns-then-node : goal.returns-then-node
returns-then-node c h =
    let p = c.args.self.now in
    let t = table_of p.sections.file.now in
    let a = accepted t p.accepted in
    let n = c.args.n in
    let d : depth_at t n < depth_at t (n + 1) = omega (arith, c.if-node.true, ap (λ x. x.depth) c.node.ensures, ap (λ x. x.depth) c.node-2.ensures) in
    sym (child-there t a n (deeper-there t n d) d)

pub returns-else-node : goal.returns-else-node
returns-else-node c h =
    let p = c.args.self.now in
    let t = table_of p.sections.file.now in
    let a = accepted t p.accepted in
    let n = c.args.n in
    sym (childless t a n (omega (arith, c.if-n-self.false, p.many)) (omega (arith, c.if-node.false, ap (λ x. x.depth) c.node.ensures, ap (λ x. x.depth) c.node-2.ensures)))
