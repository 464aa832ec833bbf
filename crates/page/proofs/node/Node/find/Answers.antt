use Rattle.std.proofs.Common.{◌≡◌, true, false, sym, ap}
use Rattle.page.specs.Forest.{find, has, tree_or_none}
use Rattle.page.proofs.Find.{head-find, find_absent}
use Rattle.page.proofs.Nodes.{tree-some}
use Rattle.page.proofs.node.Node.find.Goals as goal

pub invariant_of-result : goal.invariant_of-result
invariant_of-result g c =
    let T = g.P.Page.tree c.args.page.now in
    let there : has T c.args.number ≡ true = cc (c.has.ensures, c.if-has.true) in
    head-find T c.args.number there

pub returns-then-has : goal.returns-then-has
returns-then-has g c =
    let T = g.P.Page.tree c.args.page.now in
    let there : has T c.args.number ≡ true = cc (c.has.ensures, c.if-has.true) in
    sym (tree-some (find T c.args.number) c.args.number (head-find T c.args.number there))

pub returns-else-has : goal.returns-else-has
returns-else-has g c =
    let T = g.P.Page.tree c.args.page.now in
    let gone : has T c.args.number ≡ false = cc (c.has.ensures, c.if-has.false) in
    ap tree_or_none (sym (find_absent T c.args.number gone))
