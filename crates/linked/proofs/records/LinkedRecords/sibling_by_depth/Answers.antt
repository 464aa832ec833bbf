use Rattle.std.proofs.Common.{◌≡◌, ℕ, suc, ◌+◌, ◌-◌, ◌<◌, ◌≤◌, length, None, Option, sym, ap, ◌∙◌, arith, rules}
use Rattle.std.specs.Option.{MatchOption}
use Rattle.std.proofs.lemmas.Iterator.{first_from_Range}
use Rattle.std.proofs.lemmas.Option.{MatchOption-at_some, MatchOption-at_none}
use Rattle.table.specs.Table.{Table}
use Rattle.table.specs.Links.{depth_at}
use Rattle.linked.specs.Links.{first_at, sibling_link}
use Rattle.linked.specs.Records.{table_in}
use Rattle.linked.proofs.Lists.{length-records}
use Rattle.linked.proofs.Depths.{first-none, first-there, at_here, at-higher}
use Rattle.linked.proofs.records.LinkedRecords.sibling_by_depth.Goals as goal

-- the nodes from j on, before n, are deeper than d, up to the one that is answered
abbrev Found : Table → ℕ → ℕ → ℕ → Option ℕ → Type 0
Found t d j n r =
    MatchOption r ((k : ℕ) → j ≤ k → k < n → d < depth_at t k)
    (λ e. (j ≤ e) × (e < n) × (depth_at t e ≤ d) × ((k : ℕ) → j ≤ k → k < e → d < depth_at t k))

module _ (t : Table) (i d n : ℕ) (z : d ≡ depth_at t i) (e : n ≡ length t.nodes) where
  -- all that follows is deeper
  run-out : ((k : ℕ) → i + 1 ≤ k → k < n → d < depth_at t k) → sibling_link t i ≡ None
  run-out h = first-none t (depth_at t i) (length t.nodes - suc i) (suc i) (λ m a b. omega (arith, h m (omega arith) (omega arith)))

  -- what follows is deeper, as far as j
  run-to : (j : ℕ) → i + 1 ≤ j → j < n → ((k : ℕ) → i + 1 ≤ k → k < j → d < depth_at t k) → sibling_link t i ≡ first_at t (depth_at t i) j (suc (n - suc j))
  run-to j a b h =
      let left : suc i + (length t.nodes - suc i) - j ≡ suc (n - suc j) = omega arith in
      first-there t (depth_at t i) (length t.nodes - suc i) (suc i) j (omega arith) (omega arith) (λ m x y. omega (arith, h m (omega arith) y)) ∙ ap (first_at t (depth_at t i) j) left

pub returns-in_err-j : goal.returns-in_err-j
returns-in_err-j c =
    let t = table_in c.args.self.now in
    let i = c.args.i in
    let n = length c.args.self.now.nodes.now in
    let d = c.node-depth.result.depth in
    let z : d ≡ depth_at t i = ap (λ x. x.depth) c.node-depth.ensures in
    let m : Found t d (i + 1) n c.find.result = first_from_Range _ _ _ _ (λ k. depth_at t k ≤ d) (λ k. d < depth_at t k) c.find.ensures.ran (λ x q k. search rules) (λ x q k. search rules) in
    c.from_residual.ensures ∙ sym (run-out t i d n z (sym (length-records c.args.self.now.nodes.now)) (MatchOption-at_none _ _ c.in_err-j.was m))

pub returns-then-node-depth : goal.returns-then-node-depth
returns-then-node-depth c =
    let t = table_in c.args.self.now in
    let i = c.args.i in
    let n = length c.args.self.now.nodes.now in
    let d = c.node-depth.result.depth in
    let z : d ≡ depth_at t i = ap (λ x. x.depth) c.node-depth.ensures in
    let m : Found t d (i + 1) n c.find.result = first_from_Range _ _ _ _ (λ k. depth_at t k ≤ d) (λ k. d < depth_at t k) c.find.ensures.ran (λ x q k. search rules) (λ x q k. search rules) in
    let h = MatchOption-at_some _ _ _ c.in_ok-j.was m in
    let j = c.in_ok-j.j in
    let here : depth_at t j ≡ depth_at t i = omega (arith, c.if-node-depth.true, ap (λ x. x.depth) c.node.ensures) in
    sym (run-to t i d n z (sym (length-records c.args.self.now.nodes.now)) j h.0 h.1 h.3 ∙ at_here t (depth_at t i) j (n - suc j) here)

pub returns-else-node-depth : goal.returns-else-node-depth
returns-else-node-depth c =
    let t = table_in c.args.self.now in
    let i = c.args.i in
    let n = length c.args.self.now.nodes.now in
    let d = c.node-depth.result.depth in
    let z : d ≡ depth_at t i = ap (λ x. x.depth) c.node-depth.ensures in
    let m : Found t d (i + 1) n c.find.result = first_from_Range _ _ _ _ (λ k. depth_at t k ≤ d) (λ k. d < depth_at t k) c.find.ensures.ran (λ x q k. search rules) (λ x q k. search rules) in
    let h = MatchOption-at_some _ _ _ c.in_ok-j.was m in
    let j = c.in_ok-j.j in
    let off : depth_at t j ≡ d → ⊥ = λ y. c.if-node-depth.false (ap (λ x. x.depth) c.node.ensures ∙ y) in
    let low : depth_at t j < depth_at t i = omega (arith, h.2) in
    sym (run-to t i d n z (sym (length-records c.args.self.now.nodes.now)) j h.0 h.1 h.3 ∙ at-higher t (depth_at t i) j (n - suc j) low)
