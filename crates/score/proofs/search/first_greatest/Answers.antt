use Rattle.std.proofs.Common.{◌≡◌, rules, List, [], ◌∷◌, subst, ap}
use Rattle.std.specs.List.{FoldsTo}
use Rattle.std.specs.Iterator.{ActsAsOnTwo, FoldTurn}
use denote.Param.Members.{Mut}
use Rattle.std.proofs.lemmas.Iterator.{YieldsList-from_slice}
use Rattle.std.proofs.lemmas.Iterator.Consumers.{YieldsList-from_copied, YieldsList-from_enumerate, YieldsList-at, reduce_from_yields_List}
use Rattle.score.proofs.Greatest.{greater, found, found-value}
use Rattle.score.proofs.Choice.{bounded}
use Rattle.score.specs.Greatest.{FirstGreatest}
use Rattle.score.proofs.search.first_greatest.Goals as goal

-- what the calls did, where each leaves the function as it is and answers h
turns : {F A : Type 0} (g : Mut F (A × (A × Unit {0})) A) (h : A → A → A) {f : F} → ActsAsOnTwo g f h → (x : A) (xs : List A) (f' : F) (y : A)
    → FoldsTo (FoldTurn g) (f, x) xs (f', y) → FoldsTo (λ p z c. c ≡ h p z) x xs y
turns g h a x [] f' y e = ap (λ q. q.1) e
turns g h a x (z ∷ zs) f' y t =
    let m = t.0 in
    let k = a x z m.1 m.0 t.1 in
    (m.1, k.1, turns g h a m.1 zs f' y (subst (λ f. FoldsTo (FoldTurn g) (f, m.1) zs (f', y)) k.0 t.2))

pub returns : goal.returns
returns g c =
    let kind = g.K.ScoreKind in
    let laws = g.met.K.ScoreKind in
    let scores = c.args.scores.now in
    let i = c.in_ok-index.index in
    let ran = c.in_ok-index.ensures.ran in
    let copied = YieldsList-from_copied (YieldsList-at c.copied.ensures.source (YieldsList-from_slice scores cc)) in
    let indexed = YieldsList-from_enumerate (YieldsList-at c.enumerate.ensures.source copied) c.enumerate.ensures.count in
    let first : FirstGreatest kind.exceeds scores i = found kind.exceeds laws.order scores (i, c.in_ok-index.field-0-1)
    (reduce_from_yields_List (greater kind.exceeds) c.enumerate.result _ (ran.0, ran.1, ran.3, turns _ (greater kind.exceeds) (λ x y r f k. search rules) _ _ _ _ ran.4) indexed) in
    record {
      value = found-value kind.exceeds scores i first;
      greatest = first;
      bounded = λ ps within e. bounded kind.STEP kind.settled kind.exceeds laws.order laws.distance ps within i (subst (λ xs. FirstGreatest kind.exceeds xs i) e first);
    }
