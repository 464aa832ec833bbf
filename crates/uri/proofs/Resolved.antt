-- A recomposed draft is the target, and its bytes before dot segments go are at most one more than base and reference have.
use Rattle.std.proofs.Common.{◌≡◌, ℕ, ◌+◌, ◌≤◌, List, length, ap, ◌∙◌, arith}
use Rattle.uri.specs.Components.{Parts, components}
use Rattle.uri.specs.Resolve.{recompose, transform, resolved}
use Rattle.uri.specs.View.{Draft, draft, finished, room}
use Rattle.uri.proofs.Splits.{recompose-components}
use Rattle.uri.proofs.Targets.{finished-draft, draft-room}

module _ (b r : List ℕ) (p q : Parts) (d : Draft) (e : p ≡ components b) (f : q ≡ components r) (g : d ≡ draft p q) where
  pub few : room d ≤ length b + 1 + length r
  few =
      let h = draft-room p q in
      omega (arith, ap room g, h, ap (λ z. length (recompose z)) e, ap (λ z. length (recompose z)) f, ap length (recompose-components b), ap length (recompose-components r))

  pub recomposed : recompose (finished d) ≡ resolved b r
  unfolding resolved
  recomposed = ap (λ z. recompose (finished z)) g ∙ (ap recompose (finished-draft p q) ∙ (ap (λ z. recompose (transform z q)) e ∙ ap (λ z. recompose (transform (components b) z)) f))
