-- Induction over the turns of the standard's loop.
use Rattle.std.proofs.Common.{◌≡◌, ℕ, zero, suc, ◌≤◌, false, List, [], ◌∷◌, ◌++◌, length, Some, None, codes, Option, refl, arith}
use Rattle.std.specs.Str.{bytes_eq}
use Rattle.uri.specs.Bytes.{after}
use Rattle.uri.specs.Dots.{turn, turns, remove_dots, on_prefix, without_last, first_segment, behind_segment}
use Rattle.uri.proofs.Rules.{after_is, by_whole, by-either}
use Rattle.uri.proofs.Turns.{turn-shorter}

-- no rule but the last applies
pub record Plain (input : List ℕ) : Type 0 where
  pub no_dotdot : after (codes "../") input ≡ None
  pub no_dot : after (codes "./") input ≡ None
  pub no_inner : after (codes "/./") input ≡ None
  pub no_last : bytes_eq input (codes "/.") ≡ false
  pub no_up : after (codes "/../") input ≡ None
  pub no_last_up : bytes_eq input (codes "/..") ≡ false
  pub no_only : bytes_eq input (codes ".") ≡ false
  pub no_only_up : bytes_eq input (codes "..") ≡ false

-- what each rule owes
pub record Each (Q : List ℕ × List ℕ → Type 0) (input output : List ℕ) : Type 0 where
  pub dotdot : (more : List ℕ) → input ≡ codes "../" ++ more → Q (more, output)
  pub dot : (more : List ℕ) → input ≡ codes "./" ++ more → Q (more, output)
  pub inner : (more : List ℕ) → input ≡ codes "/./" ++ more → Q (codes "/" ++ more, output)
  pub last : input ≡ codes "/." → Q (codes "/", output)
  pub up : (more : List ℕ) → input ≡ codes "/../" ++ more → Q (codes "/" ++ more, without_last output)
  pub last_up : input ≡ codes "/.." → Q (codes "/", without_last output)
  pub only : Q ([], output)
  pub move : Plain input → Q (behind_segment input, output ++ first_segment input)

module _ (Q : List ℕ × List ℕ → Type 0) (input : List ℕ) where
  on-prefix : (p : List ℕ) (f : List ℕ → List ℕ × List ℕ) (other : List ℕ × List ℕ) → ((more : List ℕ) → input ≡ p ++ more → Q (f more)) → (after p input ≡ None → Q other) → Q (on_prefix (after p input) f other)
  on-prefix p f other here there = go (after p input) refl
    where
      go : (o : Option (List ℕ)) → after p input ≡ o → Q (on_prefix o f other)
      go (Some more) e = here more (after_is p input more e)
      go None e = there e

  pub turn-cases : (output : List ℕ) → Each Q input output → Q (turn input output)
  unfolding turn
  turn-cases output h =
      on-prefix (codes "../") _ _ h.dotdot (λ a.
      on-prefix (codes "./") _ _ h.dot (λ b.
      on-prefix (codes "/./") _ _ h.inner (λ c.
      by_whole Q input (codes "/.") _ _ h.last (λ d.
      on-prefix (codes "/../") _ _ h.up (λ e.
      by_whole Q input (codes "/..") _ _ h.last_up (λ f.
      by-either Q input (codes ".") (codes "..") _ _ (λ _. h.only) (λ _. h.only) (λ g k.
      h.move (record { no_dotdot = a; no_dot = b; no_inner = c; no_last = d; no_up = e; no_last_up = f; no_only = g; no_only_up = k }))))))))

-- what every turn keeps holds of the result
pub turns-keep : (I : List ℕ × List ℕ → Type 0) → ((b : ℕ) (bs output : List ℕ) → I (b ∷ bs, output) → Each I (b ∷ bs) output) → (n : ℕ) (input output : List ℕ) → length input ≤ n → I (input, output) → I ([], turns n input output)
turns-keep I keeps zero [] output l h = h
turns-keep I keeps zero (b ∷ bs) output l h = absurd (omega arith)
turns-keep I keeps (suc n) [] output l h = h
turns-keep I keeps (suc n) (b ∷ bs) output l h =
    turns-keep I keeps n (turn (b ∷ bs) output).0 (turn (b ∷ bs) output).1 (omega (arith, turn-shorter b bs output)) (turn-cases I (b ∷ bs) output (keeps b bs output h))

pub dots-keep : (I : List ℕ × List ℕ → Type 0) → ((b : ℕ) (bs output : List ℕ) → I (b ∷ bs, output) → Each I (b ∷ bs) output) → (path : List ℕ) → I (path, []) → I ([], remove_dots path)
dots-keep I keeps path h = turns-keep I keeps (length path) path [] (omega arith) h
