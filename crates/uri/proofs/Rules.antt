-- A turn of the standard's loop does what its rule does.
use Rattle.std.proofs.Common.{◌≡◌, ℕ, ◌≤◌, Bool, true, false, cond, ◌||◌, eqb, List, [], ◌∷◌, ◌++◌, length, drop, is_some, Some, None, codes, Option, sym, refl, ap, ◌∙◌, subst, arith}
use Rattle.std.proofs.lemmas.Slice.Eq.{bytes_eq-Decides}
use Rattle.std.proofs.lemmas.Bool.{eqb-true}
use Rattle.std.specs.Str.{bytes_eq}
use Rattle.uri.specs.Bytes.{after}
use Rattle.uri.specs.Dots.{turn, on_prefix, without_last}
use Rattle.uri.specs.Turn.{Rule, dot_dot_prefix, dot_prefix, dot, last_dot, parent, last_parent, only_dots, segment, rule_of, effect, least}

pub after_is : (p bs more : List ℕ) → after p bs ≡ Some more → bs ≡ p ++ more
after_is [] bs more e = cc
after_is (x ∷ p) [] more e = absurd cc
after_is (x ∷ p) (b ∷ bs) more e = go (eqb b x) refl e (after_is p bs more)
  where
    go : (t : Bool) → eqb b x ≡ t → cond t (after p bs) None ≡ Some more → (after p bs ≡ Some more → bs ≡ p ++ more) → b ∷ bs ≡ x ∷ (p ++ more)
    go true s f next = ap (λ z. z ∷ bs) (eqb-true b x s) ∙ ap (λ z. x ∷ z) (next f)
    go false s f next = absurd cc

-- what holds of a choice, from what holds where the bytes are there and where they are not
module _ {A : Type 0} (P : A → Type 0) (input : List ℕ) where
  by-prefix : (p : List ℕ) (x other : A) → ((more : List ℕ) → input ≡ p ++ more → P x) → P other → P (cond (is_some (after p input)) x other)
  by-prefix p x other here there = go (after p input) refl
    where
      go : (o : Option (List ℕ)) → after p input ≡ o → P (cond (is_some o) x other)
      go (Some more) e = here more (after_is p input more e)
      go None e = there

  pub by_whole : (p : List ℕ) (x other : A) → (input ≡ p → P x) → (bytes_eq input p ≡ false → P other) → P (cond (bytes_eq input p) x other)
  by_whole p x other here there = go (bytes_eq input p) refl
    where
      go : (t : Bool) → bytes_eq input p ≡ t → P (cond t x other)
      go true e = here ((bytes_eq-Decides input p).0 e)
      go false e = there e

  pub by-either : (p q : List ℕ) (x other : A) → (input ≡ p → P x) → (input ≡ q → P x) → (bytes_eq input p ≡ false → bytes_eq input q ≡ false → P other) → P (cond (bytes_eq input p || bytes_eq input q) x other)
  by-either p q x other here also there = go (bytes_eq input p) (bytes_eq input q) refl refl
    where
      go : (t u : Bool) → bytes_eq input p ≡ t → bytes_eq input q ≡ u → P (cond (t || u) x other)
      go true u e f = here ((bytes_eq-Decides input p).0 e)
      go false true e f = also ((bytes_eq-Decides input q).0 f)
      go false false e f = there e f

pub rule-least : (input : List ℕ) → least (rule_of input) ≤ length input
rule-least input =
    let P : Rule → Type 0 = λ r. least r ≤ length input in
    by-prefix P input (codes "../") dot_dot_prefix _ (λ more e. subst (λ z. 3 ≤ length z) (sym e) (omega arith))
    (by-prefix P input (codes "./") dot_prefix _ (λ more e. subst (λ z. 2 ≤ length z) (sym e) (omega arith))
    (by-prefix P input (codes "/./") dot _ (λ more e. subst (λ z. 3 ≤ length z) (sym e) (omega arith))
    (by_whole P input (codes "/.") last_dot _ (λ e. subst (λ z. 2 ≤ length z) (sym e) (omega arith)) (λ _.
    by-prefix P input (codes "/../") parent _ (λ more e. subst (λ z. 4 ≤ length z) (sym e) (omega arith))
    (by_whole P input (codes "/..") last_parent _ (λ e. subst (λ z. 3 ≤ length z) (sym e) (omega arith)) (λ _.
    by-either P input (codes ".") (codes "..") only_dots segment (λ e. subst (λ z. 1 ≤ length z) (sym e) (omega arith)) (λ e. subst (λ z. 1 ≤ length z) (sym e) (omega arith)) (λ _ _.
    omega arith)))))))

module _ (input output : List ℕ) where
  abbrev Pair : Type 0
  Pair = List ℕ × List ℕ

  on-prefix : (p : List ℕ) (f : List ℕ → Pair) (r other : Rule) (then : Pair) → ((more : List ℕ) → input ≡ p ++ more → f more ≡ effect r input output)
      → then ≡ effect other input output → on_prefix (after p input) f then ≡ effect (cond (is_some (after p input)) r other) input output
  on-prefix p f r other then here there = go (after p input) refl
    where
      go : (o : Option (List ℕ)) → after p input ≡ o → on_prefix o f then ≡ effect (cond (is_some o) r other) input output
      go (Some more) e = here more (after_is p input more e)
      go None e = there

  on_test : (t : Bool) (x : Pair) (r other : Rule) (then : Pair) → x ≡ effect r input output → then ≡ effect other input output → cond t x then ≡ effect (cond t r other) input output
  on_test true x r other then here there = here
  on_test false x r other then here there = there

  pub turn_is : turn input output ≡ effect (rule_of input) input output
  unfolding turn
  turn_is =
      on-prefix (codes "../") _ dot_dot_prefix _ _ (λ more e. ap (λ z. (drop 3 z, output)) (sym e))
      (on-prefix (codes "./") _ dot_prefix _ _ (λ more e. ap (λ z. (drop 2 z, output)) (sym e))
      (on-prefix (codes "/./") _ dot _ _ (λ more e. ap (λ z. (drop 2 z, output)) (sym e))
      (on_test (bytes_eq input (codes "/.")) _ last_dot _ _ refl
      (on-prefix (codes "/../") _ parent _ _ (λ more e. ap (λ z. (drop 3 z, without_last output)) (sym e))
      (on_test (bytes_eq input (codes "/..")) _ last_parent _ _ refl
      (on_test (bytes_eq input (codes ".") || bytes_eq input (codes "..")) _ only_dots segment _ refl refl))))))
