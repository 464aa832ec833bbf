-- What removing dot segments keeps: the kind of the bytes, and a slash at the front.
use Rattle.std.proofs.Common.{◌≡◌, ℕ, zero, suc, Bool, true, false, cond, List, [], ◌∷◌, ◌++◌, take, Some, None, codes, Option, refl, subst}
use Rattle.std.proofs.ByRecursion.{All-append, All-take}
use Rattle.std.specs.List.{AllByRecursion}
use Rattle.uri.specs.Bytes.{among, front, rest}
use Rattle.uri.specs.Dots.{remove_dots, rightmost, before}
use Rattle.uri.proofs.Cases.{Each, dots-keep}
use Rattle.uri.specs.Laws.{Begins}
use Rattle.uri.proofs.Splits.{rest-begins}

module _ (P : ℕ → Type 0) where
  pub all-front : (ds bs : List ℕ) → AllByRecursion P bs → AllByRecursion P (front ds bs)
  all-front ds [] h = tt
  all-front ds (b ∷ bs) h = go (among ds b) (all-front ds bs h.1)
    where
      go : (t : Bool) → AllByRecursion P (front ds bs) → AllByRecursion P (cond t [] (b ∷ front ds bs))
      go true k = tt
      go false k = (h.0, k)

  pub all_rest : (ds bs : List ℕ) → AllByRecursion P bs → AllByRecursion P (rest ds bs)
  all_rest ds [] h = tt
  all_rest ds (b ∷ bs) h = go (among ds b) (all_rest ds bs h.1)
    where
      go : (t : Bool) → AllByRecursion P (rest ds bs) → AllByRecursion P (cond t (b ∷ bs) (rest ds bs))
      go true k = h
      go false k = k

  all-before : (o : Option ℕ) (bs : List ℕ) → AllByRecursion P bs → AllByRecursion P (before o bs)
  all-before None bs h = tt
  all-before (Some i) bs h = All-take P i bs h

  abbrev Both : List ℕ × List ℕ → Type 0
  Both q = AllByRecursion P q.0 × AllByRecursion P q.1

  each_all : (b : ℕ) (bs output : List ℕ) → Both (b ∷ bs, output) → Each Both (b ∷ bs) output
  each_all b bs output h =
      record {
        dotdot = λ more e. let k = subst (AllByRecursion P) e h.0 in (k.1.1.1, h.1);
        dot = λ more e. let k = subst (AllByRecursion P) e h.0 in (k.1.1, h.1);
        inner = λ more e. let k = subst (AllByRecursion P) e h.0 in (k.1.1, h.1);
        last = λ e. let k = subst (AllByRecursion P) e h.0 in ((k.0, tt), h.1);
        up = λ more e. let k = subst (AllByRecursion P) e h.0 in (k.1.1.1, all-before (rightmost output) output h.1);
        last_up = λ e. let k = subst (AllByRecursion P) e h.0 in ((k.0, tt), all-before (rightmost output) output h.1);
        only = (tt, h.1);
        move = λ plain. (all_rest (codes "/") bs h.0.1, All-append P output (b ∷ front (codes "/") bs) h.1 (h.0.0, all-front (codes "/") bs h.0.1));
      }

  -- the bytes of the result are bytes of the path
  pub removed-all : (path : List ℕ) → AllByRecursion P path → AllByRecursion P (remove_dots path)
  removed-all path h = (dots-keep Both each_all path (h, tt)).1

-- a path that begins with a slash or is empty keeps to that
begins-take : (ds bs : List ℕ) (i : ℕ) → Begins ds bs → Begins ds (take i bs)
begins-take ds [] zero h = tt
begins-take ds [] (suc i) h = tt
begins-take ds (b ∷ bs) zero h = tt
begins-take ds (b ∷ bs) (suc i) h = h

begins-before : (ds : List ℕ) (o : Option ℕ) (bs : List ℕ) → Begins ds bs → Begins ds (before o bs)
begins-before ds None bs h = tt
begins-before ds (Some i) bs h = begins-take ds bs i h

pub begins-append : (ds xs ys : List ℕ) → Begins ds xs → Begins ds ys → Begins ds (xs ++ ys)
begins-append ds [] ys h k = k
begins-append ds (x ∷ xs) ys h k = h

abbrev Slashed : List ℕ × List ℕ → Type 0
Slashed q = Begins (codes "/") q.0 × Begins (codes "/") q.1

each-slashed : (b : ℕ) (bs output : List ℕ) → Slashed (b ∷ bs, output) → Each Slashed (b ∷ bs) output
each-slashed b bs output h =
    record {
      dotdot = λ more e. let k : false ≡ true = subst (Begins (codes "/")) e h.0 in absurd cc;
      dot = λ more e. let k : false ≡ true = subst (Begins (codes "/")) e h.0 in absurd cc;
      inner = λ more e. (refl, h.1);
      last = λ e. (refl, h.1);
      up = λ more e. (refl, begins-before (codes "/") (rightmost output) output h.1);
      last_up = λ e. (refl, begins-before (codes "/") (rightmost output) output h.1);
      only = (tt, h.1);
      move = λ plain. (rest-begins (codes "/") bs, begins-append (codes "/") output (b ∷ front (codes "/") bs) h.1 h.0);
    }

pub removed-slashed : (path : List ℕ) → Begins (codes "/") path → Begins (codes "/") (remove_dots path)
removed-slashed path h = (dots-keep Slashed each-slashed path (h, tt)).1
