-- What a node keeps of its page.
use Rattle.std.proofs.Common.{◌≡◌, ℕ, ◌+◌, ◌≤◌, max, suc, Bool, true, false, cond, eqb, List, [], ◌∷◌, Some, is_some, length, refl, sym, ap, ◌∙◌, arith}
use Rattle.page.specs.declared.kind.NodeKind.{NodeKind}
use Rattle.page.specs.Forest.{Forest, none, node, or_else, find, head_of, kids_of, rest_of, attrs_of, count_of, size, levels, trees, tree_or_none}
use Rattle.page.specs.Kept.{Kept, KeptNode, Below, WellFormed, Plain}
use Rattle.page.proofs.Find.{unique-find}
use Rattle.page.proofs.Walk.{texts-find}
use Rattle.page.proofs.Parent.{size-find}
use Rattle.page.proofs.Levels.{size_below}

-- what holds of a forest, and so of its parts, holds of what is found in it
module _ (Q : Forest → Type 0) (kids-too : (m : ℕ) (k : NodeKind) (c : List ℕ) (a : List (List ℕ × List ℕ)) (kids rest : Forest) → Q (node m k c a kids rest) → Q kids) (rest-too : (m : ℕ) (k : NodeKind) (c : List ℕ) (a : List (List ℕ × List ℕ)) (kids rest : Forest) → Q (node m k c a kids rest) → Q rest) (nothing : Q none) where
  or_else-keeps : (f g : Forest) → Q f → Q g → Q (or_else f g)
  or_else-keeps none g x y = y
  or_else-keeps (node m k c a kids rest) g x y = x

  pub find-keeps : (t : Forest) (n : ℕ) → Q t → Q (find t n)
  find-keeps none n x = nothing
  find-keeps (node i k c a kids rest) n x = go (eqb i n) (find-keeps kids n (kids-too i k c a kids rest x)) (find-keeps rest n (rest-too i k c a kids rest x))
    where
      go : (b : Bool) → Q (find kids n) → Q (find rest n) → Q (cond b (node i k c a kids rest) (or_else (find kids n) (find rest n)))
      go true y z = x
      go false y z = or_else-keeps (find kids n) (find rest n) y z

or_else-levels : (f g : Forest) → levels (or_else f g) ≤ max (levels f) (levels g)
or_else-levels none g = omega arith
or_else-levels (node m k c a kids rest) g = omega arith

pub levels-find : (t : Forest) (n : ℕ) → levels (find t n) ≤ levels t
levels-find none n = omega arith
levels-find (node i k c a kids rest) n = go (eqb i n) (levels-find kids n) (levels-find rest n)
  where
    go : (b : Bool) → levels (find kids n) ≤ levels kids → levels (find rest n) ≤ levels rest
        → levels (cond b (node i k c a kids rest) (or_else (find kids n) (find rest n))) ≤ max (suc (levels kids)) (levels rest)
    go true x y = omega arith
    go false x y = omega (arith, or_else-levels (find kids n) (find rest n))

below-more : (b e : ℕ) (t : Forest) → b ≤ e → Below b t → Below e t
below-more b e none l h = tt
below-more b e (node m k c a kids rest) l h = (omega (arith, h.0), below-more b e kids l h.1, below-more b e rest l h.2)

pub kept_node : (b : ℕ) (t : Forest) (n : ℕ) → Kept b t → KeptNode (find t n)
kept_node b t n k = record {
  unique = unique-find t n k.unique;
  below = find-keeps (Below 8192) (λ m j c a kids rest x. x.1) (λ m j c a kids rest x. x.2) tt t n (below-more b 8192 t k.few k.below);
  few = omega (arith, size-find t n, size_below b t k.unique k.below, k.few);
  flat = omega (arith, levels-find t n, k.flat);
  short = omega (arith, texts-find t n, k.short);
  formed = find-keeps WellFormed (λ m j c a kids rest x. x.2) (λ m j c a kids rest x. x.3) tt t n k.formed;
  plain = find-keeps Plain (λ m j c a kids rest x. x.1) (λ m j c a kids rest x. x.2) tt t n k.plain;
}

-- a forest with a first node begins with it
pub trees-first : (f : Forest) (n : ℕ) → head_of f ≡ Some n → trees f ≡ f ∷ trees (rest_of f)
trees-first none n h = absurd (let z : ◌≡◌ {A = ℕ} 0 1 = cc in omega arith)
trees-first (node m k c a kids rest) n h = refl

pub tree-some : (f : Forest) (n : ℕ) → head_of f ≡ Some n → tree_or_none f ≡ Some f
tree-some none n h = absurd (let z : ◌≡◌ {A = ℕ} 0 1 = cc in omega arith)
tree-some (node m k c a kids rest) n h = refl

pub counted : (f : Forest) (n : ℕ) → Some n ≡ count_of f → n ≡ length (attrs_of f)
counted none n h = absurd (let z : ◌≡◌ {A = ℕ} 0 1 = cc in omega arith)
counted (node m k c a kids rest) n h = cc

trees-same : (f g : Forest) → trees f ≡ trees g → f ≡ g
trees-same none none h = refl
trees-same none (node m k c a kids rest) h = cc
trees-same (node m k c a kids rest) none h = cc
trees-same (node m k c a kids rest) (node m' k' c' a' kids' rest') h = cc

-- what one turn over the children takes of those that are left: the first of them, with all under it
pub record Taken (f x g : Forest) : Type 0 where
  pub is : f ≡ x
  pub rest : rest_of x ≡ g
  pub some : is_some (head_of x) ≡ true
  pub levels : levels f ≡ max (suc (levels (kids_of x))) (levels g)
  pub size : size f ≡ suc (size (kids_of x) + size g)

pub taken : (f x g : Forest) → trees f ≡ x ∷ trees g → Taken f x g
taken none x g h = cc
taken (node m k c a kids rest) x g h =
    let is : node m k c a kids rest ≡ x = cc in
    let same : rest ≡ g = trees-same rest g cc in
    record {
      is = is;
      rest = ap rest_of (sym is) ∙ same;
      some = ap (λ f. is_some (head_of f)) (sym is);
      levels = ap (λ f. max (suc (levels (kids_of f))) (levels rest)) is ∙ ap (λ f. max (suc (levels (kids_of x))) (levels f)) same;
      size = ap (λ f. suc (size (kids_of f) + size rest)) is ∙ ap (λ f. suc (size (kids_of x) + size f)) same;
    }

-- none is left at the end
pub all_taken : (f : Forest) → trees f ≡ [] → f ≡ none
all_taken none h = refl
all_taken (node m k c a kids rest) h = cc

pub levels-kids : (f : Forest) → levels (kids_of f) ≤ levels f
levels-kids none = omega arith
levels-kids (node m k c a kids rest) = omega arith

-- what was found is the forest that was asked for
pub tree-found : (f x : Forest) → Some x ≡ tree_or_none f → x ≡ f
tree-found none x h = cc
tree-found (node m k c a kids rest) x h = cc
