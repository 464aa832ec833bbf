-- What a walk from child to sibling rests on.
use Rattle.std.proofs.Common.{◌≡◌, ℕ, suc, ◌+◌, ◌≤◌, Bool, true, false, cond, eqb, length, Some, None, Option, sym, refl, ap, ◌∙◌, arith}
use Rattle.page.specs.Forest.{Forest, none, node, or_else, find, has, head_of, kids_of, rest_of, size, texts, from}
use Rattle.page.specs.Kinds.{if_text}
use Rattle.page.specs.Kept.{Unique}
use Rattle.page.proofs.Find.{find-kids, find-rest, head-has}

headless : (f : Forest) → head_of f ≡ None → f ≡ none
headless none h = refl
headless (node m k c a kids rest) h = absurd (let z : ◌≡◌ {A = ℕ} 0 1 = cc in omega arith)

module _ (t : Forest) (u : Unique t) (n : ℕ) where
  -- what begins at the first child
  pub from-kids : (r : Option ℕ) → r ≡ head_of (kids_of (find t n)) → from t r ≡ kids_of (find t n)
  from-kids None e = sym (headless (kids_of (find t n)) (sym e))
  from-kids (Some m) e = find-kids t u n m (sym e)

  pub from-rest : (r : Option ℕ) → r ≡ head_of (rest_of (find t n)) → from t r ≡ rest_of (find t n)
  from-rest None e = sym (headless (rest_of (find t n)) (sym e))
  from-rest (Some m) e = find-rest t u n m (sym e)

-- the parts of a forest
pub size-parts : (f : Forest) (n : ℕ) → head_of f ≡ Some n → size f ≡ suc (size (kids_of f) + size (rest_of f))
size-parts none n h = absurd (let z : ◌≡◌ {A = ℕ} 0 1 = cc in omega arith)
size-parts (node m k c a kids rest) n h = refl

or_else-texts : (f g : Forest) → texts (or_else f g) ≤ texts f + texts g
or_else-texts none g = omega arith
or_else-texts (node m k c a kids rest) g = omega arith

-- what is found has no more text than the whole
pub texts-find : (t : Forest) (n : ℕ) → texts (find t n) ≤ texts t
texts-find none n = omega arith
texts-find (node i k c a kids rest) n = go (eqb i n) (texts-find kids n) (texts-find rest n)
  where
    go : (b : Bool) → texts (find kids n) ≤ texts kids → texts (find rest n) ≤ texts rest
        → texts (cond b (node i k c a kids rest) (or_else (find kids n) (find rest n))) ≤ if_text k (length c) + (texts kids + texts rest)
    go true x y = omega arith
    go false x y = omega (arith, or_else-texts (find kids n) (find rest n))

-- the forest at a number that was answered
pub from_some : (t : Forest) (r : Option ℕ) (c : ℕ) → head_of (from t r) ≡ r → r ≡ Some c → (from t r ≡ find t c) × (head_of (find t c) ≡ Some c)
from_some t r c h e = let same : from t r ≡ find t c = ap (from t) e in (same, ap head_of (sym same) ∙ (h ∙ e))

pub from-has : (t : Forest) (r : Option ℕ) (c : ℕ) → head_of (from t r) ≡ r → r ≡ Some c → has t c ≡ true
from-has t r c h e = head-has t c (from_some t r c h e).1
