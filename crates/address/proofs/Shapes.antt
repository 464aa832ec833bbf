-- A base by its components is a base by its bytes.
use Rattle.std.proofs.Common.{◌≡◌, ℕ, ◌≤◌, true, false, not, ◌&&◌, leb, List, [], ◌∷◌, ◌++◌, length, get_or, take, drop, ◌-◌, is_some, IfSome, Some, None, codes, Decides, Option, sym, refl, ap, ◌∙◌, subst, append_assoc, arith}
use Rattle.std.proofs.lemmas.Bool.{both_ways, and_parts, and_from, leb-true, le-leb}
use Rattle.std.proofs.lemmas.Bool.Decides.{nat_tests}
use Rattle.std.proofs.lemmas.List.{take_all}
use Rattle.std.proofs.ByRecursion.{Decides-by_and}
use Rattle.std.specs.List.{AllByRecursion, list_all}
use Rattle.uri.specs.Bytes.{among, after}
use Rattle.uri.specs.Components.{Parts, scheme_cut, authority_cut, from_path, components}
use Rattle.address.specs.Join.{visible, letter, scheme_byte, is_scheme_name, is_scheme, is_authority, shaped, is_base}
use Rattle.uri.specs.Laws.{Formed}
use Rattle.uri.specs.Resolve.{is_empty, closed, led, recompose}
use Rattle.uri.specs.Segments.{Without}
use Rattle.address.specs.Shaped.{Shaped}
use Rattle.uri.proofs.Formed.{components-formed}
use Rattle.uri.proofs.ReadBack.{scheme-read, opened-read}
use Rattle.uri.proofs.Rules.{after_is}
use Rattle.uri.proofs.Splits.{recompose-components}

-- each byte is visible
seen : (b : ℕ) → Decides (visible b) ((33 ≤ b) × (b ≤ 126))
seen b = (
  λ e. let p = and_parts (leb 33 b) (leb b 126) e in (leb-true 33 b p.0, leb-true b 126 p.1),
  λ h. and_from (leb 33 b) (leb b 126) (le-leb 33 b h.0) (le-leb b 126 h.1),
)

all_seen : (bs : List ℕ) → Decides (list_all visible bs) (AllByRecursion (λ b. (33 ≤ b) × (b ≤ 126)) bs)
all_seen bs = Decides-by_and visible (λ b. (33 ≤ b) × (b ≤ 126)) (list_all visible) seen refl (λ _ _. refl) bs

-- a scheme has no delimiter
letter-free : (b : ℕ) → letter b ≡ true → among (codes ":/?#") b ≡ false
letter-free b h = grind (arith, nat_tests)

byte-free : (b : ℕ) → scheme_byte b ≡ true → among (codes ":/?#") b ≡ false
byte-free b h = grind (arith, nat_tests)

bytes-free : (bs : List ℕ) → list_all scheme_byte bs ≡ true → Without (codes ":/?#") bs
bytes-free [] h = tt
bytes-free (b ∷ bs) h = let p = and_parts (scheme_byte b) (list_all scheme_byte bs) h in (byte-free b p.0, bytes-free bs p.1)

pub scheme-name : (name : List ℕ) → is_scheme_name name ≡ (letter (get_or name 0 0) && list_all scheme_byte (take (length name - 1) (drop 1 name)))
scheme-name [] = refl
scheme-name (b ∷ bs) = ap (λ z. letter b && list_all scheme_byte z) (sym (take_all _ bs (omega arith)))

name_free : (n : List ℕ) → is_scheme_name n ≡ true → (n ≡ [] → ⊥) × Without (codes ":/?#") n
name_free [] h = absurd cc
name_free (b ∷ bs) h =
    let p = and_parts (letter b) (list_all scheme_byte bs) h in
    (λ e. cc, (letter-free b p.0, bytes-free bs p.1))

-- from the components to the bytes
from_parts : (bs : List ℕ) (p : Parts) → recompose p ≡ bs → Formed p → length bs ≤ 2000 → AllByRecursion (λ b. (33 ≤ b) × (b ≤ 126)) bs → shaped p ≡ true → Shaped bs
from_parts bs p whole h few vis e =
    let q = and_parts (is_scheme p.scheme) (is_authority p.authority && is_some (after (codes "/") p.path)) e in
    let r = and_parts (is_authority p.authority) (is_some (after (codes "/") p.path)) q.1 in
    go p.scheme p.authority (after (codes "/") p.path) refl refl refl q.0 r.0 r.1
  where
    z : List ℕ
    z = led (codes "?") p.query ++ led (codes "#") p.fragment

    some : (a : List ℕ) → not (is_empty a) ≡ true → a ≡ [] → ⊥
    some [] e f = cc
    some (x ∷ a) e f = cc

    go : (s a o : Option (List ℕ)) → p.scheme ≡ s → p.authority ≡ a → after (codes "/") p.path ≡ o → is_scheme s ≡ true → is_authority a ≡ true → is_some o ≡ true → Shaped bs
    go None a o f g k x y w = absurd cc
    go (Some n) None o f g k x y w = absurd cc
    go (Some n) (Some a) None f g k x y w = absurd cc
    go (Some n) (Some a) (Some more) f g k x y w =
        record {
          short = few;
          visible = vis;
          name = n;
          host = a;
          more = more ++ z;
          whole =
              sym whole
              ∙ (ap (λ c. closed c (codes ":") ++ (led (codes "//") p.authority ++ (p.path ++ z))) f
              ∙ (ap (λ c. (n ++ codes ":") ++ (led (codes "//") c ++ (p.path ++ z))) g
              ∙ (ap (λ c. (n ++ codes ":") ++ ((codes "//" ++ a) ++ (c ++ z))) (after_is (codes "/") p.path more k)
              ∙ append_assoc n (codes ":") ((codes "//" ++ a) ++ ((codes "/" ++ more) ++ z)))));
          is_scheme = x;
          some_host = some a y;
          only_host = subst (λ c. IfSome c (Without (codes "/?#"))) g h.authority;
        }

pub base_shape : (bs : List ℕ) → is_base bs ≡ true → Shaped bs
base_shape bs e =
    let p = and_parts (leb (length bs) 2000) (list_all visible bs && shaped (components bs)) e in
    let q = and_parts (list_all visible bs) (shaped (components bs)) p.1 in
    from_parts bs (components bs) (recompose-components bs) (components-formed bs) (leb-true (length bs) 2000 p.0) ((all_seen bs).0 q.0) q.1

-- and back
to-parts : (bs n a more : List ℕ) → bs ≡ n ++ (codes "://" ++ (a ++ (codes "/" ++ more))) → is_scheme_name n ≡ true → (a ≡ [] → ⊥) → Without (codes "/?#") a → shaped (components bs) ≡ true
to-parts bs n a more whole s some only =
    let y = codes "//" ++ (a ++ (47 ∷ more)) in
    let e : scheme_cut bs ≡ (Some n, y) = ap scheme_cut (whole ∙ sym (append_assoc n (codes ":") y)) ∙ scheme-read (Some n) y (name_free n s) refl in
    let f : authority_cut (scheme_cut bs).1 ≡ (Some a, 47 ∷ more) = ap (λ c. authority_cut c.1) e ∙ opened-read (codes "/?#") a (47 ∷ more) only refl [] in
    ap shaped (ap (λ c. from_path c.0 (authority_cut (scheme_cut bs).1).0 (authority_cut (scheme_cut bs).1).1) e ∙ ap (λ c. from_path (Some n) c.0 c.1) f)
    ∙ and_from (is_scheme_name n) (not (is_empty a) && true) s (and_from (not (is_empty a)) true (some_is a some) refl)
  where
    some_is : (a : List ℕ) → (a ≡ [] → ⊥) → not (is_empty a) ≡ true
    some_is [] h = absurd (h refl)
    some_is (x ∷ a) h = refl

pub shaped-base : (bs : List ℕ) → Shaped bs → is_base bs ≡ true
shaped-base bs h =
    and_from (leb (length bs) 2000) (list_all visible bs && shaped (components bs)) (le-leb (length bs) 2000 h.short)
    (and_from (list_all visible bs) (shaped (components bs)) ((all_seen bs).1 h.visible) (to-parts bs h.name h.host h.more h.whole h.is_scheme h.some_host h.only_host))

pub refused_shape : (bs : List ℕ) → is_base bs ≡ false → Shaped bs → ⊥
refused_shape bs f h = both_ways (is_base bs) f (shaped-base bs h)
