-- Texts that are the same, place by place.
use Rattle.std.proofs.Common.{◌≡◌, ℕ, suc, ◌+◌, ◌<◌, ◌≤◌, Bool, true, false, cond, ◌&&◌, eqb, List, [], ◌∷◌, map, length, get_or, drop, Some, None, Option, sym, refl, ap, ◌∙◌, arith, Bor}
use Rattle.std.specs.List.{find}
use Rattle.std.proofs.lemmas.List.{drop_more, drop_all}
use Rattle.std.proofs.lemmas.Bool.{eq-eqb, ne_eqb, eqb-true, and_parts, and_from, and_left, both_ways}
use Rattle.utf8.specs.Decode.{scalars_of}
use Rattle.page.specs.declared.kind.NodeKind.TheVariants.{Element}
use Rattle.page.specs.declared.kind.Part.TheVariants.{Content}
use Rattle.page.specs.Forest.{Forest, none, node, kind_of, part_of, length_in}
use Rattle.text.specs.Held.{bytes_in}
use Rattle.names.specs.declared.tag.Tag.{Tag}
use Rattle.names.specs.declared.tag.Tag.TheVariants.{Other}
use Rattle.names.specs.Names.{lowered, same}
use Rattle.names.specs.Tags.{sought, entry, named, classed, tag_of}
use Rattle.names.specs.Words.{begins}

pub same_true : (w v : List ℕ) → same w v ≡ true → w ≡ v
same_true [] [] h = refl
same_true [] (d ∷ ds) h = absurd (both_ways false refl h)
same_true (c ∷ cs) [] h = absurd (both_ways false refl h)
same_true (c ∷ cs) (d ∷ ds) h = let p = and_parts (eqb c d) (same cs ds) h in λ i. eqb-true c d p.0 i ∷ same_true cs ds p.1 i

pub same_self : (w : List ℕ) → same w w ≡ true
same_self [] = refl
same_self (c ∷ cs) = and_from (eqb c c) (same cs cs) (eq-eqb c c refl) (same_self cs)

pub same_length : (w v : List ℕ) → (length v ≡ length w → ⊥) → same w v ≡ false
same_length [] [] h = absurd (h refl)
same_length [] (d ∷ ds) h = refl
same_length (c ∷ cs) [] h = refl
same_length (c ∷ cs) (d ∷ ds) h = false_right (eqb c d) (same cs ds) (same_length cs ds (λ e. h (ap suc e)))
  where
    false_right : (x y : Bool) → y ≡ false → (x && y) ≡ false
    false_right true y e = e
    false_right false y e = refl

-- bytes as many as a word's are the same where they begin with it
pub same-begins : (w v : List ℕ) → length v ≡ length w → begins w v ≡ same w v
same-begins [] [] h = refl
same-begins [] (d ∷ ds) h = absurd (omega arith)
same-begins (c ∷ cs) [] h = absurd (omega arith)
same-begins (c ∷ cs) (d ∷ ds) h = ap (λ b. eqb c d && b) (same-begins cs ds (omega arith))

-- a length that was answered is that of the bytes
pub length-is : (o : Option (List ℕ)) (r : ℕ) → Some r ≡ length_in o → r ≡ length (bytes_in o)
length-is None r e = absurd (let z : ◌≡◌ {A = ℕ} 0 1 = cc in omega arith)
length-is (Some bs) r e = cc

-- a comparison by places: on, off and at the end
module _ (w v : List ℕ) (k : ℕ) where
  step : k < length w → k < length v → same (drop k w) (drop k v) ≡ (eqb (get_or w k 0) (get_or v k 0) && same (drop (k + 1) w) (drop (k + 1) v))
  step h j = λ i. same (drop_more w k 0 h i) (drop_more v k 0 j i)

  pub same-on : k < length w → k < length v → get_or v k 0 ≡ get_or w k 0 → same (drop k w) (drop k v) ≡ same w v → same (drop (k + 1) w) (drop (k + 1) v) ≡ same w v
  same-on h j e f = ap (λ b. b && same (drop (k + 1) w) (drop (k + 1) v)) (sym (eq-eqb _ _ (sym e))) ∙ (sym (step h j) ∙ f)

  pub same-off : k < length w → k < length v → (get_or v k 0 ≡ get_or w k 0 → ⊥) → same (drop k w) (drop k v) ≡ same w v → false ≡ same w v
  same-off h j e f = sym (and_left _ _ (ne_eqb _ _ (λ x. e (sym x)))) ∙ (sym (step h j) ∙ f)

  pub same_end : length w ≤ k → length v ≤ k → same (drop k w) (drop k v) ≡ same w v → true ≡ same w v
  same_end h j f = sym (λ i. same (drop_all k w h i) (drop_all k v j i)) ∙ f

-- the lowered characters of bytes
abbrev pub letters : List ℕ → List ℕ
letters bs = map lowered (scalars_of bs)

-- no characters are left for the word from its place k on
pub spells-short : (w cs : List ℕ) (k : ℕ) → k < length w → cs ≡ [] → same (drop k w) (map lowered cs) ≡ false
spells-short w cs k h e = λ i. same (drop_more w k 0 h i) (map lowered (e i))

-- a search of a table of names
abbrev pub tagged : Option (Bor (List ℕ) × Tag) → Tag
tagged None = Other
tagged (Some e) = e.1

pub sought-find : (table : List (Bor (List ℕ) × Tag)) (w : List ℕ) → tagged (find (λ e. same e.0.now w) table) ≡ sought (map entry table) w
sought-find [] w = refl
sought-find (e ∷ es) w = go (same e.0.now w) (sought-find es w)
  where
    go : (b : Bool) → tagged (find (λ e. same e.0.now w) es) ≡ sought (map entry es) w → tagged (cond b (Some e) (find (λ e. same e.0.now w) es)) ≡ cond b e.1 (sought (map entry es) w)
    go true h = refl
    go false h = h

-- the tag of an element is that of its content
pub element-tag : (g : Forest) → Some Element ≡ kind_of g → tag_of g ≡ named (bytes_in (part_of g Content))
element-tag none e = absurd (let z : ◌≡◌ {A = ℕ} 0 1 = cc in omega arith)
element-tag (node m k c a kids rest) e = let is : k ≡ Element = cc in ap (λ j. classed j c) is
