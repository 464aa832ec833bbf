-- The bytes that are well-formed by the table are the encodings of scalar values.
use Rattle.std.proofs.Common.{◌≡◌, ℕ, zero, suc, ◌<◌, ◌≤◌, Bool, true, false, ◌&&◌, List, [], ◌∷◌, ◌++◌, length, drop, Some, None, IsUtf8, Decides, Option, sym, refl, ap, ◌∙◌, subst, inl, inr, arith}
use lib.Utf8.{scalar, scalars, encode, encodes}
use Rattle.std.proofs.lemmas.List.{length-drop, drop_at}
use Rattle.std.proofs.lemmas.Bool.{both_ways, and_parts, cases_Bool}
use Rattle.std.proofs.lemmas.Str.{IsUtf8-nil, IsUtf8-append, IsUtf8-encode, length-encode, len_utf8_bounds}
use Rattle.utf8.specs.Decode.{fits, decoded, width_of, character}
use Rattle.utf8.specs.Table.{within, table, begin, follows, well_formed}
use Rattle.utf8.proofs.Encoding.{decoded-front, decoded-begins}

and_assoc : (x y z : Bool) → (x && (y && z)) ≡ ((x && y) && z)
and_assoc true y z = refl
and_assoc false y z = refl

-- what follows a lead byte: the rest of its row, and then rows again
follows-row : (rs : List (ℕ × ℕ)) (bs : List ℕ) → follows (Some rs) bs ≡ (fits rs bs && well_formed (drop (length rs) bs))
follows-row [] bs = refl
follows-row (r ∷ rs) [] = refl
follows-row (r ∷ rs) (b ∷ bs) = ap (λ v. within r b && v) (follows-row rs bs) ∙ and_assoc (within r b) (fits rs bs) (well_formed (drop (length rs) bs))

-- a character in front is passed over
pub well_formed-past : (l : List ℕ) → 0 < width_of (decoded l) → well_formed l ≡ well_formed (drop (width_of (decoded l)) l)
well_formed-past [] h = absurd (omega arith)
well_formed-past (b ∷ t) h = row (begin table b) h
  where
    row : (o : Option (List (ℕ × ℕ))) → 0 < width_of (character b t o) → follows o t ≡ well_formed (drop (width_of (character b t o)) (b ∷ t))
    row None h = absurd (omega arith)
    row (Some rs) h = elim (cases_Bool (fits rs t)) [ inl v ↦ let f = follows-row rs t in rw (v, f, v) | inr v ↦ absurd (let k = h in grind arith) ]

-- and without one the bytes are ill-formed
pub ill-formed : (l : List ℕ) → 0 < length l → width_of (decoded l) ≡ 0 → well_formed l ≡ false
ill-formed [] k h = absurd (omega arith)
ill-formed (b ∷ t) k h = row (begin table b) h
  where
    row : (o : Option (List (ℕ × ℕ))) → width_of (character b t o) ≡ 0 → follows o t ≡ false
    row None h = refl
    row (Some rs) h = elim (cases_Bool (fits rs t)) [ inl v ↦ absurd (grind arith) | inr v ↦ let f = follows-row rs t in rw (f, v) ]

-- every text is well-formed
each-text : (cs : List ℕ) → scalars cs ≡ true → well_formed (encodes cs) ≡ true
each-text [] h = refl
each-text (c ∷ cs) h =
    let p = and_parts (scalar c) (scalars cs) h in
    let bs = encode c ++ encodes cs in
    let w : width_of (decoded bs) ≡ length (encode c) = ap width_of (decoded-front c (encodes cs) p.0) in
    let some : 0 < width_of (decoded bs) = omega (arith, length-encode c, len_utf8_bounds c) in
    let rest : drop (width_of (decoded bs)) bs ≡ encodes cs = drop_at (encode c) (encodes cs) (width_of (decoded bs)) (sym w) in
    well_formed-past bs some ∙ (ap well_formed rest ∙ each-text cs p.1)

-- and nothing else is: n bounds the bytes that are left
only-texts : (n : ℕ) (l : List ℕ) → length l ≤ n → well_formed l ≡ true → IsUtf8 l
only-texts n [] k h = IsUtf8-nil
only-texts zero (b ∷ t) k h = absurd (omega arith)
only-texts (suc n) (b ∷ t) k h = go (only-texts n) (decoded (b ∷ t)) refl
  where
    go : ((l : List ℕ) → length l ≤ n → well_formed l ≡ true → IsUtf8 l) → (o : Option (ℕ × ℕ)) → decoded (b ∷ t) ≡ o → IsUtf8 (b ∷ t)
    go texts None e = absurd (both_ways (well_formed (b ∷ t)) (ill-formed (b ∷ t) (omega arith) (ap width_of e)) h)
    go texts (Some p) e =
        let c = p.0 in
        let w = p.1 in
        let f = decoded-begins (b ∷ t) c w e in
        let q : width_of (decoded (b ∷ t)) ≡ w = ap width_of e in
        let some : 0 < w = omega (arith, f.width, length-encode c, len_utf8_bounds c) in
        let past : well_formed (drop w (b ∷ t)) ≡ true = ap (λ n. well_formed (drop n (b ∷ t))) (sym q) ∙ (sym (well_formed-past (b ∷ t) (omega arith)) ∙ h) in
        let rest = texts (drop w (b ∷ t)) (simp length-drop (omega arith)) past in
        subst IsUtf8 (sym f.front) (IsUtf8-append (encode c) (drop w (b ∷ t)) (IsUtf8-encode c f.is_scalar) rest)

pub decides-utf8 : (bs : List ℕ) (r : Bool) → r ≡ well_formed bs → Decides r (IsUtf8 bs)
decides-utf8 bs r e = ((λ h. only-texts (length bs) bs (omega arith) (sym e ∙ h)), (λ u. e ∙ (ap well_formed (sym u.1.1) ∙ each-text u.0 u.1.0)))

-- what decides UTF-8 decides the table
pub table-utf8 : (bs : List ℕ) (r : Bool) → Decides r (IsUtf8 bs) → r ≡ well_formed bs
table-utf8 bs true d = sym ((decides-utf8 bs (well_formed bs) refl).1 (d.0 refl))
table-utf8 bs false d = go (well_formed bs) refl
  where
    go : (w : Bool) → w ≡ well_formed bs → false ≡ well_formed bs
    go true e = absurd (both_ways false refl (d.1 ((decides-utf8 bs true e).0 refl)))
    go false e = e
