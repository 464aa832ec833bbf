-- The characters of bytes in order: one step of decoding, and what encoded characters give.
use Rattle.std.proofs.Common.{◌≡◌, ℕ, zero, suc, pred, ◌≤◌, true, List, [], ◌∷◌, ◌++◌, length, drop, Some, None, Option, sym, refl, ap, ◌∙◌, arith}
use lib.Utf8.{scalar, scalars, encode, encodes}
use Rattle.std.proofs.lemmas.List.{drop_at, append_assoc, append-nil}
use Rattle.std.proofs.lemmas.Bool.{and_parts}
use Rattle.utf8.specs.Decode.{decoded, scalars_past, scalars_of}
use Rattle.utf8.proofs.Encoding.{decoded-front}
use Rattle.utf8.proofs.Rows.{never}

-- to pass over bytes is to drop them
scalars_past-drop : (l : List ℕ) (n : ℕ) → scalars_past l n ≡ scalars_of (drop n l)
scalars_past-drop l zero = refl
scalars_past-drop [] (suc n) = refl
scalars_past-drop (b ∷ t) (suc n) = scalars_past-drop t n

-- what the first character gives, t being the bytes behind its lead byte
abbrev after : List ℕ → Option (ℕ × ℕ) → List ℕ
after t o = elim o [ None ↦ [] | Some p ↦ p.0 ∷ scalars_past t (pred p.1) ]

-- the first character, and then those of the bytes behind it
pub scalars_of-some : (l : List ℕ) (c w : ℕ) → decoded l ≡ Some (c, w) → scalars_of l ≡ c ∷ scalars_of (drop w l)
scalars_of-some [] c w e = let z : ◌≡◌ {A = ℕ} 0 1 = cc in absurd (omega arith)
scalars_of-some (b ∷ t) c zero e = absurd (never (b ∷ t) c e)
scalars_of-some (b ∷ t) c (suc w) e = ap (after t) e ∙ ap (λ cs. c ∷ cs) (scalars_past-drop t w)

-- none where no character begins
pub scalars_of-none : (l : List ℕ) → decoded l ≡ None → scalars_of l ≡ []
scalars_of-none [] e = refl
scalars_of-none (b ∷ t) e = ap (after t) e

-- encoded scalar values in front come first, in order
pub scalars_of-front : (cs rest : List ℕ) → scalars cs ≡ true → scalars_of (encodes cs ++ rest) ≡ cs ++ scalars_of rest
scalars_of-front [] rest h = refl
scalars_of-front (c ∷ cs) rest h =
    let p = and_parts (scalar c) (scalars cs) h in
    let bs = encode c ++ (encodes cs ++ rest) in
    let w = length (encode c) in
    let behind : drop w bs ≡ encodes cs ++ rest = drop_at (encode c) (encodes cs ++ rest) w refl in
    ap scalars_of (append_assoc (encode c) (encodes cs) rest) ∙ (scalars_of-some bs c w (decoded-front c (encodes cs ++ rest) p.0) ∙ ap (λ l. c ∷ l) (ap scalars_of behind ∙ scalars_of-front cs rest p.1))

-- the characters of encoded scalar values are these
pub scalars_of-encodes : (cs : List ℕ) → scalars cs ≡ true → scalars_of (encodes cs) ≡ cs
scalars_of-encodes cs h = ap scalars_of (sym (append-nil (encodes cs))) ∙ (scalars_of-front cs [] h ∙ append-nil cs)

-- no more characters than bytes
few_past : (l : List ℕ) (n : ℕ) → length (scalars_past l n) ≤ length l
few_past [] n = omega arith
few_past (b ∷ t) (suc n) = omega (arith, few_past t n)
few_past (b ∷ t) zero = go (decoded (b ∷ t)) (λ m. few_past t m)
  where
    go : (o : Option (ℕ × ℕ)) → ((m : ℕ) → length (scalars_past t m) ≤ length t) → length (after t o) ≤ suc (length t)
    go None f = omega arith
    go (Some p) f = omega (arith, f (pred p.1))

pub few : (l : List ℕ) → length (scalars_of l) ≤ length l
few l = few_past l 0
