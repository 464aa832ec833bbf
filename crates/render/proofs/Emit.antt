-- Appending piece by piece.
use Rattle.std.proofs.Common.{◌≡◌, ℕ, zero, suc, ◌+◌, ◌<◌, ◌≤◌, List, [], ◌∷◌, ◌++◌, length, get_or, drop, Some, None, Option, sym, ap, ◌∙◌, append_assoc, append-nil}
use Rattle.std.specs.List.{slice_get}
use Rattle.std.proofs.lemmas.List.{drop_more, drop_all}
use Rattle.page.specs.Forest.{length_in, byte_in}
use Rattle.render.specs.Found.{bytes_in}

-- the length and the bytes of a part, as they were answered
pub length-read : (o : Option (List ℕ)) (r : ℕ) → Some r ≡ length_in o → r ≡ length (bytes_in o)
length-read None r e = cc
length-read (Some xs) r e = cc

nth_read : (xs : List ℕ) (i r : ℕ) → Some r ≡ slice_get xs i → r ≡ get_or xs i 0
nth_read [] i r e = cc
nth_read (x ∷ xs) zero r e = cc
nth_read (x ∷ xs) (suc i) r e = nth_read xs i r e

pub byte-read : (o : Option (List ℕ)) (i r : ℕ) → Some r ≡ byte_in o i → r ≡ get_or (bytes_in o) i 0
byte-read None i r e = cc
byte-read (Some xs) i r e = nth_read xs i r e

-- of what is written piece by piece, one piece more
module _ {X : Type 0} (write : List X → List ℕ) (piece : X → List ℕ) (cons : (x : X) (xs : List X) → write (x ∷ xs) ≡ piece x ++ write xs) (start : write [] ≡ []) where
  pub piece-more : (E O O' : List ℕ) (xs : List X) (i : ℕ) (d : X) → i < length xs → O ++ write (drop i xs) ≡ E ++ write xs → O' ≡ O ++ piece (get_or xs i d) → O' ++ write (drop (i + 1) xs) ≡ E ++ write xs
  piece-more E O O' xs i d l h e =
      let x = get_or xs i d in
      let R = write (drop (i + 1) xs) in
      let next : write (drop i xs) ≡ piece x ++ R = ap write (drop_more xs i d l) ∙ cons x (drop (i + 1) xs) in
      ap (λ o. o ++ R) e ∙ (append_assoc O (piece x) R ∙ (ap (λ r. O ++ r) (sym next) ∙ h))

  pub pieces-all : (E O : List ℕ) (xs : List X) (i : ℕ) → length xs ≤ i → O ++ write (drop i xs) ≡ E ++ write xs → O ≡ E ++ write xs
  pieces-all E O xs i l h = sym (append-nil O) ∙ (ap (λ r. O ++ r) (sym (ap write (drop_all i xs l) ∙ start)) ∙ h)
