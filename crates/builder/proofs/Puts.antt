-- Bytes that are put one after the other.
use Rattle.std.proofs.Common.{◌≡◌, ℕ, ◌+◌, ◌≤◌, List, ◌++◌, length, take, drop, sym, refl, ap, ◌∙◌, length-append}
use lib.Seq.{paste}
use Rattle.std.proofs.lemmas.List.Edits.{paste_all, paste-paste}
use Rattle.builder.specs.Put.{put}

pub put-put : (l : List ℕ) (at : ℕ) (a b : List ℕ) → at ≤ length l → put (put l at a) (at + length a) b ≡ put l at (a ++ b)
put-put l at a b h =
    let both : length a + length b ≡ length (a ++ b) = sym (length-append a b) in
    ap (λ k. put k (at + length a) b) (sym (paste_all l at a (length a) refl))
    ∙ (sym (paste_all (paste l at a (length a)) (at + length a) b (length b) refl)
    ∙ (paste-paste l at a b (length a) (length b) refl refl h
    ∙ (paste_all l at (a ++ b) (length a + length b) both ∙ ap (λ k. take at l ++ ((a ++ b) ++ drop (at + k) l)) both)))
