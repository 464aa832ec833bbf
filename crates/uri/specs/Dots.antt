-- remove_dot_segments, RFC 3986, section 5.2.4.
use Rattle.std.specs.Prelude.{ℕ, zero, suc, Bool, true, false, cond, ◌||◌, List, [], ◌∷◌, ◌++◌, length, take, Some, None, codes, Option, ◌==◌}
use Rattle.std.specs.Str.{bytes_eq}
use Rattle.uri.specs.Bytes.{front, rest, after}

-- the index of the right-most slash
abbrev pub farther : Option ℕ → Bool → Option ℕ
farther (Some i) here = Some (suc i)
farther None true = Some zero
farther None false = None

abbrev pub rightmost : List ℕ → Option ℕ
rightmost [] = None
rightmost (b ∷ bs) = farther (rightmost bs) (b == 47)

-- the output without its last segment and the slash before that, if any
abbrev pub before : Option ℕ → List ℕ → List ℕ
before None bs = []
before (Some i) bs = take i bs

abbrev pub without_last : List ℕ → List ℕ
without_last output = before (rightmost output) output

-- the first segment: the initial slash, if any, and the bytes up to the next slash or the end
abbrev pub first_segment : List ℕ → List ℕ
first_segment [] = []
first_segment (b ∷ bs) = b ∷ front (codes "/") bs

abbrev pub behind_segment : List ℕ → List ℕ
behind_segment [] = []
behind_segment (b ∷ bs) = rest (codes "/") bs

-- a rule for an input that begins with a prefix: what it makes of the bytes behind that
abbrev pub on_prefix : Option (List ℕ) → (List ℕ → List ℕ × List ℕ) → List ℕ × List ℕ → List ℕ × List ℕ
on_prefix (Some behind) rule other = rule behind
on_prefix None rule other = other

-- one turn of the standard's loop: what the first rule that applies leaves in the input and the output
unfoldable pub turn : List ℕ → List ℕ → List ℕ × List ℕ
turn input output =
    -- A: the prefix "../" or "./" goes
    on_prefix (after (codes "../") input) (λ behind. (behind, output))
    (on_prefix (after (codes "./") input) (λ behind. (behind, output))
    -- B: the prefix "/./", or "/." alone, becomes "/"
    (on_prefix (after (codes "/./") input) (λ behind. (codes "/" ++ behind, output))
    (cond (bytes_eq input (codes "/.")) (codes "/", output)
    -- C: the prefix "/../", or "/.." alone, becomes "/", and the output loses its last segment
    (on_prefix (after (codes "/../") input) (λ behind. (codes "/" ++ behind, without_last output))
    (cond (bytes_eq input (codes "/..")) (codes "/", without_last output)
    -- D: "." or ".." alone goes
    (cond (bytes_eq input (codes ".") || bytes_eq input (codes "..")) ([], output)
    -- E: the first segment moves to the end of the output
    (behind_segment input, output ++ first_segment input)))))))

-- turns while the input is not empty, at most n
abbrev pub turns : ℕ → List ℕ → List ℕ → List ℕ
turns zero input output = output
turns (suc n) [] output = output
turns (suc n) (b ∷ bs) output = turns n (turn (b ∷ bs) output).0 (turn (b ∷ bs) output).1

-- each turn takes a byte or more from the input, so as many turns as bytes empty it
abbrev pub remove_dots : List ℕ → List ℕ
remove_dots path = turns (length path) path []
