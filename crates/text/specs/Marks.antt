-- Punctuation: what a match is, the matches of a text, and the machine that counts them.
use Rattle.std.specs.Prelude.{◌≡◌, ℕ, suc, ◌+◌, ◌-◌, ◌^◌, ◌<◌, min, Bool, true, false, cond, not, ◌&&◌, ◌||◌, List, [], ◌∷◌, length, ◌==◌, nat_le}
use Rattle.text.specs.declared.marks.State.{State}
use Rattle.text.specs.declared.marks.State.TheVariants.{Plain, AfterStop, AfterComma}
use Rattle.text.specs.declared.marks.Marks.{Marks}
use Rattle.text.specs.Space.{listed}
use Rattle.text.specs.Held.{run}

-- the marks that match alone: 、 。 ， ． ！ ？ ! ?
abbrev pub mark : ℕ → Bool
mark c = listed (12289 ∷ 12290 ∷ 65292 ∷ 65294 ∷ 65281 ∷ 65311 ∷ 33 ∷ 63 ∷ []) c

-- an ASCII digit
abbrev pub digit : ℕ → Bool
digit c = nat_le 48 c && nat_le c 57

-- an ASCII letter or digit
abbrev pub letter_or_digit : ℕ → Bool
letter_or_digit c = ((nat_le 65 c && nat_le c 90) || (nat_le 97 c && nat_le c 122)) || digit c

-- two characters that match: a stop and no ASCII letter or digit, or a comma and no ASCII digit
abbrev pub pair : ℕ → ℕ → Bool
pair c d = (c == 46 && not (letter_or_digit d)) || (c == 44 && not (digit d))

-- whether c begins a match, before the text cs
abbrev pub begins : ℕ → List ℕ → Bool
begins c [] = mark c
begins c (d ∷ ds) = mark c || pair c d

-- the matches in a text, taken leftmost and not overlapping: k is how many
pub data Matches : List ℕ → ℕ → Type 0 where
  none : Matches [] 0
  single : (c : ℕ) (cs : List ℕ) (k : ℕ) → mark c ≡ true → Matches cs k → Matches (c ∷ cs) (suc k)
  double : (c d : ℕ) (cs : List ℕ) (k : ℕ) → pair c d ≡ true → Matches cs k → Matches (c ∷ d ∷ cs) (suc k)
  skip : (c : ℕ) (cs : List ℕ) (k : ℕ) → begins c cs ≡ false → Matches cs k → Matches (c ∷ cs) k

-- where the counter stands after a character, and whether a match ends with it
abbrev pub moved : State → ℕ → State
moved Plain c = cond (c == 46) AfterStop (cond (c == 44) AfterComma Plain)
moved AfterStop c = Plain
moved AfterComma c = Plain

abbrev pub ends : State → ℕ → Bool
ends Plain c = mark c
ends AfterStop c = not (letter_or_digit c)
ends AfterComma c = not (digit c)

abbrev pub bit : Bool → ℕ
bit true = 1
bit false = 0

-- how many matches end in a text, from a state on, and where the counter stands then
abbrev pub hits : State → List ℕ → ℕ
hits s [] = 0
hits s (c ∷ cs) = bit (ends s c) + hits (moved s c) cs

abbrev pub after : State → List ℕ → State
after s [] = s
after s (c ∷ cs) = after (moved s c) cs

-- the machine after a character
abbrev pub mark_step : Marks → ℕ → Marks
mark_step m c = record { state = moved m.state c; count = cond (ends m.state c) (min (m.count + 1) (2 ^ 64 - 1)) m.count }

-- what a machine that has counted none counts in a text of fewer than 2^64 characters; from plain text on, its matches
pub record Counts (m : Marks) : Type 0 where
  pub counts : m.count ≡ 0 → (cs : List ℕ) → length cs < 2 ^ 64 → (run mark_step m cs).count ≡ hits m.state cs
  pub stands : (cs : List ℕ) → (run mark_step m cs).state ≡ after m.state cs
  pub matched : (cs : List ℕ) → Matches cs (hits Plain cs)
  pub only : (cs : List ℕ) (k : ℕ) → Matches cs k → k ≡ hits Plain cs
