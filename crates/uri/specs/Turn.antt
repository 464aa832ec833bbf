-- What each rule of section 5.2.4 does, by the bytes that it drops.
use Rattle.std.specs.Prelude.{ℕ, cond, ◌||◌, List, [], ◌++◌, drop, is_some, codes}
use Rattle.std.specs.Str.{bytes_eq}
use Rattle.uri.specs.Bytes.{after}
use Rattle.uri.specs.Dots.{without_last, first_segment, behind_segment}

-- the rules A to E, by what stands at the front of the input
pub data Rule : Type 0 where
  dot_dot_prefix : Rule
  dot_prefix : Rule
  dot : Rule
  last_dot : Rule
  parent : Rule
  last_parent : Rule
  only_dots : Rule
  segment : Rule

-- the first rule that applies to the input
abbrev pub rule_of : List ℕ → Rule
rule_of input =
    cond (is_some (after (codes "../") input)) dot_dot_prefix
    (cond (is_some (after (codes "./") input)) dot_prefix
    (cond (is_some (after (codes "/./") input)) dot
    (cond (bytes_eq input (codes "/.")) last_dot
    (cond (is_some (after (codes "/../") input)) parent
    (cond (bytes_eq input (codes "/..")) last_parent
    (cond (bytes_eq input (codes ".") || bytes_eq input (codes "..")) only_dots
    segment))))))

-- what it leaves in the input and the output
abbrev pub effect : Rule → List ℕ → List ℕ → List ℕ × List ℕ
effect dot_dot_prefix input output = (drop 3 input, output)
effect dot_prefix input output = (drop 2 input, output)
effect dot input output = (drop 2 input, output)
effect last_dot input output = (codes "/", output)
effect parent input output = (drop 3 input, without_last output)
effect last_parent input output = (codes "/", without_last output)
effect only_dots input output = ([], output)
effect segment input output = (behind_segment input, output ++ first_segment input)

-- the least length of an input that a rule applies to
abbrev pub least : Rule → ℕ
least dot_dot_prefix = 3
least dot_prefix = 2
least dot = 3
least last_dot = 2
least parent = 4
least last_parent = 3
least only_dots = 1
least segment = 0
