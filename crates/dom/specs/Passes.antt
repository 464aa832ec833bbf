-- The punctuation of a text, from each state of the counter.
use Rattle.std.specs.Prelude.{ℕ, ◌+◌, List}
use Rattle.text.specs.declared.marks.State.{State}
use Rattle.text.specs.declared.marks.State.TheVariants.{Plain, AfterStop, AfterComma}
use Rattle.text.specs.declared.marks.Marks.{Marks}
use Rattle.text.specs.Marks.{hits, after, mark_step}
use Rattle.dom.specs.declared.pass.Passes.{Passes}

-- a text passed from a state: where the counter then stands, and the matches on the way
abbrev pub pass_of : State → List ℕ → Marks
pass_of s cs = record { state = after s cs; count = hits s cs }

abbrev pub passes_of : List ℕ → Passes
passes_of cs = record { plain = pass_of Plain cs; stop = pass_of AfterStop cs; comma = pass_of AfterComma cs }

abbrev pub pick : Passes → State → Marks
pick p Plain = p.plain
pick p AfterStop = p.stop
pick p AfterComma = p.comma

-- one text and then another, from a state and from each
abbrev pub joined : Passes → Passes → State → Marks
joined p q s = record { state = (pick q (pick p s).state).state; count = (pick p s).count + (pick q (pick p s).state).count }

abbrev pub both : Passes → Passes → Passes
both p q = record { plain = joined p q Plain; stop = joined p q AfterStop; comma = joined p q AfterComma }

-- each of them after a character
abbrev pub passes_step : Passes → ℕ → Passes
passes_step p c = record { plain = mark_step p.plain c; stop = mark_step p.stop c; comma = mark_step p.comma c }
