-- What is read is the front of what the reader has.
use Rattle.std.proofs.Common.{◌≡◌, ℕ, List, [], ◌++◌, take, Some, None, Option, IfSome, ap, ◌∙◌, subst}
use Rattle.std.specs.Option.{option_map}
use Rattle.render.proofs.input.read_file.Goals as goal

-- ys are the first bytes of what a reader has
of-front : (o : Option (List ℕ)) (m : ℕ) (E ys : List ℕ) → E ≡ [] → IfSome (option_map (take m) o) (λ xs. ys ≡ E ++ xs) → IfSome o (λ xs. ys ≡ take m xs)
of-front None m E ys e h = tt
of-front (Some xs) m E ys e h = h ∙ ap (λ l. l ++ take m xs) e

pub returns : goal.returns
returns g c =
    let limit = c.take.ensures.limit in
    let inner = c.take.ensures.inner in
    let read = subst (λ o. IfSome o (λ xs. c.read_to_end.new.buf.items ≡ c.new-file.result.items ++ xs)) (λ q. option_map (take (limit q)) (g.R.Read.remaining (inner q))) c.in_ok-read_to_end.ensures.bytes in
    of-front (g.R.Read.remaining c.args.input) 262157 c.new-file.result.items c.read_to_end.new.buf.items c.new-file.ensures.items read
