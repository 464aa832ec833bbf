-- What the iterator gives is the slice.
use Rattle.std.proofs.Common.{◌++◌, vec_items, ap, ◌∙◌}
use Rattle.std.proofs.lemmas.Iterator.{YieldsList-from_slice}
use Rattle.std.proofs.lemmas.Iterator.Consumers.{YieldsList-from_copied}
use Rattle.std.proofs.lemmas.Result.{on_ok_weaker}
use Rattle.render.specs.Render.{quoted}
use Rattle.render.proofs.Mapped.{all-yielded}
use Rattle.render.proofs.escape.push_quoted.Goals as goal

pub returns : goal.returns
returns c =
    let bs = c.args.bytes.now in
    on_ok_weaker c.push_quoted_from.result (λ w. w.2 ∙ ap (λ xs. vec_items c.args.out.now ++ quoted xs) (all-yielded w.0 bs w.1 (YieldsList-from_copied (YieldsList-from_slice bs cc)))) c.push_quoted_from.ensures
