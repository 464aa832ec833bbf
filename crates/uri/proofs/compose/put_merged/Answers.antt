use Rattle.std.proofs.Common.{◌≡◌, ◌++◌, length, ap, arith, rules}
use Rattle.std.proofs.lemmas.List.{length-append}
use Rattle.uri.specs.Dots.{remove_dots}
use Rattle.uri.proofs.Shorter.{removed-short}
use Rattle.uri.proofs.compose.put_merged.Goals as goal

pub returns-clause-short : goal.returns-clause-short
returns-clause-short o c =
    let merged : c.as_slice.result.now ≡ c.args.front.now ++ c.args.path.now = search rules in
    omega (arith, ap length merged, removed-short c.as_slice.result.now, ap length c.put_without_dots.ensures, length-append c.args.out.now.items (remove_dots c.as_slice.result.now))
