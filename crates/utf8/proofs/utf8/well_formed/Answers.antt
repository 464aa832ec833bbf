-- The library's test decides the same.
use Rattle.std.proofs.Common.{IsUtf8, Decides, rules}
use Rattle.utf8.proofs.Texts.{table-utf8, decides-utf8}
use Rattle.utf8.proofs.utf8.well_formed.Goals as goal

pub returns-then-bytes-lt-SHORT-clause-utf8 : goal.returns-then-bytes-lt-SHORT-clause-utf8
returns-then-bytes-lt-SHORT-clause-utf8 c = decides-utf8 c.args.bytes.now c.are_chars.result c.are_chars.ensures

pub returns-else-bytes-lt-SHORT-clause-table : goal.returns-else-bytes-lt-SHORT-clause-table
returns-else-bytes-lt-SHORT-clause-table c =
    let d : Decides c.is_ok.result (IsUtf8 c.args.bytes.now) = search rules in
    table-utf8 c.args.bytes.now c.is_ok.result d
