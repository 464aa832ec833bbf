-- Each part of the machine has its figure.
use Rattle.std.proofs.Common.{◌≡◌, ◌^◌, ◌<◌, leb, length, ap, ◌∙◌, arith, rules}
use Rattle.std.specs.Char.{len_utf8}
use Rattle.utf8.specs.Decode.{scalars_of}
use Rattle.page.specs.declared.kind.Part.TheVariants.{Content}
use Rattle.text.specs.Held.{held, run}
use Rattle.text.specs.Trim.{total}
use Rattle.text.specs.Trimming.{sum_of}
use Rattle.text.specs.Marks.{bit}
use Rattle.text.proofs.Trims.{widths-held}
use Rattle.dom.specs.declared.scan.Scan.{Scan}
use Rattle.dom.specs.Passes.{passes_step}
use Rattle.dom.specs.Scan.{scan_step}
use Rattle.dom.proofs.Joins.{alike}
use Rattle.dom.proofs.Bounds.{chars-held}
use Rattle.dom.proofs.Scans.{run-trim, run-marks, run-chars, all-passed}
use Rattle.dom.proofs.scan.leaf_of.Goals as goal

pub returns : goal.returns
returns g c =
    let xs = held (g.P.Page.tree c.args.p.now) c.args.n Content in
    let cs = scalars_of xs in
    let old : Scan = record { trim = c.new.result; chars = 0; marks = c.none.result } in
    let fed : c.feed.new.m ≡ run scan_step old cs = c.feed.ensures.fed ∙ ap (λ l. run scan_step old (scalars_of l)) c.new-2.ensures in
    let fits : length xs < 2 ^ 64 = omega (arith, c.feed.ensures.fits, ap length c.new-2.ensures) in
    let few : total len_utf8 cs < 2 ^ 64 = omega (arith, widths-held xs) in
    let short : length cs < 2 ^ 64 = omega (arith, chars-held xs) in
    let trimmed = c.new.ensures cs few in
    let none = c.none-2.ensures in
    let is : c.from.result ≡ bit (leb 20 c.size.result) = search rules in
    alike (record {
      text = c.length.ensures ∙ (ap (λ m. sum_of m.trim.chars) fed ∙ (ap (λ m. sum_of m.chars) (run-trim cs old) ∙ trimmed.0));
      links = ap (λ u. u.links) none;
      chars = ap (λ m. m.chars) fed ∙ (run-chars cs old (omega arith) ∙ (omega arith));
      marks = ap (λ m. m.marks) fed ∙ (run-marks cs old ∙ (ap (λ p. run passes_step p cs) c.none.ensures ∙ all-passed cs short));
      block = ap (λ u. u.block) none;
      paragraphs = ap (λ u. u.paragraphs) none;
      images = ap (λ u. u.images) none;
      items = ap (λ u. u.items) none;
      inputs = ap (λ u. u.inputs) none;
      embeds = ap (λ u. u.embeds) none;
      long = is ∙ ap (λ n. bit (leb 20 n)) (c.size.ensures ∙ (ap (λ m. sum_of m.trim.bytes) fed ∙ (ap (λ m. sum_of m.bytes) (run-trim cs old) ∙ trimmed.1)));
    })
