use Rattle.std.proofs.Common.{◌≡◌, ℕ, true, List, Some, None, sym, ap, ◌∙◌, subst, arith}
use Rattle.std.proofs.lemmas.Result.{err_from_is_err_and}
use Rattle.table.specs.declared.record.Check.{Check}
use Rattle.table.specs.Table.{tree_of}
use Rattle.table.specs.Checks.{granted, accepts}
use Rattle.table.proofs.Asked.{all-granted}
use Rattle.table.proofs.Deepest.{height-deepest}
use Rattle.pagefile.specs.File.{table_of}
use Rattle.pagefile.specs.Opening.{answer, checks, verdict}
use Rattle.pagefile.specs.Opened.{FileOf, NoFile}
use Rattle.pagefile.proofs.Accepting.{accepts-table, file-accepted, length-nodes}
use Rattle.pagefile.proofs.Written.{Bytewise}
use Rattle.pagefile.proofs.Exact.{accepted-file, encoded-tree}
use Rattle.pagefile.proofs.opened.OpenedPage.open.Goals as goal

-- a file that is refused is no tree's
none-fits : (f : List ℕ) (k : Check) → Some k ≡ verdict f → NoFile f
none-fits f k h t fit e =
    let v : verdict f ≡ None = ap verdict e ∙ (encoded-tree t fit).0 in
    let z : ◌≡◌ {A = ℕ} 0 1 = cc in
    omega arith

-- a file that is accepted is that of its tree alone
file-of : (f : List ℕ) → Bytewise f → verdict f ≡ None → FileOf f (tree_of (table_of f))
file-of f b h =
    let r = accepted-file f b h in
    record { fits = r.0; written = r.1; only = λ s fit e. sym (ap (λ l. tree_of (table_of l)) e ∙ (encoded-tree s fit).1) }

pub returns-in_err-counts-clause-exactly : goal.returns-in_err-counts-clause-exactly
returns-in_err-counts-clause-exactly c =
    let p = err_from_is_err_and c.from_residual.result c.from_residual.ensures.1 in
    rw p.1 (none-fits c.args.file.now c.in_err-counts.field-0.0 c.in_err-counts.ensures.refused)

pub link-requires : goal.link-requires
link-requires c =
    let f = c.args.file.now in
    let yes = all-granted (answer f) (checks f) (sym c.in_ok-counts.ensures.refused) in
    subst (λ (g : List ℕ). accepts (table_of g) ≡ true) (sym c.over-sections.ensures) (accepts-table f yes)

pub invariant_of-self : goal.invariant_of-self
invariant_of-self c =
    let s = c.over-sections.result in
    let f = s.file.now in
    let same = sym c.over-sections.ensures in
    let yes = subst (λ (g : List ℕ). granted (answer g) (checks g) ≡ true) same (all-granted (answer c.args.file.now) (checks c.args.file.now) (sym c.in_ok-counts.ensures.refused)) in
    let l = c.link.ensures in
    record {
      accepted = accepts-table f yes;
      many = ap (λ k. k.nodes) s.counted ∙ sym (length-nodes f);
      parents = l.parents;
      ends = l.ends;
      tall = c.stored_height-height.ensures ∙ height-deepest (table_of f) (file-accepted f yes);
    }

pub returns-clause-exactly : goal.returns-clause-exactly
returns-clause-exactly c =
    let f = c.args.file.now in
    let same : tree_of (table_of c.over-sections.result.file.now) ≡ tree_of (table_of f) = ap (λ l. tree_of (table_of l)) c.over-sections.ensures in
    subst (FileOf f) (sym same) (file-of f (λ i. (c.type_inv.file i).fits) (sym c.in_ok-counts.ensures.refused))
