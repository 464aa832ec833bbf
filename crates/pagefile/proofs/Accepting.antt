-- A file's checks of nodes are those of its records.
use Rattle.std.proofs.Common.{◌≡◌, ℕ, zero, suc, true, cond, ◌&&◌, List, length, Some, None, sym, refl, ap, ◌∙◌, arith}
use Rattle.std.proofs.lemmas.Bool.{and_from}
use Rattle.table.specs.declared.record.Section.TheVariants.{Nodes, Attributes, Bytes}
use Rattle.table.specs.declared.record.Check.TheVariants.{Kind, Depth, Layout, WellFormed}
use Rattle.table.specs.Checks as table
use Rattle.table.specs.Checks.{kind_ok, depth_ok, layout_ok, formed_ok, in_range, first_no, granted, of_nodes, accepts}
use Rattle.table.proofs.Asked.{granted-parts, goes_on}
use Rattle.table.proofs.Accepted.{Accepted, accepted}
use Rattle.table.proofs.Reread.{in-range}
use Rattle.pagefile.specs.File.{count, node_in, attr_in, table_of}
use Rattle.pagefile.specs.Opening.{answer, of_sections, checks, verdict}
use Rattle.pagefile.proofs.Listed.{length-listed}
use Rattle.pagefile.proofs.Sized.{Sized, sized, length-bytes}

module _ (f : List ℕ) where
  pub same-no : (k i : ℕ) → first_no (answer f) (of_nodes i k) ≡ first_no (table.answer (table_of f)) (of_nodes i k)
  same-no zero i = refl
  same-no (suc k) i = λ q. cond (kind_ok (table_of f) i) (cond (depth_ok (table_of f) i) (cond (layout_ok (table_of f) i) (cond (formed_ok (table_of f) i) (same-no k (suc i) q) (Some (WellFormed i))) (Some (Layout i))) (Some (Depth i))) (Some (Kind i))

  pub same-granted : (k i : ℕ) → granted (answer f) (of_nodes i k) ≡ granted (table.answer (table_of f)) (of_nodes i k)
  same-granted zero i = refl
  same-granted (suc k) i = λ q. kind_ok (table_of f) i && (depth_ok (table_of f) i && (layout_ok (table_of f) i && (formed_ok (table_of f) i && same-granted k (suc i) q)))

  pub length-nodes : length (table_of f).nodes ≡ count f Nodes
  length-nodes = length-listed (node_in f) (count f Nodes) 0

  -- the verdict on a file whose sections are granted is that on its nodes
  pub nodes-verdict : (s : List ℕ) → s ≡ f → first_no (answer f) of_sections ≡ None → verdict f ≡ first_no (table.answer (table_of s)) (of_nodes 0 (length (table_of s).nodes))
  nodes-verdict s e h =
      goes_on (answer f) of_sections (of_nodes 0 (count f Nodes)) h
      ∙ (same-no (count f Nodes) 0 ∙ (ap (λ k. first_no (table.answer (table_of f)) (of_nodes 0 k)) (sym length-nodes) ∙ ap (λ l. first_no (table.answer (table_of l)) (of_nodes 0 (length (table_of l).nodes))) (sym e)))

  pub length-attrs : length (table_of f).attrs ≡ count f Attributes
  length-attrs = length-listed (attr_in f) (count f Attributes) 0

  -- the records of a file that is accepted are accepted
  pub accepts-table : granted (answer f) (checks f) ≡ true → accepts (table_of f) ≡ true
  accepts-table h =
      let p = granted-parts (answer f) of_sections (of_nodes 0 (count f Nodes)) h in
      let z = sized f p.0 in
      let t = table_of f in
      let n = length-nodes in
      let a = length-attrs in
      let b = length-bytes f z in
      and_from (in_range Nodes (length t.nodes)) _ (in-range Nodes (length t.nodes) (omega (arith, z.some_nodes)) (omega (arith, z.few_nodes)))
      (and_from (in_range Attributes (length t.attrs)) _ (in-range Attributes (length t.attrs) (omega arith) (omega (arith, z.few_attrs)))
      (and_from (in_range Bytes (length t.bytes)) _ (in-range Bytes (length t.bytes) (omega arith) (omega (arith, z.few_bytes)))
      (ap (λ k. granted (table.answer t) (of_nodes 0 k)) n ∙ (sym (same-granted (count f Nodes) 0) ∙ p.1))))

  -- what a file that is accepted says
  pub file-sized : granted (answer f) (checks f) ≡ true → Sized f
  file-sized h = sized f (granted-parts (answer f) of_sections (of_nodes 0 (count f Nodes)) h).0

  pub file-accepted : granted (answer f) (checks f) ≡ true → Accepted (table_of f)
  file-accepted h = accepted (table_of f) (accepts-table h)
