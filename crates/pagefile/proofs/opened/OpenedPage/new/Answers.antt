use Rattle.std.proofs.Common.{◌≡◌, ℕ, true, List, ◌∷◌, length, replicate, None, sym, refl, ap, ◌∙◌, subst, arith}
use Rattle.std.proofs.lemmas.List.{get_or-replicate}
use Rattle.std.proofs.lemmas.Option.{none-some}
use Rattle.page.specs.Forest.{height_of}
use Rattle.table.specs.declared.record.Section.TheVariants.{Nodes}
use Rattle.table.specs.Table.{Table, tree_of}
use Rattle.table.specs.Links.{EndOf}
use Rattle.table.specs.Checks.{granted, accepts}
use Rattle.pagefile.specs.File.{u16_at, u32_at, count, counts_of, table_of}
use Rattle.pagefile.specs.Opening.{answer, of_sections}
use Rattle.pagefile.specs.Links.{no_link, end_in, Ends}
use Rattle.pagefile.specs.Opened.{document_alone}
use Rattle.pagefile.proofs.opened.OpenedPage.new.Goals as goal

-- the file of the document alone
abbrev document : List ℕ
document = 1 ∷ replicate 27 0

accepted : accepts (table_of document) ≡ true
unfolding u16_at u32_at
accepted = refl

laid : granted (answer document) of_sections ≡ true
unfolding u16_at u32_at
laid = refl

counted : record { nodes = 1; attrs = 0; bytes = 0 } ≡ counts_of document
unfolding u16_at u32_at
counted = refl

one : count document Nodes ≡ 1
unfolding u16_at u32_at
one = refl

single : length (table_of document).nodes ≡ 1
unfolding u16_at u32_at
single = refl

alone : tree_of (table_of document) ≡ document_alone
unfolding u16_at u32_at
alone = refl

-- one node has no end
no-ends : (t : Table) (n : ℕ) → n ≡ 1 → Ends t n (replicate 4096 no_link)
no-ends t n e k l =
    let z : end_in (replicate 4096 no_link) k ≡ None = ap (λ x. x.end) (get_or-replicate 4096 k no_link no_link (omega arith)) in
    subst (EndOf t n k) (sym z) ((λ y j a b. absurd (omega arith)), (λ d y. absurd (none-some d y)))

pub over-requires : goal.over-requires
over-requires c = (counted, laid)

pub invariant_of-result : goal.invariant_of-result
invariant_of-result c =
    let s = c.over.result in
    let e : s.file.now ≡ document = c.over.ensures in
    let n : s.counts.nodes ≡ 1 = ap (λ k. k.nodes) s.counted ∙ (ap (λ f. count f Nodes) e ∙ one) in
    let t = table_of s.file.now in
    record {
      accepted = subst (λ (f : List ℕ). accepts (table_of f) ≡ true) (sym e) accepted;
      many = n ∙ sym (ap (λ f. length (table_of f).nodes) e ∙ single);
      parents = λ k a b. absurd (omega arith);
      ends = no-ends t s.counts.nodes n;
      tall = sym (ap (λ f. height_of (tree_of (table_of f))) e ∙ ap height_of alone);
    }

pub returns : goal.returns
returns c = ap (λ f. tree_of (table_of f)) c.over.ensures ∙ alone
