-- What records write is read again.
use Rattle.std.proofs.Common.{◌≡◌, ℕ, suc, ◌+◌, ◌*◌, ◌/◌, ◌%◌, ◌<◌, ◌≤◌, true, ◌&&◌, eqb, leb, List, [], ◌∷◌, ◌++◌, length, take, drop, sym, refl, ap, ◌∙◌, append-nil, arith, length-append}
use Rattle.std.proofs.lemmas.Bool.{eq-eqb, le-leb, and_from}
use Rattle.table.specs.declared.record.Section.{Section}
use Rattle.table.specs.declared.record.Section.TheVariants.{Nodes, Attributes, Bytes}
use Rattle.table.specs.declared.record.NodeRecord.{NodeRecord}
use Rattle.table.specs.declared.record.AttrRecord.{AttrRecord}
use Rattle.table.specs.declared.record.Check.TheVariants.{NothingFollows}
use Rattle.table.specs.Table.{Table}
use Rattle.table.specs.Checks.{least, most, granted}
use Rattle.table.proofs.Asked.{granted-join}
use Rattle.table.proofs.At.{At, at_left, at_right, at-get, at_part}
use Rattle.pagefile.specs.File.{u16_at, u32_at, count, count_at, end_at, node_in, attr_in, listed, table_of}
use Rattle.pagefile.specs.Opening.{answer, of_section, of_sections}
use Rattle.pagefile.specs.Format.{le16, le32, node_bytes, attr_bytes, spread, file_of}

-- records whose fields fit their bytes
abbrev pub NodesFit : List NodeRecord → Type 0
NodesFit [] = Unit {0}
NodesFit (x ∷ xs) = (x.attrs < 65536) × (x.first < 4294967296) × (x.start < 4294967296) × (x.len < 4294967296) × NodesFit xs

abbrev pub AttrsFit : List AttrRecord → Type 0
AttrsFit [] = Unit {0}
AttrsFit (a ∷ more) = (a.name < 65536) × (a.value < 65536) × (a.start < 4294967296) × AttrsFit more

length-nodes : (xs : List NodeRecord) → length (spread node_bytes xs) ≡ 16 * length xs
length-nodes [] = refl
length-nodes (x ∷ xs) = let r = length-nodes xs in omega arith

length-attrs : (xs : List AttrRecord) → length (spread attr_bytes xs) ≡ 8 * length xs
length-attrs [] = refl
length-attrs (x ∷ xs) = let r = length-attrs xs in omega arith

module _ (f : List ℕ) where
  at-u16 : (p n : ℕ) → n < 65536 → At f p (le16 n) → u16_at f p ≡ n
  unfolding u16_at
  at-u16 p n l h =
      let a = at-get f p (n % 256) (n / 256 ∷ []) 0 h in
      let b = at-get f (p + 1) (n / 256) [] 0 (at_right f p (p + 1) (n % 256 ∷ []) (n / 256 ∷ []) refl h) in
      omega arith

  at-u32 : (p n : ℕ) → n < 4294967296 → At f p (le32 n) → u32_at f p ≡ n
  unfolding u32_at
  at-u32 p n l h =
      let a = at-u16 p (n % 65536) (omega arith) (at_left f p (le16 (n % 65536)) (le16 (n / 65536)) h) in
      let b = at-u16 (p + 2) (n / 65536) (omega arith) (at_right f p (p + 2) (le16 (n % 65536)) (le16 (n / 65536)) refl h) in
      omega arith

  node-read : (i : ℕ) (x : NodeRecord) → x.attrs < 65536 → x.first < 4294967296 → x.start < 4294967296 → x.len < 4294967296 → At f (4 + 16 * i) (node_bytes x) → node_in f i ≡ x
  node-read i x lt la ls lc h =
      let p = 4 + 16 * i in
      let T = le16 x.attrs in
      let F = le32 x.first in
      let S = le32 x.start in
      let L = le32 x.len in
      let h1 = at_right f p (p + 1) (x.kind ∷ []) (x.depth ∷ (T ++ (F ++ (S ++ L)))) refl h in
      let h2 = at_right f (p + 1) (p + 2) (x.depth ∷ []) (T ++ (F ++ (S ++ L))) (omega arith) h1 in
      let h4 = at_right f (p + 2) (p + 4) T (F ++ (S ++ L)) (omega arith) h2 in
      let h8 = at_right f (p + 4) (p + 8) F (S ++ L) (omega arith) h4 in
      let h12 = at_right f (p + 8) (p + 12) S L (omega arith) h8 in
      let ek = at-get f p x.kind _ 0 h in
      let ed = at-get f (p + 1) x.depth _ 0 h1 in
      let et = at-u16 (p + 2) x.attrs lt (at_left f (p + 2) T _ h2) in
      let ea = at-u32 (p + 4) x.first la (at_left f (p + 4) F _ h4) in
      let es = at-u32 (p + 8) x.start ls (at_left f (p + 8) S _ h8) in
      let ec = at-u32 (p + 12) x.len lc h12 in
      λ j. record { kind = ek j; depth = ed j; attrs = et j; first = ea j; start = es j; len = ec j }

  attr-read : (j : ℕ) (a : AttrRecord) → a.name < 65536 → a.value < 65536 → a.start < 4294967296 → At f (count_at f Attributes + 4 + 8 * j) (attr_bytes a) → attr_in f j ≡ a
  attr-read j a lm lv ls h =
      let p = count_at f Attributes + 4 + 8 * j in
      let h2 = at_right f p (p + 2) (le16 a.name) (le16 a.value ++ le32 a.start) refl h in
      let h4 = at_right f (p + 2) (p + 4) (le16 a.value) (le32 a.start) (omega arith) h2 in
      let em = at-u16 p a.name lm (at_left f p (le16 a.name) _ h) in
      let ev = at-u16 (p + 2) a.value lv (at_left f (p + 2) (le16 a.value) _ h2) in
      let es = at-u32 (p + 4) a.start ls h4 in
      λ q. record { name = em q; value = ev q; start = es q }

  nodes-read : (xs : List NodeRecord) (i : ℕ) → NodesFit xs → At f (4 + 16 * i) (spread node_bytes xs) → listed (node_in f) i (length xs) ≡ xs
  nodes-read [] i fit h = refl
  nodes-read (x ∷ xs) i fit h =
      (λ q. node-read i x fit.0 fit.1 fit.2 fit.3 (at_left f (4 + 16 * i) (node_bytes x) (spread node_bytes xs) h) q
      ∷ nodes-read xs (suc i) fit.4 (at_right f (4 + 16 * i) (4 + 16 * suc i) (node_bytes x) (spread node_bytes xs) (omega arith) h) q)

  attrs-read : (xs : List AttrRecord) (j : ℕ) → AttrsFit xs → At f (count_at f Attributes + 4 + 8 * j) (spread attr_bytes xs) → listed (attr_in f) j (length xs) ≡ xs
  attrs-read [] j fit h = refl
  attrs-read (x ∷ xs) j fit h =
      let p = count_at f Attributes + 4 in
      (λ q. attr-read j x fit.0 fit.1 fit.2 (at_left f (p + 8 * j) (attr_bytes x) (spread attr_bytes xs) h) q
      ∷ attrs-read xs (suc j) fit.3 (at_right f (p + 8 * j) (p + 8 * suc j) (attr_bytes x) (spread attr_bytes xs) (omega arith) h) q)

  section-yes : (s : Section) → count_at f s + 4 ≤ length f → least s ≤ count f s → count f s ≤ most s → end_at f s ≤ length f → granted (answer f) (of_section s) ≡ true
  section-yes s a b c d =
      and_from (leb (count_at f s + 4) (length f)) _ (le-leb (count_at f s + 4) (length f) a)
      (and_from (leb (least s) (count f s) && leb (count f s) (most s)) _ (and_from (leb (least s) (count f s)) (leb (count f s) (most s)) (le-leb (least s) (count f s) b) (le-leb (count f s) (most s) c))
      (and_from (leb (end_at f s) (length f)) true (le-leb (end_at f s) (length f) d) refl))

-- the file of records within a file's limits has its sections, and has those records
pub reread : (t : Table) → 1 ≤ length t.nodes → length t.nodes ≤ 4096 → length t.attrs ≤ 8192 → length t.bytes ≤ 131072 → NodesFit t.nodes → AttrsFit t.attrs
    → (granted (answer (file_of t)) of_sections ≡ true) × (table_of (file_of t) ≡ t)
reread t some few fa fb fit_n fit-a =
    let f = file_of t in
    let n = length t.nodes in
    let A = length t.attrs in
    let L = length t.bytes in
    let P5 = t.bytes in
    let P4 = le32 L ++ P5 in
    let P3 = spread attr_bytes t.attrs ++ P4 in
    let P2 = le32 A ++ P3 in
    let P1 = spread node_bytes t.nodes ++ P2 in
    let h0 : At f 0 f = record { rest = []; is = sym (append-nil f) } in
    let cn : u32_at f 0 ≡ n = at-u32 f 0 n (omega arith) (at_left f 0 (le32 n) P1 h0) in
    let h4 : At f 4 P1 = at_right f 0 4 (le32 n) P1 refl h0 in
    let ln = length-nodes t.nodes in
    let la = length-attrs t.attrs in
    let h_t : At f (count_at f Attributes) P2 = at_right f 4 (count_at f Attributes) (spread node_bytes t.nodes) P2 (omega arith) h4 in
    let ca : count f Attributes ≡ A = at-u32 f (count_at f Attributes) A (omega arith) (at_left f (count_at f Attributes) (le32 A) P3 h_t) in
    let h_a : At f (count_at f Attributes + 4 + 8 * 0) P3 = at_right f (count_at f Attributes) (count_at f Attributes + 4 + 8 * 0) (le32 A) P3 (omega arith) h_t in
    let h_b : At f (count_at f Bytes) P4 = at_right f (count_at f Attributes + 4 + 8 * 0) (count_at f Bytes) (spread attr_bytes t.attrs) P4 (omega arith) h_a in
    let cb : count f Bytes ≡ L = at-u32 f (count_at f Bytes) L (omega arith) (at_left f (count_at f Bytes) (le32 L) P5 h_b) in
    let h_c : At f (count_at f Bytes + 4) P5 = at_right f (count_at f Bytes) (count_at f Bytes + 4) (le32 L) P5 refl h_b in
    let long : length f ≡ 12 + 16 * n + 8 * A + L = omega (arith, length-append (spread node_bytes t.nodes) P2, length-append (spread attr_bytes t.attrs) P4) in
    let sn : granted (answer f) (of_section Nodes) ≡ true = section-yes f Nodes (omega arith) (omega arith) (omega arith) (omega arith) in
    let sa : granted (answer f) (of_section Attributes) ≡ true = section-yes f Attributes (omega arith) (omega arith) (omega arith) (omega arith) in
    let sb : granted (answer f) (of_section Bytes) ≡ true = section-yes f Bytes (omega arith) (omega arith) (omega arith) (omega arith) in
    let end : end_at f Bytes ≡ length f = omega arith in
    let last : granted (answer f) (NothingFollows ∷ []) ≡ true = and_from (eqb (end_at f Bytes) (length f)) true (eq-eqb (end_at f Bytes) (length f) end) refl in
    let nodes = ap (listed (node_in f) 0) cn ∙ nodes-read f t.nodes 0 fit_n (at_left f 4 (spread node_bytes t.nodes) P2 h4) in
    let attrs = ap (listed (attr_in f) 0) ca ∙ attrs-read f t.attrs 0 fit-a (at_left f (count_at f Attributes + 4 + 8 * 0) (spread attr_bytes t.attrs) P4 h_a) in
    let bytes = ap (λ k. take k (drop (count_at f Bytes + 4) f)) cb ∙ at_part f (count_at f Bytes + 4) P5 h_c in (
      granted-join (answer f) (of_section Nodes) (of_section Attributes ++ (of_section Bytes ++ (NothingFollows ∷ []))) sn
          (granted-join (answer f) (of_section Attributes) (of_section Bytes ++ (NothingFollows ∷ [])) sa (granted-join (answer f) (of_section Bytes) (NothingFollows ∷ []) sb last)),
      λ q. record { nodes = nodes q; attrs = attrs q; bytes = bytes q },
    )
