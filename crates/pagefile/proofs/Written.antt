-- A file whose sections are all there is what its records write.
use Rattle.std.proofs.Common.{◌≡◌, ℕ, zero, suc, ◌+◌, ◌*◌, ◌/◌, ◌%◌, ◌<◌, ◌≤◌, List, [], ◌∷◌, ◌++◌, length, get_or, take, drop, sym, refl, ap, ◌∙◌, arith, take_all, drop-cons, take-add}
use Rattle.std.proofs.lemmas.List.{drop-drop}
use Rattle.table.specs.declared.record.Section.TheVariants.{Nodes, Attributes, Bytes}
use Rattle.pagefile.specs.File.{u16_at, u32_at, count, count_at, node_in, attr_in, listed, table_of}
use Rattle.pagefile.specs.Format.{le16, le32, node_bytes, attr_bytes, spread, file_of}
use Rattle.pagefile.proofs.Listed.{length-listed}
use Rattle.pagefile.proofs.Sized.{Sized, length-bytes}

-- each number of the list is a byte
abbrev pub Bytewise : List ℕ → Type 0
Bytewise f = (i : ℕ) → get_or f i 0 < 256

abbrev slice : List ℕ → ℕ → ℕ → List ℕ
slice f p n = take n (drop p f)

module _ (f : List ℕ) (byte : Bytewise f) where
  join : (p m q n t : ℕ) → p + m ≡ q → m + n ≡ t → slice f p m ++ slice f q n ≡ slice f p t
  join p m q n t e g =
      ap (λ k. slice f p m ++ slice f k n) (sym e) ∙ (ap (λ l. slice f p m ++ take n l) (sym (drop-drop m p f)) ∙ (sym (take-add m n (drop p f)) ∙ ap (slice f p) g))

  one_byte : (p : ℕ) → p < length f → get_or f p 0 ∷ [] ≡ slice f p 1
  one_byte p l = sym (ap (take 1) (drop-cons f p 0 l))

  pub small : (p : ℕ) → u16_at f p < 65536
  unfolding u16_at
  small p = let a = byte p in let b = byte (p + 1) in omega arith

  two_bytes : (p : ℕ) → p + 2 ≤ length f → le16 (u16_at f p) ≡ slice f p 2
  unfolding u16_at
  two_bytes p l =
      let a = byte p in
      let b = byte (p + 1) in
      let low : (get_or f p 0 + 256 * get_or f (p + 1) 0) % 256 ≡ get_or f p 0 = omega arith in
      let high : (get_or f p 0 + 256 * get_or f (p + 1) 0) / 256 ≡ get_or f (p + 1) 0 = omega arith in
      (λ j. low j ∷ high j ∷ []) ∙ ((λ j. one_byte p (omega arith) j ++ one_byte (p + 1) (omega arith) j) ∙ join p 1 (p + 1) 1 2 refl refl)

  four_bytes : (p : ℕ) → p + 4 ≤ length f → le32 (u32_at f p) ≡ slice f p 4
  unfolding u32_at
  four_bytes p l =
      let a = small p in
      let b = small (p + 2) in
      let low : (u16_at f p + 65536 * u16_at f (p + 2)) % 65536 ≡ u16_at f p = omega arith in
      let high : (u16_at f p + 65536 * u16_at f (p + 2)) / 65536 ≡ u16_at f (p + 2) = omega arith in
      (λ j. le16 (low j) ++ le16 (high j)) ∙ ((λ j. two_bytes p (omega arith) j ++ two_bytes (p + 2) (omega arith) j) ∙ join p 2 (p + 2) 2 4 refl refl)

  node-bytes : (i : ℕ) → 4 + 16 * i + 16 ≤ length f → node_bytes (node_in f i) ≡ slice f (4 + 16 * i) 16
  node-bytes i l =
      let p = 4 + 16 * i in
      let x = node_in f i in
      let d : le32 x.start ++ le32 x.len ≡ slice f (p + 8) 8 = (λ j. four_bytes (p + 8) (omega arith) j ++ four_bytes (p + 12) (omega arith) j) ∙ join (p + 8) 4 (p + 12) 4 8 (omega arith) refl in
      let c : le32 x.first ++ (le32 x.start ++ le32 x.len) ≡ slice f (p + 4) 12 = (λ j. four_bytes (p + 4) (omega arith) j ++ d j) ∙ join (p + 4) 4 (p + 8) 8 12 (omega arith) refl in
      let b : le16 x.attrs ++ (le32 x.first ++ (le32 x.start ++ le32 x.len)) ≡ slice f (p + 2) 14 = (λ j. two_bytes (p + 2) (omega arith) j ++ c j) ∙ join (p + 2) 2 (p + 4) 12 14 (omega arith) refl in
      let a : x.depth ∷ (le16 x.attrs ++ (le32 x.first ++ (le32 x.start ++ le32 x.len))) ≡ slice f (p + 1) 15 = (λ j. one_byte (p + 1) (omega arith) j ++ b j) ∙ join (p + 1) 1 (p + 2) 14 15 (omega arith) refl in
      (λ j. one_byte p (omega arith) j ++ a j) ∙ join p 1 (p + 1) 15 16 refl refl

  attr-bytes : (j : ℕ) → count_at f Attributes + 4 + 8 * j + 8 ≤ length f → attr_bytes (attr_in f j) ≡ slice f (count_at f Attributes + 4 + 8 * j) 8
  attr-bytes j l =
      let p = count_at f Attributes + 4 + 8 * j in
      let a : le16 (attr_in f j).value ++ le32 (attr_in f j).start ≡ slice f (p + 2) 6 = (λ k. two_bytes (p + 2) (omega arith) k ++ four_bytes (p + 4) (omega arith) k) ∙ join (p + 2) 2 (p + 4) 4 6 (omega arith) refl in
      (λ k. two_bytes p (omega arith) k ++ a k) ∙ join p 2 (p + 2) 6 8 refl refl

  -- k records from i on
  nodes-written : (k i : ℕ) → 4 + 16 * (i + k) ≤ length f → spread node_bytes (listed (node_in f) i k) ≡ slice f (4 + 16 * i) (16 * k)
  nodes-written zero i l = refl
  nodes-written (suc k) i l = (λ q. node-bytes i (omega arith) q ++ nodes-written k (suc i) (omega arith) q) ∙ join (4 + 16 * i) 16 (4 + 16 * suc i) (16 * k) (16 * suc k) (omega arith) (omega arith)

  attrs-written : (k j : ℕ) → count_at f Attributes + 4 + 8 * (j + k) ≤ length f → spread attr_bytes (listed (attr_in f) j k) ≡ slice f (count_at f Attributes + 4 + 8 * j) (8 * k)
  attrs-written zero j l = refl
  attrs-written (suc k) j l =
      let p = count_at f Attributes + 4 in
      (λ q. attr-bytes j (omega arith) q ++ attrs-written k (suc j) (omega arith) q) ∙ join (p + 8 * j) 8 (p + 8 * suc j) (8 * k) (8 * suc k) (omega arith) (omega arith)

  -- the file again
  pub written : Sized f → file_of (table_of f) ≡ f
  written z =
      let w = z.whole in
      let n = count f Nodes in
      let a = count f Attributes in
      let b = count f Bytes in
      let A = count_at f Attributes in
      let B = count_at f Bytes in
      let start : A + 4 ≡ A + 4 + 8 * 0 = omega arith in
      let s6 : le32 (length (table_of f).bytes) ++ (table_of f).bytes ≡ slice f B (4 + b) = (λ q. (ap le32 (length-bytes f z) ∙ four_bytes B (omega arith)) q ++ (table_of f).bytes) ∙ join B 4 (B + 4) b (4 + b) refl refl in
      let s4 : spread attr_bytes (table_of f).attrs ++ (le32 (length (table_of f).bytes) ++ (table_of f).bytes) ≡ slice f (A + 4) (8 * a + (4 + b)) =
      (λ q. (attrs-written a 0 (omega arith) ∙ ap (λ p. slice f p (8 * a)) (sym start)) q ++ s6 q) ∙ join (A + 4) (8 * a) B (4 + b) (8 * a + (4 + b)) refl refl in
      let s3 : le32 (length (table_of f).attrs) ++ (spread attr_bytes (table_of f).attrs ++ (le32 (length (table_of f).bytes) ++ (table_of f).bytes)) ≡ slice f A (4 + (8 * a + (4 + b))) =
      (λ q. (ap le32 (length-listed (attr_in f) a 0) ∙ four_bytes A (omega arith)) q ++ s4 q) ∙ join A 4 (A + 4) (8 * a + (4 + b)) (4 + (8 * a + (4 + b))) refl refl in
      let s2 : spread node_bytes (table_of f).nodes ++ (le32 (length (table_of f).attrs) ++ (spread attr_bytes (table_of f).attrs ++ (le32 (length (table_of f).bytes) ++ (table_of f).bytes))) ≡ slice f 4 (16 * n + (4 + (8 * a + (4 + b)))) =
      (λ q. nodes-written n 0 (omega arith) q ++ s3 q) ∙ join 4 (16 * n) A (4 + (8 * a + (4 + b))) (16 * n + (4 + (8 * a + (4 + b)))) (omega arith) refl in
      (λ q. (ap le32 (length-listed (node_in f) n 0) ∙ four_bytes 0 (omega arith)) q ++ s2 q)
      ∙ (join 0 4 4 (16 * n + (4 + (8 * a + (4 + b)))) (4 + (16 * n + (4 + (8 * a + (4 + b))))) refl refl
      ∙ take_all (4 + (16 * n + (4 + (8 * a + (4 + b))))) f (omega arith))
