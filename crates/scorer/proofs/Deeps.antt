-- The characters of the deep text of a page.
use Rattle.std.proofs.Common.{◌≡◌, ℕ, Bool, true, false, cond, eqb, List, ◌++◌, length, sym, refl, ap, ◌∙◌, arith}
use Rattle.std.proofs.lemmas.Str.{IsUtf8-append}
use Rattle.utf8.specs.Table.{well_formed}
use Rattle.utf8.specs.Decode.{scalars_of}
use Rattle.utf8.proofs.Scalars.{scalars_of-front, scalars_of-encodes}
use Rattle.utf8.proofs.Texts.{decides-utf8}
use Rattle.page.specs.declared.kind.NodeKind.{NodeKind}
use Rattle.page.specs.declared.kind.NodeKind.TheVariants.{Document, Doctype, Text, Comment, Element}
use Rattle.page.specs.Forest.{Forest, none, node, or_else, find, kids_of}
use Rattle.page.specs.Kept.{WellFormed}
use Rattle.text.specs.declared.marks.State.TheVariants.{Plain}
use Rattle.text.specs.Marks.{hits}
use Rattle.text.proofs.Matching.{hits-most, matched, only}
use Rattle.dom.specs.declared.under.Under.{Under}
use Rattle.dom.specs.Deep.{text_of, deep, deep_chars}
use Rattle.dom.specs.Under.{under_of}
use Rattle.dom.specs.Small.{Bounded}
use Rattle.scorer.specs.Content.{score_by, score_of, Scored}

-- the characters of texts that follow one another, the first being well-formed
scalars-append : (xs ys : List ℕ) → well_formed xs ≡ true → scalars_of (xs ++ ys) ≡ scalars_of xs ++ scalars_of ys
scalars-append xs ys h =
    let u = (decides-utf8 xs true (sym h)).0 refl in
    let cs = u.0 in
    let e = u.1.1 in
    ap (λ l. scalars_of (l ++ ys)) (sym e) ∙ (scalars_of-front cs ys u.1.0 ∙ ap (λ l. l ++ scalars_of ys) (sym (scalars_of-encodes cs u.1.0) ∙ ap scalars_of e))

formed-append : (xs ys : List ℕ) → well_formed xs ≡ true → well_formed ys ≡ true → well_formed (xs ++ ys) ≡ true
formed-append xs ys h k = (decides-utf8 (xs ++ ys) (well_formed (xs ++ ys)) refl).1 (IsUtf8-append xs ys ((decides-utf8 xs true (sym h)).0 refl) ((decides-utf8 ys true (sym k)).0 refl))

own-formed : (k : NodeKind) (c : List ℕ) → well_formed c ≡ true → well_formed (text_of k c) ≡ true
own-formed Document c h = refl
own-formed Doctype c h = refl
own-formed Text c h = h
own-formed Comment c h = refl
own-formed Element c h = refl

or_else-formed : (f g : Forest) → WellFormed f → WellFormed g → WellFormed (or_else f g)
or_else-formed none g x y = y
or_else-formed (node i k c a kids rest) g x y = x

formed-find : (t : Forest) (n : ℕ) → WellFormed t → WellFormed (find t n)
formed-find none n w = w
formed-find (node i k c a kids rest) n w = go (eqb i n) (formed-find kids n w.2) (formed-find rest n w.3)
  where
    go : (b : Bool) → WellFormed (find kids n) → WellFormed (find rest n) → WellFormed (cond b (node i k c a kids rest) (or_else (find kids n) (find rest n)))
    go true x y = w
    go false x y = or_else-formed (find kids n) (find rest n) x y

pub formed-kids : (f : Forest) → WellFormed f → WellFormed (kids_of f)
formed-kids none w = w
formed-kids (node i k c a kids rest) w = w.2

text-formed : (f : Forest) → WellFormed f → well_formed (deep f) ≡ true
text-formed none w = refl
text-formed (node i k c a kids rest) w = formed-append (text_of k c) (deep kids ++ deep rest) (own-formed k c w.0) (formed-append (deep kids) (deep rest) (text-formed kids w.2) (text-formed rest w.3))

pub deep-formed : (f : Forest) → WellFormed f → deep_chars f ≡ scalars_of (deep f)
deep-formed none w = refl
deep-formed (node i k c a kids rest) w =
    (λ i. scalars_of (text_of k c) ++ (deep-formed kids w.2 i ++ deep-formed rest w.3 i))
    ∙ sym (scalars-append (text_of k c) (deep kids ++ deep rest) (own-formed k c w.0) ∙ ap (λ l. scalars_of (text_of k c) ++ l) (scalars-append (deep kids) (deep rest) (text-formed kids w.2)))

-- the characters of the deep text under a node
pub deep-chars : (t : Forest) (n : ℕ) → WellFormed t → deep_chars (kids_of (find t n)) ≡ scalars_of (deep (kids_of (find t n)))
deep-chars t n w = deep-formed (kids_of (find t n)) (formed-kids (find t n) (formed-find t n w))

-- the score of a page's figures
pub score-of : (f : Forest) (u : Under) → u ≡ under_of f → Bounded u → score_by u ≡ score_of (deep_chars f)
score-of f u e b =
    let m : u.marks.plain.count ≡ hits Plain (deep_chars f) = ap (λ v. v.marks.plain.count) e in
    let n : u.chars ≡ length (deep_chars f) = ap (λ v. v.chars) e in
    omega (arith, b.chars, b.marks)

pub scored : (cs : List ℕ) → Scored cs (score_of cs)
scored cs = record { marks = hits Plain cs; matched = matched cs; only = only cs; few = hits-most Plain cs; sum = refl }
