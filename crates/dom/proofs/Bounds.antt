-- How large the figures of a page can be.
use Rattle.std.proofs.Common.{◌≡◌, ℕ, suc, ◌+◌, ◌*◌, ◌≤◌, max, Bool, true, false, cond, leb, List, [], ◌∷◌, ◌++◌, length, refl, ◌∙◌, subst, mul-le-mul_right, suc-mul, mul-le-mul_left, one-mul, mul-add, arith}
use Rattle.std.specs.Char.{len_utf8}
use Rattle.std.proofs.lemmas.List.{length-append}
use Rattle.std.proofs.lemmas.Str.{len_utf8_bounds}
use Rattle.utf8.specs.Decode.{scalars_of}
use Rattle.page.specs.declared.kind.NodeKind.{NodeKind}
use Rattle.page.specs.declared.kind.NodeKind.TheVariants.{Document, Doctype, Text, Comment, Element}
use Rattle.page.specs.Kinds.{if_text}
use Rattle.page.specs.Forest.{Forest, none, node, find, kids_of, rest_of, size, levels, texts}
use Rattle.page.specs.Kept.{Kept, KeptNode}
use Rattle.page.proofs.Nodes.{kept_node}
use Rattle.text.specs.declared.marks.State.TheVariants.{Plain, AfterStop, AfterComma}
use Rattle.text.specs.Trim.{total, weight, trimmed_length, trimmed_bytes}
use Rattle.text.specs.Marks.{bit}
use Rattle.text.proofs.Trims.{widths-held, weight-width, total-le, trim-le}
use Rattle.text.proofs.Matching.{hits-most}
use Rattle.names.specs.declared.tag.Tag.{Tag}
use Rattle.names.specs.declared.tag.Tag.TheVariants.{Anchor, P, Img, Li, Input, Embed}
use Rattle.names.specs.Tags.{classed}
use Rattle.names.specs.Is.{is}
use Rattle.dom.specs.declared.under.Under.{Under}
use Rattle.dom.specs.Deep.{text_of, deep_chars, text_length, link_length, count_tag, long_texts}
use Rattle.dom.specs.Under.{under_of, plus, element_of, node_of}
use Rattle.dom.specs.Small.{Small, Bounded}
use Rattle.dom.proofs.Joins.{parts, plus_none}

-- characters, trimmed or not, are no more than bytes
length-total : (cs : List ℕ) → length cs ≡ total (λ _. 1) cs
length-total [] = refl
length-total (c ∷ cs) = omega (arith, length-total cs)

pub chars-held : (bs : List ℕ) → length (scalars_of bs) ≤ length bs
chars-held bs = omega (arith, length-total (scalars_of bs), total-le (λ _. 1) len_utf8 (λ c. (len_utf8_bounds c).0) (scalars_of bs), widths-held bs)

pub trimmed-held : (bs : List ℕ) → trimmed_length (scalars_of bs) ≤ length bs
trimmed-held bs = omega (arith, trim-le weight (scalars_of bs), total-le weight len_utf8 weight-width (scalars_of bs), widths-held bs)

if-le : (k : NodeKind) (x y : ℕ) → x ≤ y → if_text k x ≤ if_text k y
if-le Document x y h = omega arith
if-le Doctype x y h = omega arith
if-le Text x y h = h
if-le Comment x y h = omega arith
if-le Element x y h = omega arith

own-chars : (k : NodeKind) (c : List ℕ) → length (scalars_of (text_of k c)) ≤ if_text k (length c)
own-chars Document c = omega arith
own-chars Doctype c = omega arith
own-chars Text c = chars-held c
own-chars Comment c = omega arith
own-chars Element c = omega arith

pub text-most : (f : Forest) → text_length f ≤ texts f
text-most none = omega arith
text-most (node m k c a kids rest) = omega (arith, if-le k (trimmed_length (scalars_of c)) (length c) (trimmed-held c), text-most kids, text-most rest)

pub chars-most : (f : Forest) → length (deep_chars f) ≤ texts f
chars-most none = omega arith
chars-most (node m k c a kids rest) =
    omega (arith, own-chars k c, length-append (scalars_of (text_of k c)) (deep_chars kids ++ deep_chars rest), length-append (deep_chars kids) (deep_chars rest), chars-most kids, chars-most rest)

cond-most : (b : Bool) (x : ℕ) → cond b x 0 ≤ x
cond-most true x = omega arith
cond-most false x = omega arith

-- a text counts for L once for each a above it, and there are fewer of them than levels
pub links-most : (f : Forest) → link_length f + text_length f ≤ levels f * text_length f
links-most none = omega arith
links-most (node m k c a kids rest) =
    let o = if_text k (trimmed_length (scalars_of c)) in
    let v = max (suc (levels kids)) (levels rest) in
    let one : 1 ≤ v = omega arith in
    let up : suc (levels kids) ≤ v = omega arith in
    let on : levels rest ≤ v = omega arith in
    omega (arith, mul-add v o (text_length kids + text_length rest), mul-add v (text_length kids) (text_length rest), mul-le-mul_right (text_length kids) up, suc-mul (levels kids) (text_length kids), mul-le-mul_right (text_length rest) on, mul-le-mul_right o one, one-mul o, cond-most (is Anchor (classed k c)) (text_length kids), links-most kids, links-most rest)

bit-most : (b : Bool) → bit b ≤ 1
bit-most true = omega arith
bit-most false = omega arith

count_most : (u : Tag) (f : Forest) → count_tag u f ≤ size f
count_most u none = omega arith
count_most u (node m k c a kids rest) = omega (arith, bit-most (is u (classed k c)), count_most u kids, count_most u rest)

if-most : (k : NodeKind) (x : ℕ) → if_text k x ≤ x
if-most Document x = omega arith
if-most Doctype x = omega arith
if-most Text x = omega arith
if-most Comment x = omega arith
if-most Element x = omega arith

long-most : (f : Forest) → long_texts f ≤ size f
long-most none = omega arith
long-most (node m k c a kids rest) = omega (arith, if-most k (bit (leb 20 (trimmed_bytes (scalars_of c)))), bit-most (leb 20 (trimmed_bytes (scalars_of c))), long-most rest)

-- a forest as small as a page's
pub record Room (f : Forest) : Type 0 where
  pub texts : texts f ≤ 131072
  pub levels : levels f ≤ 64
  pub size : size f ≤ 8192

pub small : (f : Forest) → Room f → Small (under_of f)
small f r =
    let t : text_length f ≤ 131072 = omega (arith, text-most f, r.texts) in
    let c : length (deep_chars f) ≤ 131072 = omega (arith, chars-most f, r.texts) in
    let l : link_length f ≤ 8388608 = omega (arith, links-most f, mul-le-mul_right (text_length f) r.levels, mul-le-mul_left 64 t) in
    record {
      text = omega arith;
      links = omega arith;
      chars = omega arith;
      plain = omega (arith, hits-most Plain (deep_chars f));
      stop = omega (arith, hits-most AfterStop (deep_chars f));
      comma = omega (arith, hits-most AfterComma (deep_chars f));
      paragraphs = omega (arith, count_most P f, r.size);
      images = omega (arith, count_most Img f, r.size);
      items = omega (arith, count_most Li f, r.size);
      inputs = omega (arith, count_most Input f, r.size);
      embeds = omega (arith, count_most Embed f, r.size);
      long = omega (arith, long-most f, r.size);
    }

-- an element over such a forest
pub small-element : (t : Tag) (f : Forest) → Room f → Small (element_of t (under_of f))
small-element u f r =
    let t : text_length f ≤ 131072 = omega (arith, text-most f, r.texts) in
    let c : length (deep_chars f) ≤ 131072 = omega (arith, chars-most f, r.texts) in
    let l : link_length f + text_length f ≤ 8388608 = omega (arith, links-most f, mul-le-mul_right (text_length f) r.levels, mul-le-mul_left 64 t) in
    record {
      text = omega arith;
      links = omega (arith, cond-most (is Anchor u) (text_length f));
      chars = omega arith;
      plain = omega (arith, hits-most Plain (deep_chars f));
      stop = omega (arith, hits-most AfterStop (deep_chars f));
      comma = omega (arith, hits-most AfterComma (deep_chars f));
      paragraphs = omega (arith, count_most P f, r.size, bit-most (is P u));
      images = omega (arith, count_most Img f, r.size, bit-most (is Img u));
      items = omega (arith, count_most Li f, r.size, bit-most (is Li u));
      inputs = omega (arith, count_most Input f, r.size, bit-most (is Input u));
      embeds = omega (arith, count_most Embed f, r.size, bit-most (is Embed u));
      long = omega arith;
    }

pub bounded : (f : Forest) → Room f → Bounded (under_of f)
bounded f r =
    let t : text_length f ≤ 131072 = omega (arith, text-most f, r.texts) in
    let l : link_length f + text_length f ≤ 64 * text_length f = omega (arith, links-most f, mul-le-mul_right (text_length f) r.levels) in
    record { text = t; links = omega arith; chars = omega (arith, chars-most f, r.texts); marks = hits-most Plain (deep_chars f) }

-- the forest of a node is as small, and so are its parts
pub room_node : (f : Forest) → KeptNode f → Room f
room_node f k = record { texts = k.short; levels = k.flat; size = k.few }

pub room-found : (b : ℕ) (t : Forest) (n : ℕ) → Kept b t → Room (find t n)
room-found b t n k = room_node (find t n) (kept_node b t n k)

pub room-rest : (f : Forest) → Room f → Room (rest_of f)
room-rest none r = r
room-rest (node m k c a kids rest) r = record { texts = omega (arith, r.texts); levels = omega (arith, r.levels); size = omega (arith, r.size) }

pub room-kids : (f : Forest) → Room f → Room (kids_of f)
room-kids none r = r
room-kids (node m k c a kids rest) r = record { texts = omega (arith, r.texts); levels = omega (arith, r.levels); size = omega (arith, r.size) }

-- the first node of a forest alone
pub small-node : (f : Forest) → Room f → Small (node_of f (under_of (kids_of f)))
small-node none r = small none r
small-node (node m k c a kids rest) r =
    let one : Room (node m k c a kids none) = record { texts = omega (arith, r.texts); levels = omega (arith, r.levels); size = omega (arith, r.size) } in
    subst Small (parts m k c a kids none ∙ plus_none (node_of (node m k c a kids none) (under_of kids))) (small (node m k c a kids none) one)

-- what comes first is no larger than the whole
pub small-left : (u v : Under) → Small (plus u v) → Small u
small-left u v s = record {
  text = omega (arith, s.text);
  links = omega (arith, s.links);
  chars = omega (arith, s.chars);
  plain = omega (arith, s.plain);
  stop = omega (arith, s.stop);
  comma = omega (arith, s.comma);
  paragraphs = omega (arith, s.paragraphs);
  images = omega (arith, s.images);
  items = omega (arith, s.items);
  inputs = omega (arith, s.inputs);
  embeds = omega (arith, s.embeds);
  long = omega (arith, s.long);
}
