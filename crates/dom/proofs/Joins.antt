-- Figures join: one forest after another, and a node over what is under it.
use Rattle.std.proofs.Common.{◌≡◌, ℕ, ◌+◌, cond, ◌||◌, leb, List, [], ◌∷◌, ◌++◌, length, Some, sym, refl, ap, ◌∙◌, arith}
use Rattle.std.proofs.Math.Bool.{or_assoc, or-false}
use Rattle.std.proofs.lemmas.List.{length-append}
use Rattle.utf8.specs.Decode.{scalars_of}
use Rattle.page.specs.declared.kind.NodeKind.{NodeKind}
use Rattle.page.specs.declared.kind.NodeKind.TheVariants.{Document, Doctype, Text, Comment, Element}
use Rattle.page.specs.Forest.{Forest, none, node, head_of, kind_of, rest_of, kids_of, part_of}
use Rattle.page.specs.declared.kind.Part.TheVariants.{Content}
use Rattle.text.specs.Held.{bytes_in}
use Rattle.text.specs.declared.marks.State.{State}
use Rattle.text.specs.declared.marks.State.TheVariants.{Plain, AfterStop, AfterComma}
use Rattle.text.specs.Trim.{trimmed_length, trimmed_bytes}
use Rattle.text.specs.Marks.{bit, moved, hits, after}
use Rattle.names.specs.declared.tag.Tag.{Tag}
use Rattle.names.specs.declared.tag.Tag.TheVariants.{Anchor, P, Img, Li, Input, Embed, Other}
use Rattle.names.specs.Tags.{named, classed, tag_of}
use Rattle.names.specs.Is.{is, among}
use Rattle.text.specs.declared.marks.Marks.{Marks}
use Rattle.dom.specs.declared.pass.Passes.{Passes}
use Rattle.dom.specs.declared.under.Under.{Under}
use Rattle.dom.specs.Passes.{pass_of, passes_of, pick, joined, both}
use Rattle.dom.specs.Deep.{deep_chars, text_length, link_length, count_tag, some_tag, block_tags, long_texts}
use Rattle.dom.specs.Under.{under_of, plus, leaf_of, element_of, own_of, node_of}

-- passes of texts that follow one another
after-append : (s : State) (xs ys : List ℕ) → after s (xs ++ ys) ≡ after (after s xs) ys
after-append s [] ys = refl
after-append s (x ∷ xs) ys = after-append (moved s x) xs ys

hits-append : (s : State) (xs ys : List ℕ) → hits s (xs ++ ys) ≡ hits s xs + hits (after s xs) ys
hits-append s [] ys = omega arith
hits-append s (x ∷ xs) ys = omega (arith, hits-append (moved s x) xs ys)

pick-of : (s : State) (cs : List ℕ) → pick (passes_of cs) s ≡ pass_of s cs
pick-of Plain cs = refl
pick-of AfterStop cs = refl
pick-of AfterComma cs = refl

pub same-pass : (p q : Marks) → p.state ≡ q.state → p.count ≡ q.count → p ≡ q
same-pass p q e f = λ i. record { state = e i; count = f i }

pub same-passes : (p q : Passes) → p.plain ≡ q.plain → p.stop ≡ q.stop → p.comma ≡ q.comma → p ≡ q
same-passes p q e f g = λ i. record { plain = e i; stop = f i; comma = g i }

joined_of : (s : State) (xs ys : List ℕ) → joined (passes_of xs) (passes_of ys) s ≡ pass_of s (xs ++ ys)
joined_of s xs ys =
    let a : joined (passes_of xs) (passes_of ys) s ≡ record { state = after (after s xs) ys; count = hits s xs + hits (after s xs) ys } =
    (λ i. record { state = (pick (passes_of ys) (pick-of s xs i).state).state; count = (pick-of s xs i).count + (pick (passes_of ys) (pick-of s xs i).state).count })
    ∙ (λ i. record { state = (pick-of (after s xs) ys i).state; count = hits s xs + (pick-of (after s xs) ys i).count }) in
    a ∙ same-pass _ _ (sym (after-append s xs ys)) (sym (hits-append s xs ys))

pub both_of : (xs ys : List ℕ) → both (passes_of xs) (passes_of ys) ≡ passes_of (xs ++ ys)
both_of xs ys = same-passes _ _ (joined_of Plain xs ys) (joined_of AfterStop xs ys) (joined_of AfterComma xs ys)

-- laws of passes
pick-both : (p q : Passes) (s : State) → pick (both p q) s ≡ joined p q s
pick-both p q Plain = refl
pick-both p q AfterStop = refl
pick-both p q AfterComma = refl

joined-assoc : (p q r : Passes) (s : State) → joined (both p q) r s ≡ joined p (both q r) s
joined-assoc p q r s =
    let e = pick-both p q s in
    let f = pick-both q r (pick p s).state in
    same-pass _ _ (ap (λ x. (pick r x.state).state) e ∙ sym (ap (λ x. x.state) f)) (omega (arith, ap (λ x. x.count) e, ap (λ x. (pick r x.state).count) e, ap (λ x. x.count) f))

both-assoc : (p q r : Passes) → both (both p q) r ≡ both p (both q r)
both-assoc p q r = same-passes _ _ (joined-assoc p q r Plain) (joined-assoc p q r AfterStop) (joined-assoc p q r AfterComma)

pick-none : (s : State) → ((pick (passes_of []) s).state ≡ s) × ((pick (passes_of []) s).count ≡ 0)
pick-none Plain = (refl, refl)
pick-none AfterStop = (refl, refl)
pick-none AfterComma = (refl, refl)

joined-none : (p : Passes) (s : State) → joined p (passes_of []) s ≡ pick p s
joined-none p s = let e = pick-none (pick p s).state in same-pass _ _ e.0 (omega (arith, e.1))

both-none : (p : Passes) → both p (passes_of []) ≡ p
both-none p = same-passes _ _ (joined-none p Plain) (joined-none p AfterStop) (joined-none p AfterComma)

none_both : (p : Passes) → both (passes_of []) p ≡ p
none_both p = same-passes _ _ (same-pass _ _ refl (omega arith)) (same-pass _ _ refl (omega arith)) (same-pass _ _ refl (omega arith))

-- laws of figures
pub record Alike (u v : Under) : Type 0 where
  pub text : u.text ≡ v.text
  pub links : u.links ≡ v.links
  pub chars : u.chars ≡ v.chars
  pub marks : u.marks ≡ v.marks
  pub block : u.block ≡ v.block
  pub paragraphs : u.paragraphs ≡ v.paragraphs
  pub images : u.images ≡ v.images
  pub items : u.items ≡ v.items
  pub inputs : u.inputs ≡ v.inputs
  pub embeds : u.embeds ≡ v.embeds
  pub long : u.long ≡ v.long

pub alike : {u v : Under} → Alike u v → u ≡ v
alike e = λ i. record {
  text = e.text i;
  links = e.links i;
  chars = e.chars i;
  marks = e.marks i;
  block = e.block i;
  paragraphs = e.paragraphs i;
  images = e.images i;
  items = e.items i;
  inputs = e.inputs i;
  embeds = e.embeds i;
  long = e.long i;
}

pub plus_assoc : (u v w : Under) → plus (plus u v) w ≡ plus u (plus v w)
plus_assoc u v w = alike (record {
  text = omega arith;
  links = omega arith;
  chars = omega arith;
  marks = both-assoc u.marks v.marks w.marks;
  block = or_assoc u.block v.block w.block;
  paragraphs = omega arith;
  images = omega arith;
  items = omega arith;
  inputs = omega arith;
  embeds = omega arith;
  long = omega arith;
})

pub plus_none : (u : Under) → plus u (under_of none) ≡ u
plus_none u = alike (record {
  text = omega arith;
  links = omega arith;
  chars = omega arith;
  marks = both-none u.marks;
  block = or-false u.block;
  paragraphs = omega arith;
  images = omega arith;
  items = omega arith;
  inputs = omega arith;
  embeds = omega arith;
  long = omega arith;
})

pub none-plus : (u : Under) → plus (under_of none) u ≡ u
none-plus u = alike (record {
  text = omega arith;
  links = omega arith;
  chars = omega arith;
  marks = none_both u.marks;
  block = refl;
  paragraphs = omega arith;
  images = omega arith;
  items = omega arith;
  inputs = omega arith;
  embeds = omega arith;
  long = omega arith;
})

-- the figures of a node with its own characters and its tag, and of what follows it
abbrev sum_of : List ℕ → Tag → Forest → Forest → Under
sum_of cs t kids rest = record {
  text = trimmed_length cs + (text_length kids + text_length rest);
  links = cond (is Anchor t) (text_length kids) 0 + (link_length kids + link_length rest);
  chars = length (cs ++ (deep_chars kids ++ deep_chars rest));
  marks = passes_of (cs ++ (deep_chars kids ++ deep_chars rest));
  block = among block_tags t || (some_tag block_tags kids || some_tag block_tags rest);
  paragraphs = bit (is P t) + (count_tag P kids + count_tag P rest);
  images = bit (is Img t) + (count_tag Img kids + count_tag Img rest);
  items = bit (is Li t) + (count_tag Li kids + count_tag Li rest);
  inputs = bit (is Input t) + (count_tag Input kids + count_tag Input rest);
  embeds = bit (is Embed t) + (count_tag Embed kids + count_tag Embed rest);
  long = bit (leb 20 (trimmed_bytes cs)) + long_texts rest;
}

sum-parts : (cs : List ℕ) (t : Tag) (kids rest : Forest) → sum_of cs t kids rest ≡ plus (plus (leaf_of cs) (element_of t (under_of kids))) (under_of rest)
sum-parts cs t kids rest = alike (record {
  text = omega arith;
  links = omega arith;
  chars = omega (arith, length-append cs (deep_chars kids ++ deep_chars rest), length-append (deep_chars kids) (deep_chars rest));
  marks = sym (both-assoc (passes_of cs) (passes_of (deep_chars kids)) (passes_of (deep_chars rest)) ∙ (ap (both (passes_of cs)) (both_of (deep_chars kids) (deep_chars rest)) ∙ both_of cs (deep_chars kids ++ deep_chars rest)));
  block = sym (or_assoc (among block_tags t) (some_tag block_tags kids) (some_tag block_tags rest));
  paragraphs = omega arith;
  images = omega arith;
  items = omega arith;
  inputs = omega arith;
  embeds = omega arith;
  long = omega arith;
})

-- the figures of a forest are those of its first node and then of the rest
pub parts : (m : ℕ) (k : NodeKind) (c : List ℕ) (a : List (List ℕ × List ℕ)) (kids rest : Forest) → under_of (node m k c a kids rest) ≡ plus (node_of (node m k c a kids rest) (under_of kids)) (under_of rest)
parts m Document c a kids rest = sum-parts [] Other kids rest
parts m Doctype c a kids rest = sum-parts [] Other kids rest
parts m Text c a kids rest = sum-parts (scalars_of c) Other kids rest
parts m Comment c a kids rest = sum-parts [] Other kids rest
parts m Element c a kids rest = sum-parts [] (named c) kids rest

pub parts-of : (f : Forest) (n : ℕ) → head_of f ≡ Some n → under_of f ≡ plus (node_of f (under_of (kids_of f))) (under_of (rest_of f))
parts-of none n h = absurd (let z : ◌≡◌ {A = ℕ} 0 1 = cc in omega arith)
parts-of (node m k c a kids rest) n h = parts m k c a kids rest

-- a text, and any other node
pub text-node : (f : Forest) (u : Under) → Some Text ≡ kind_of f → node_of f u ≡ plus (leaf_of (scalars_of (bytes_in (part_of f Content)))) (element_of Other u)
text-node none u e = absurd (let z : ◌≡◌ {A = ℕ} 0 1 = cc in omega arith)
text-node (node m k c a kids rest) u e = let is : k ≡ Text = cc in ap (λ j. plus (own_of j c) (element_of (classed j c) u)) is

pub text-tag : (f : Forest) → Some Text ≡ kind_of f → tag_of f ≡ Other
text-tag none e = refl
text-tag (node m k c a kids rest) e = let is : k ≡ Text = cc in ap (λ j. classed j c) is

own-other : (k : NodeKind) (c : List ℕ) → (k ≡ Text → ⊥) → own_of k c ≡ under_of none
own-other Document c h = refl
own-other Doctype c h = refl
own-other Text c h = absurd (h refl)
own-other Comment c h = refl
own-other Element c h = refl

pub other-node : (f : Forest) (u : Under) (n : ℕ) → head_of f ≡ Some n → (Some Text ≡ kind_of f → ⊥) → node_of f u ≡ element_of (tag_of f) u
other-node none u n h e = absurd (let z : ◌≡◌ {A = ℕ} 0 1 = cc in omega arith)
other-node (node m k c a kids rest) u n h e = ap (λ v. plus v (element_of (classed k c) u)) (own-other k c (λ x. e (ap Some (sym x)))) ∙ none-plus (element_of (classed k c) u)

-- one node more in a sum
pub turn : (sum here inner : Under) (f : Forest) (n : ℕ) → head_of f ≡ Some n → inner ≡ under_of (kids_of f) → here ≡ node_of f inner → plus (plus sum here) (under_of (rest_of f)) ≡ plus sum (under_of f)
turn sum here inner f n h e d =
    ap (λ u. plus (plus sum u) (under_of (rest_of f))) (d ∙ ap (node_of f) e)
    ∙ (plus_assoc sum (node_of f (under_of (kids_of f))) (under_of (rest_of f)) ∙ ap (plus sum) (sym (parts-of f n h)))
