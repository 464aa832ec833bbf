-- All figures of a forest together.
use Rattle.std.specs.Prelude.{ℕ, ◌+◌, false, cond, ◌||◌, List, [], length, nat_le}
use Rattle.utf8.specs.Decode.{scalars_of}
use Rattle.page.specs.declared.kind.NodeKind.{NodeKind}
use Rattle.page.specs.declared.kind.NodeKind.TheVariants.{Document, Doctype, Text, Comment, Element}
use Rattle.page.specs.Forest.{Forest, none, node}
use Rattle.text.specs.Trim.{trimmed_length, trimmed_bytes}
use Rattle.text.specs.Marks.{bit}
use Rattle.names.specs.declared.tag.Tag.{Tag}
use Rattle.names.specs.declared.tag.Tag.TheVariants.{Anchor, P, Img, Li, Input, Embed}
use Rattle.names.specs.Tags.{classed}
use Rattle.names.specs.Is.{is, among}
use Rattle.dom.specs.declared.under.Under.{Under}
use Rattle.dom.specs.Passes.{passes_of, both}
use Rattle.dom.specs.Deep.{deep_chars, text_length, link_length, count_tag, some_tag, block_tags, long_texts}

-- the figures of a forest
abbrev pub under_of : Forest → Under
under_of f = record {
  text = text_length f;
  links = link_length f;
  chars = length (deep_chars f);
  marks = passes_of (deep_chars f);
  block = some_tag block_tags f;
  paragraphs = count_tag P f;
  images = count_tag Img f;
  items = count_tag Li f;
  inputs = count_tag Input f;
  embeds = count_tag Embed f;
  long = long_texts f;
}

-- the figures of two forests, one after the other
abbrev pub plus : Under → Under → Under
plus u v = record {
  text = u.text + v.text;
  links = u.links + v.links;
  chars = u.chars + v.chars;
  marks = both u.marks v.marks;
  block = u.block || v.block;
  paragraphs = u.paragraphs + v.paragraphs;
  images = u.images + v.images;
  items = u.items + v.items;
  inputs = u.inputs + v.inputs;
  embeds = u.embeds + v.embeds;
  long = u.long + v.long;
}

-- the figures of a text alone, by its characters
abbrev pub leaf_of : List ℕ → Under
leaf_of cs = record {
  text = trimmed_length cs;
  links = 0;
  chars = length cs;
  marks = passes_of cs;
  block = false;
  paragraphs = 0;
  images = 0;
  items = 0;
  inputs = 0;
  embeds = 0;
  long = bit (nat_le 20 (trimmed_bytes cs));
}

-- the figures of an element, by its tag and those of what is under it
abbrev pub element_of : Tag → Under → Under
element_of t u = record {
  text = u.text;
  links = cond (is Anchor t) u.text 0 + u.links;
  chars = u.chars;
  marks = u.marks;
  block = among block_tags t || u.block;
  paragraphs = bit (is P t) + u.paragraphs;
  images = bit (is Img t) + u.images;
  items = bit (is Li t) + u.items;
  inputs = bit (is Input t) + u.inputs;
  embeds = bit (is Embed t) + u.embeds;
  long = 0;
}

-- the figures of a node's own content: those of a text
abbrev pub own_of : NodeKind → List ℕ → Under
own_of Document c = leaf_of []
own_of Doctype c = leaf_of []
own_of Text c = leaf_of (scalars_of c)
own_of Comment c = leaf_of []
own_of Element c = leaf_of []

-- the figures of the first node, with those of what is under it
abbrev pub node_of : Forest → Under → Under
node_of none u = u
node_of (node m k c a kids rest) u = plus (own_of k c) (element_of (classed k c) u)
