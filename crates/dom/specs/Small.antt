-- How large the figures can be.
use Rattle.std.specs.Prelude.{◌^◌, ◌<◌, ◌≤◌}
use Rattle.dom.specs.declared.under.Under.{Under}

-- figures that numbers of 32 bits hold
pub record Small (u : Under) : Type 0 where
  pub text : u.text < 2 ^ 32
  pub links : u.links < 2 ^ 32
  pub chars : u.chars < 2 ^ 32
  pub plain : u.marks.plain.count < 2 ^ 32
  pub stop : u.marks.stop.count < 2 ^ 32
  pub comma : u.marks.comma.count < 2 ^ 32
  pub paragraphs : u.paragraphs < 2 ^ 32
  pub images : u.images < 2 ^ 32
  pub items : u.items < 2 ^ 32
  pub inputs : u.inputs < 2 ^ 32
  pub embeds : u.embeds < 2 ^ 32
  pub long : u.long < 2 ^ 32

-- the bounds that every page keeps: T at most 131,072, L under 2^23, punctuation at most the characters
pub record Bounded (u : Under) : Type 0 where
  pub text : u.text ≤ 131072
  pub links : u.links < 2 ^ 23
  pub chars : u.chars ≤ 131072
  pub marks : u.marks.plain.count ≤ u.chars
