-- Each of the four calls answers the byte at its place.
use Rattle.std.proofs.Common.{zero, suc, rules, arith}
use Rattle.text.proofs.part.next_bytes.Goals as goal

pub returns : goal.returns
returns g c zero few wide inside = let h = c.from_fn.ensures.items.each in let a = h.2.1 in let m = h.3.met in search (rules, a, m)
returns g c (suc zero) few wide inside = let h = c.from_fn.ensures.items.each.4 in let a = h.2.1 in let m = h.3.met in search (rules, a, m)
returns g c (suc (suc zero)) few wide inside = let h = c.from_fn.ensures.items.each.4.4 in let a = h.2.1 in let m = h.3.met in search (rules, a, m)
returns g c (suc (suc (suc zero))) few wide inside = let h = c.from_fn.ensures.items.each.4.4.4 in let a = h.2.1 in let m = h.3.met in search (rules, a, m)
returns g c (suc (suc (suc (suc k)))) few wide inside = absurd (omega arith)
