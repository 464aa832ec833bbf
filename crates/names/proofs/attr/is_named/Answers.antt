-- A turn compares one byte.
use Rattle.std.proofs.Common.{sym, refl, ◌∙◌, arith}
use Rattle.page.specs.Forest.{find, part_of}
use Rattle.page.specs.declared.kind.Part.TheVariants.{Name}
use Rattle.text.specs.Held.{held}
use Rattle.text.proofs.Reading.{byte-is}
use Rattle.names.proofs.Sames.{same_length, length-is, same-on, same-off, same_end}
use Rattle.names.proofs.attr.is_named.Goals as goal

pub returns-then-len_of-name : goal.returns-then-len_of-name
returns-then-len_of-name g c s =
    let o = part_of (find (g.P.Page.tree c.args.p.now) c.args.n) (Name c.args.j) in
    let xs = held (g.P.Page.tree c.args.p.now) c.args.n (Name c.args.j) in
    sym (same_length c.args.name.now xs (λ e. c.if-len_of-name.true (length-is o c.len_of.result (c.len_of.ensures s) ∙ e)))

pub loop-k-init : goal.loop-k-init
loop-k-init g c s = refl

pub returns-then-byte_of-b : goal.returns-then-byte_of-b
returns-then-byte_of-b g c s =
    let o = part_of (find (g.P.Page.tree c.args.p.now) c.args.n) (Name c.args.j) in
    let xs = held (g.P.Page.tree c.args.p.now) c.args.n (Name c.args.j) in
    let k = c.loop-k.k in
    let e = length-is o c.len_of.result (c.len_of.ensures s) in
    same-off c.args.name.now xs k (omega arith) (omega (arith, e)) (λ z. c.if-byte_of-b.true (byte-is o k c.byte_of.result c.byte_of.ensures (omega (arith, e)) ∙ z)) (c.loop-k.invariant s)

pub loop-k-preserved : goal.loop-k-preserved
loop-k-preserved g c s =
    let o = part_of (find (g.P.Page.tree c.args.p.now) c.args.n) (Name c.args.j) in
    let xs = held (g.P.Page.tree c.args.p.now) c.args.n (Name c.args.j) in
    let k = c.loop-k.k in
    let e = length-is o c.len_of.result (c.len_of.ensures s) in
    same-on c.args.name.now xs k (omega arith) (omega (arith, e)) (sym (byte-is o k c.byte_of.result c.byte_of.ensures (omega (arith, e))) ∙ c.if-byte_of-b.false) (c.loop-k.invariant s)

pub returns : goal.returns
returns g c s =
    let o = part_of (find (g.P.Page.tree c.args.p.now) c.args.n) (Name c.args.j) in
    let xs = held (g.P.Page.tree c.args.p.now) c.args.n (Name c.args.j) in
    let e = length-is o c.len_of.result (c.len_of.ensures s) in
    same_end c.args.name.now xs c.loop-k.k (omega arith) (omega (arith, e)) (c.loop-k.invariant s)
