-- A turn passes one attribute.
use Rattle.std.proofs.Common.{◌≡◌, ◌<◌, length, Some, None, sym, ap, ◌∙◌, subst, rules, arith}
use Rattle.page.specs.Forest.{find, attrs_of}
use Rattle.names.specs.Names.{same}
use Rattle.names.specs.Attrs.{first_index, First}
use Rattle.names.proofs.Attributes.{name-at, count-is, search-begin, search-on, search-here, search-end, first}
use Rattle.names.proofs.attr.first_attr_of.Goals as goal

pub loop-j-init : goal.loop-j-init
loop-j-init g c = search-begin (attrs_of (find (g.P.Page.tree c.args.p.now) c.args.n)) c.args.name.now

pub loop-j-preserved : goal.loop-j-preserved
loop-j-preserved g c =
    let f = find (g.P.Page.tree c.args.p.now) c.args.n in
    let j = c.loop-j.j in
    let long : c.unwrap_or-j-end.result ≡ length (attrs_of f) = search (rules, count-is) in
    let l : j < length (attrs_of f) = omega (arith, long) in
    let p = name-at f j l in
    search-on (attrs_of f) c.args.name.now j c.loop-j.invariant l (ap (same c.args.name.now) (sym p.1) ∙ (sym (c.is_named.ensures p.0) ∙ c.if-is_named.false))

pub returns-then-is_named : goal.returns-then-is_named
returns-then-is_named g c =
    let f = find (g.P.Page.tree c.args.p.now) c.args.n in
    let w = c.args.name.now in
    let j = c.loop-j.j in
    let long : c.unwrap_or-j-end.result ≡ length (attrs_of f) = search (rules, count-is) in
    let l : j < length (attrs_of f) = omega (arith, long) in
    let p = name-at f j l in
    let e : Some j ≡ first_index (attrs_of f) w = search-here (attrs_of f) w j c.loop-j.invariant l (ap (same w) (sym p.1) ∙ (sym (c.is_named.ensures p.0) ∙ c.if-is_named.true)) in
    record { index = e; first = subst (First (attrs_of f) w) (sym e) (first (attrs_of f) w) }

pub returns : goal.returns
returns g c =
    let f = find (g.P.Page.tree c.args.p.now) c.args.n in
    let w = c.args.name.now in
    let long : c.unwrap_or-j-end.result ≡ length (attrs_of f) = search (rules, count-is) in
    let e : None ≡ first_index (attrs_of f) w = search-end (attrs_of f) w c.loop-j.j c.loop-j.invariant (omega (arith, long)) in
    record { index = e; first = subst (First (attrs_of f) w) (sym e) (first (attrs_of f) w) }
