use Rattle.std.proofs.Common.{◌≡◌, ℕ, ◌+◌, ◌<◌, true, is_some, ap, ◌∙◌, subst, arith}
use Rattle.page.specs.declared.kind.Part.{Part}
use Rattle.page.specs.Forest.{find, part_of}
use Rattle.table.specs.Table.{Table, node_at, attr_at, tree_of}
use Rattle.table.specs.Stored.{Lies}
use Rattle.table.proofs.Accepted.{accepted}
use Rattle.table.proofs.PartReading.{part-inside, name-inside, value-inside, content-lies, name-lies, value-lies}
use Rattle.table.proofs.stored.Reader.place.Goals as goal

-- the same part at the same place
at : (t : Table) (n : ℕ) (p q : Part) (i j k l : ℕ) → p ≡ q → i ≡ j → k ≡ l → Lies t n q j l → Lies t n p i k
at t n p q i j k l e f g h = rw (e, f, g) h

pub returns-in-Content : goal.returns-in-Content
returns-in-Content g c h =
    let t = g.R.Records.table c.args.self.now.records.now in
    let n = c.args.n in
    let x = c.node-x.ensures in
    at t n _ _ _ _ _ _ c.in-Content.is (ap (λ y. y.start) x) (ap (λ y. y.len) x) (content-lies t (accepted t c.args.self.now.accepted) n (part-inside t (accepted t c.args.self.now.accepted) n c.args.part h))

pub returns-in-Name : goal.returns-in-Name
returns-in-Name g c h =
    let t = g.R.Records.table c.args.self.now.records.now in
    let a = accepted t c.args.self.now.accepted in
    let n = c.args.n in
    let j = c.in-Name.j in
    let x = c.node-x.ensures in
    let l = part-inside t a n c.args.part h in
    let some : j < (node_at t n).attrs = name-inside t a n l j (subst (λ q. is_some (part_of (find (tree_of t) n) q) ≡ true) c.in-Name.is h) in
    let e = c.attr_of-a.ensures (omega (arith, ap (λ y. y.attrs) x, some)) ∙ ap (λ y. attr_at t (y.first + j)) x in
    at t n _ _ _ _ _ _ c.in-Name.is (ap (λ y. y.start) e) (c.from.ensures ∙ ap (λ y. y.name) e) (name-lies t a n l j some)

pub returns-in-Value : goal.returns-in-Value
returns-in-Value g c h =
    let t = g.R.Records.table c.args.self.now.records.now in
    let a = accepted t c.args.self.now.accepted in
    let n = c.args.n in
    let j = c.in-Value.j in
    let x = c.node-x.ensures in
    let l = part-inside t a n c.args.part h in
    let some : j < (node_at t n).attrs = value-inside t a n l j (subst (λ q. is_some (part_of (find (tree_of t) n) q) ≡ true) c.in-Value.is h) in
    let e = c.attr_of-a-in-Value.ensures (omega (arith, ap (λ y. y.attrs) x, some)) ∙ ap (λ y. attr_at t (y.first + j)) x in
    at t n _ _ _ _ _ _ c.in-Value.is (λ i. (e i).start + (c.from-in-Value.ensures ∙ ap (λ y. y.name) e) i) (c.from-in-Value-2.ensures ∙ ap (λ y. y.value) e) (value-lies t a n l j some)
