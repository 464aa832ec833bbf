use Rattle.std.proofs.Common.{rules, ◌≡◌, ◌++◌, length, is_some, true, vec_items, sym, ap, ◌∙◌, arith}
use Rattle.std.proofs.lemmas.Result.{on_ok_weaker}
use Rattle.page.specs.Forest.{find, part_of, byte_in}
use Rattle.page.proofs.Parts.{byte-within}
use Rattle.render.specs.Render.{quoted}
use Rattle.render.specs.Found.{bytes_in}
use Rattle.render.proofs.Emit.{length-read, byte-read}
use Rattle.render.proofs.Mapped.{all-given}
use Rattle.render.proofs.line.push_part.Goals as goal

pub returns : goal.returns
returns g c =
    let o = part_of (find (g.P.Page.tree c.page-p.result.now) c.number-n.result) c.args.part in
    let same : o ≡ part_of c.args.node.now c.args.part = ap (λ f. part_of f c.args.part) (c.page-p.ensures c.number-n.result (sym c.number-n.ensures)) in
    let len = c.len_of.ensures (ap is_some same ∙ c.requires) in
    let long : c.len_of.result ≡ length (bytes_in o) = length-read o c.len_of.result len in
    on_ok_weaker c.push_quoted_from.result (λ w. w.2 ∙ ap (λ xs. vec_items c.args.out.now ++ quoted xs) (all-given _ (bytes_in o) c.map-bytes.result.f
    (λ x r q l k.
    let here : is_some (byte_in o x) ≡ true = byte-within o c.len_of.result x len (omega (arith, l, long)) in
    (search rules, byte-read o x r (search rules)))
    c.map-bytes.result w.0 (search rules) (ap (λ s. s.end) c.map-bytes.ensures.source ∙ long) (search rules) w.1 ∙ ap bytes_in same)) c.push_quoted_from.ensures
