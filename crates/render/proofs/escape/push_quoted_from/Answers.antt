-- A turn writes one byte.
use Rattle.std.proofs.Common.{rules, ◌≡◌, ℕ, List, [], ◌∷◌, ◌++◌, vec_items, sym, ap, ◌∙◌, subst, append_assoc, append-nil}
use Rattle.std.specs.Iterator.{Yields}
use Rattle.render.specs.Render.{escape, escaped}
use Rattle.render.proofs.escape.push_quoted_from.Goals as goal

escaped-snoc : (xs : List ℕ) (b : ℕ) → escaped (xs ++ (b ∷ [])) ≡ escaped xs ++ escape b
escaped-snoc [] b = append-nil (escape b)
escaped-snoc (x ∷ xs) b = ap (λ l. escape x ++ l) (escaped-snoc xs b) ∙ sym (append_assoc (escape x) (escaped xs) (escape b))

pub loop-b-init : goal.loop-b-init
loop-b-init g c = record { can = search rules; ends = search rules; written = sym (append-nil _) }

pub loop-b-preserved : goal.loop-b-preserved
loop-b-preserved g c =
    let E = vec_items c.push.new.self in
    let xs = c.loop-b.yielded in
    let b = c.in-Some.b in
    record {
      can = search rules;
      ends = search rules;
      written = c.in_ok-push_escaped.ensures ∙ (ap (λ l. l ++ escape b) c.loop-b.invariant.written ∙ (append_assoc E (escaped xs) (escape b) ∙ ap (λ l. E ++ l) (sym (escaped-snoc xs b))));
    }

pub returns : goal.returns
returns g c =
    let E = vec_items c.args.out.now in
    let xs = c.loop-b.yielded in
    let taken = subst (λ s. Yields g.I.Iterator.next_gives s xs c.loop-b.b-iterator) c.into_iter-b-iterator.ensures.into_iter_gives c.loop-b.yielded_by in (
      xs,
      (c.next.new.self, (c.loop-b.b-iterator, taken, c.in-None.ensures.steps)),
      c.in_ok-push-2.ensures.items
          ∙ (ap (λ v. v ++ (34 ∷ [])) (c.loop-b.invariant.written ∙ ap (λ v. v ++ escaped xs) c.in_ok-push.ensures.items)
          ∙ simp append_assoc),
    )
