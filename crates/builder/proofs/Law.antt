-- The law over every list of events.
use Rattle.std.proofs.Common.{◌≡◌, ℕ, suc, ◌+◌, true, false, List, [], ◌∷◌, ◌++◌, Some, None, Option, sym, refl, ap, ◌∙◌, subst, append_assoc, append-nil, add-one, arith}
use Rattle.page.specs.declared.kind.NodeKind.{NodeKind}
use Rattle.page.specs.declared.kind.NodeKind.TheVariants.{Document, Doctype, Text, Comment, Element}
use Rattle.table.specs.Rows.{parse}
use Rattle.table.specs.Table.{rows_of}
use Rattle.table.specs.Links.{depth_at}
use Rattle.table.proofs.Accepted.{table-formed}
use Rattle.table.proofs.Round.{rows_of-tree}
use Rattle.linked.proofs.Verdict.{linked-accepted}
use Rattle.builder.specs.declared.refusal.BuildRefusal.{BuildRefusal}
use Rattle.builder.specs.State.{State, used_nodes, used_attrs, used_bytes, used_table}
use Rattle.builder.specs.Events.{Event, element, attribute, text, comment, doctype, close, row, rows_at, event_rows}
use Rattle.builder.specs.After.{next_depth, answer, with_node, granted, unless}
use Rattle.builder.specs.Law.{afters, kept, given_by, Law}
use Rattle.builder.proofs.Sound.{Sound, table-accepted, open_in}
use Rattle.builder.proofs.Adding as adding
use Rattle.builder.proofs.Adding.{Granted, added-rows, added-sound}
use Rattle.builder.proofs.Attributing as attributing
use Rattle.builder.proofs.Attributing.{rows_before, attributed-rows}
use Rattle.builder.proofs.Closing.{closed-sound}
use Rattle.builder.proofs.Granting.{node-granted, attr-fresh, attr-granted, some-open, granted-sound}
use Rattle.builder.proofs.Runs.{depth_after, ends_fresh, depth-snoc, fresh-snoc, rows_append, more_attr, more-last, event-attr}

-- the events gs led to the state s
pub record Told (s : State) (gs : List Event) : Type 0 where
  pub rows : rows_of (used_table s) ≡ event_rows gs
  pub depth : depth_after 1 gs ≡ depth_at (used_table s) s.current + 1
  pub fresh : ends_fresh false gs ≡ s.fresh

module _ (s : State) (gs : List Event) (h : Sound s) (t : Told s gs) where
  at-depth : depth_after 1 gs ≡ next_depth s
  at-depth = t.depth ∙ ap (λ x. x.depth + 1) (open_in s h)

  -- a node more
  node-rows : (k : NodeKind) (c : List ℕ) (e : Event) → Granted s k c → ((gs : List Event) (d : ℕ) → rows_at d (gs ++ (e ∷ [])) ≡ rows_at d gs ++ (row k (depth_after d gs) c [] ∷ []))
      → rows_of (used_table (with_node s k c)) ≡ event_rows (gs ++ (e ∷ []))
  node-rows k c e g more = added-rows s k c h g ∙ ((λ q. t.rows q ++ (row k (sym at-depth q) c [] ∷ [])) ∙ ap (λ l. row Document 0 [] [] ∷ l) (sym (more gs 1)))

  leaf-told : (k : NodeKind) (c : List ℕ) (e : Event) → Granted s k c → ((gs : List Event) (d : ℕ) → rows_at d (gs ++ (e ∷ [])) ≡ rows_at d gs ++ (row k (depth_after d gs) c [] ∷ []))
      → depth_after (depth_after 1 gs) (e ∷ []) ≡ depth_after 1 gs → ends_fresh (ends_fresh false gs) (e ∷ []) ≡ false → Told (with_node s k c) (gs ++ (e ∷ []))
  leaf-told k c e g more same stale =
      record {
        rows = node-rows k c e g more;
        depth = depth-snoc 1 gs e ∙ (same ∙ (t.depth ∙ ap (λ d. d + 1) (sym (adding.same s k c h g s.current h.inside))));
        fresh = fresh-snoc false gs e ∙ stale;
      }

  told_more : (e : Event) → answer s e ≡ None → Told (granted s e) (gs ++ (e ∷ []))
  told_more (element c) a =
      let g = node-granted s Element c refl a in
      record {
        rows = node-rows Element c (element c) g (λ fs d. rows_append d fs (element c ∷ []) refl);
        depth = depth-snoc 1 gs (element c) ∙ (ap suc at-depth ∙ (sym (add-one (next_depth s)) ∙ ap (λ d. d + 1) (sym (adding.new s Element c h g))));
        fresh = fresh-snoc false gs (element c);
      }
  told_more (text c) a = leaf-told Text c (text c) (node-granted s Text c refl a) (λ fs d. rows_append d fs (text c ∷ []) refl) refl refl
  told_more (comment c) a = leaf-told Comment c (comment c) (node-granted s Comment c refl a) (λ fs d. rows_append d fs (comment c ∷ []) refl) refl refl
  told_more (doctype c) a = leaf-told Doctype c (doctype c) (node-granted s Doctype c refl a) (λ fs d. rows_append d fs (doctype c ∷ []) refl) refl refl
  told_more (attribute n v) a =
      let g = attr-granted s n v a h in
      let fresh : ends_fresh false gs ≡ true = t.fresh ∙ attr-fresh s n v a in
      record {
        rows = attributed-rows s n v h g ∙ (sym (more-last _ _ (n, v)) ∙ (ap (λ l. more_attr l (n, v)) (sym (rows_before s n v h g) ∙ t.rows) ∙ sym (event-attr gs n v fresh)));
        depth = depth-snoc 1 gs (attribute n v) ∙ (t.depth ∙ ap (λ d. d + 1) (sym (attributing.same s n v h g s.current)));
        fresh = fresh-snoc false gs (attribute n v) ∙ fresh;
      }
  told_more close a =
      let c = closed-sound s h (some-open s a) in
      let up = c.last.2 in
      record {
        rows = t.rows ∙ ap (λ l. row Document 0 [] [] ∷ l) (sym (rows_append 1 gs (close ∷ []) refl ∙ append-nil (rows_at 1 gs)));
        depth = depth-snoc 1 gs close ∙ omega (arith, t.depth, up);
        fresh = fresh-snoc false gs close;
      }

-- what a list of events leaves stays sound, and the granted ones led there
told-all : (es : List Event) (s : State) (gs : List Event) → Sound s → Told s gs → Sound (afters s es) × Told (afters s es) (gs ++ given_by s es)
told-all [] s gs h t = (h, subst (Told s) (sym (append-nil gs)) t)
told-all (e ∷ es) s gs h t = go (answer s e) refl (told-all es)
  where
    go : (o : Option BuildRefusal) → answer s e ≡ o → ((s : State) (gs : List Event) → Sound s → Told s gs → Sound (afters s es) × Told (afters s es) (gs ++ given_by s es))
        → Sound (afters (unless o s (granted s e)) es) × Told (afters (unless o s (granted s e)) es) (gs ++ kept o e (given_by (unless o s (granted s e)) es))
    go None a r =
        let more = r (granted s e) (gs ++ (e ∷ [])) (granted-sound s e h a) (told_more s gs h t e a) in
        (more.0, subst (Told (afters (granted s e) es)) (append_assoc gs (e ∷ []) (given_by (granted s e) es)) more.1)
    go (Some x) a r = r s gs h t

pub law : (s : State) → Sound s → Told s [] → (es : List Event) → Law s es
law s h t es =
    let r = told-all es s [] h t in
    let u = used_table (afters s es) in
    let tree = ap (parse 0 0) r.1.rows in
    let back = rows_of-tree (rows_of u) (table-formed u (table-accepted (afters s es) r.0)) in
    record {
      tree = tree;
      nodes = back.0 ∙ r.1.rows;
      numbers = back.1;
      accepted = linked-accepted (used_nodes (afters s es)) (used_attrs (afters s es)) (used_bytes (afters s es)) r.0.accepted r.0.linked;
    }
