use Rattle.std.proofs.Common.{◌≡◌, ℕ, ◌+◌, ◌<◌, ◌≤◌, ◌++◌, vec_items, sym, refl, ap, ◌∙◌, append_assoc, append-nil, add-one, arith}
use Rattle.page.specs.Forest.{Forest, none, node, size, kids_of, rest_of, levels}
use Rattle.page.proofs.Nodes.{taken, all_taken}
use Rattle.render.specs.Render.{lines}
use Rattle.render.specs.Found.{line_of}
use Rattle.render.proofs.lines.+push_under.Goals as goal

-- the lines of a forest: the first node's, those under it, and the rest
parts : (f : Forest) (d : ℕ) → lines d f ≡ line_of d f ++ (lines (d + 1) (kids_of f) ++ lines d (rest_of f))
parts none d = refl
parts (node m k c a kids rest) d = ap (λ e. line_of d (node m k c a kids rest) ++ (lines e kids ++ lines d rest)) (sym (add-one d))

pub loop-child-init : goal.loop-child-init
loop-child-init g t c =
    let e : c.into_iter-child-iterator.result ≡ kids_of c.args.node.now = c.into_iter-child-iterator.ensures.into_iter_gives ∙ c.children-child-items.ensures.children in
    record {
      left = ap (λ f. vec_items c.args.out.now ++ lines c.args.depth f) e;
      fewer = omega (arith, ap size e);
      flat = omega (arith, ap levels e, c.requires);
    }

pub push_line-requires : goal.push_line-requires
push_line-requires g t c = omega (arith, c.loop-child.invariant.flat)

pub push_under-requires : goal.push_under-requires
push_under-requires g t c κs within =
    let s = taken c.loop-child.child-iterator c.in-Some.child c.next.new.self c.in-Some.ensures.steps in
    let less : size (kids_of c.in-Some.child) < t = omega (arith, c.decreases, s.size, c.loop-child.invariant.fewer) in
    let flat : c.args.depth + 1 + levels (kids_of c.in-Some.child) ≤ 64 = omega (arith, c.loop-child.invariant.flat, s.levels) in
    (less, (within, flat))

pub loop-child-preserved : goal.loop-child-preserved
loop-child-preserved g t c =
    let d = c.args.depth in
    let f = c.in-Some.child in
    let O = vec_items c.loop-child.out in
    let s = taken c.loop-child.child-iterator f c.next.new.self c.in-Some.ensures.steps in
    let one = c.in_ok-push_line.ensures in
    let two = c.in_ok-push_under.ensures in
    let L = line_of d f in
    let K = lines (d + 1) (kids_of f) in
    let R = lines d (rest_of f) in
    record {
      left =
          (let back = sym s.rest in λ q. two q ++ lines d (back q))
          ∙ (ap (λ l. (l ++ K) ++ R) one
          ∙ (append_assoc (O ++ L) K R
          ∙ (append_assoc O L (K ++ R) ∙ (ap (λ l. O ++ l) (sym (parts f d) ∙ ap (lines d) (sym s.is)) ∙ c.loop-child.invariant.left))));
      fewer = omega (arith, s.size, c.loop-child.invariant.fewer);
      flat = omega (arith, s.levels, c.loop-child.invariant.flat);
    }

pub returns : goal.returns
returns g t c =
    let O = vec_items c.loop-child.out in
    sym (append-nil O) ∙ (ap (λ f. O ++ lines c.args.depth f) (sym (all_taken c.loop-child.child-iterator c.in-None.ensures.steps.0)) ∙ c.loop-child.invariant.left)
