-- The table and std's test agree.
use Rattle.std.proofs.Common.{◌≡◌, eqb, sym, refl, subst, ◌∙◌}
use Rattle.text.specs.Space.{spaces, listed, space}
use Rattle.text.proofs.Table.{printed, space-white}
use Rattle.text.proofs.space.is_space.Goals as goal

pub returns-then-c-lt133-clause-table : goal.returns-then-c-lt133-clause-table
returns-then-c-lt133-clause-table c = printed c.args.c c.if-c-gt32.true c.if-c-lt133.true ∙ sym (space-white c.args.c)

pub returns-then-c-eq32-clause-table : goal.returns-then-c-eq32-clause-table
unfolding space
returns-then-c-eq32-clause-table c = subst (λ d. eqb d 32 ≡ space d) (sym c.if-c-eq32.true) refl

pub returns-else-c-eq32 : goal.returns-else-c-eq32
unfolding space
returns-else-c-eq32 c =
    let e : c.contains.result ≡ listed spaces c.args.c = c.contains.ensures.value in
    record { table = e; unicode = e ∙ space-white c.args.c }
