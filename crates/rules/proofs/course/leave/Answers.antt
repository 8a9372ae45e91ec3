-- Where nothing is to be posted the parts alone are put back.
use Rattle.std.proofs.Common.{sym, ap, ◌∙◌}
use Rattle.sets.specs.Set.{is_empty}
use Rattle.rules.proofs.Sent.{all_posted, nothing-posted}
use Rattle.rules.proofs.course.leave.Goals as goal

pub returns-then-not-is_empty : goal.returns-then-not-is_empty
returns-then-not-is_empty c =
    rw (← c.index.ensures.is) (all_posted c.args.i c.args.d.now.message c.args.d.now.about c.args.d.now.readies _ _ c.posted.ensures)

pub returns-else-not-is_empty : goal.returns-else-not-is_empty
returns-else-not-is_empty c =
    rw (← c.index.ensures.is)
    (nothing-posted c.args.i c.args.d.now.message c.args.d.now.about c.args.d.now.readies _
    (sym (c.is_empty.ensures ∙ ap is_empty c.union.ensures) ∙ c.if-not-is_empty.false))
