-- A turn, put back, is what the event returns.
use Rattle.std.proofs.Common.{◌∙◌, Ok, Err, arith}
use Rattle.std.proofs.lemmas.Grind.{common_steps}
use Rattle.rules.proofs.Bounds.{count_below, site_at, txn_at_lem, versions_below}
use Rattle.rules.proofs.Turns.{turn_taken}
use Rattle.rules.proofs.course.take.Goals as goal

pub at-t-requires : goal.at-t-requires
at-t-requires c = txn_at_lem _ c.requires _ _ c.index.ensures

pub bounds-s-i : goal.bounds-s-i
bounds-s-i c = (site_at _ c.requires _ _ c.index-i.ensures).1

pub bounds-s-i-2 : goal.bounds-s-i-2
bounds-s-i-2 c = (site_at _ c.requires _ _ c.index-i.ensures).1

pub overflow_cast-view : goal.overflow_cast-view
overflow_cast-view c = omega (arith, count_below _ c.requires)

pub invariant_of-view : goal.invariant_of-view
invariant_of-view c = record { fits = count_below _ c.requires }

pub effect-d-requires : goal.effect-d-requires
effect-d-requires c = versions_below _ c.requires _ (site_at _ c.requires _ _ c.index-i.ensures).0

pub returns-in_err-a : goal.returns-in_err-a
returns-in_err-a c =
    let w = rw c.index-2.ensures.is at c.tells-told.ensures in
    let p =
    turn_taken c.args.s.now c.args.e c.requires _ _ c.index-i.ensures (c.at-t.ensures ∙ c.index.ensures) _ w (Err c.in_err-a.field-0.0)
    (rw c.index-2.ensures.is at c.in_err-a.ensures) in
    grind (arith, common_steps, p)

pub returns : goal.returns
returns c =
    let w = rw c.index-2.ensures.is at c.tells-told.ensures in
    rw (c.leave.ensures, c.effect-d.ensures, c.all_but-others.ensures, c.index-2.ensures.is, w)
    (turn_taken c.args.s.now c.args.e c.requires _ _ c.index-i.ensures (c.at-t.ensures ∙ c.index.ensures) _ w (Ok c.in_ok-a.a)
    (rw c.index-2.ensures.is at c.in_ok-a.ensures))
