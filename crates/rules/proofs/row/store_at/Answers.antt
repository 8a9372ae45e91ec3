use Rattle.std.proofs.Common.{sym, ◌∙◌, rules}
use Rattle.rules.proofs.Loops.{stored-none, each_begun, each_again, each-ended}
use Rattle.rules.proofs.row.store_at.Goals.{else-has, then-has}
use Rattle.rules.proofs.row.store_at.Goals as goal

pub returns-then-is_empty : goal.returns-then-is_empty
returns-then-is_empty c = stored-none _ _ _ (sym c.is_empty.ensures ∙ c.if-is_empty.true)

pub loop-k-init : goal.loop-k-init
loop-k-init c = each_begun _ 0 _

pub loop-k-preserved : goal.loop-k-preserved
loop-k-preserved c =
    let h = sym c.has.ensures in
    elim c.if-has.branch [
      | then-has w ↦
          w.x-items-is ∙ each_again _ 0 _ _ _ _ c.loop-k.invariant (search rules) (rw (h ∙ w.if-has.true))
      | else-has w ↦
          w.x-items-is ∙ each_again _ 0 _ _ _ _ c.loop-k.invariant (search rules) (rw (h ∙ w.if-has.false))
    ]

pub returns : goal.returns
returns c = each-ended _ 0 _ _ _ c.loop-k.invariant (search rules)
