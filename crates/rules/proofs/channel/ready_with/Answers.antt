use Rattle.std.proofs.Common.{◌∙◌, arith}
use Rattle.protocol.specs.Channel.{ready_with}
use Rattle.rules.proofs.Loops.{each_begun, each_again, each-ended}
use Rattle.rules.proofs.channel.ready_with.Goals.{then-has, else-has}
use Rattle.rules.proofs.channel.ready_with.Goals as goal

pub loop-t-init : goal.loop-t-init
loop-t-init c = each_begun _ 0 _

pub loop-t-preserved : goal.loop-t-preserved
loop-t-preserved c =
    elim c.if-has.branch [
      | then-has w ↦
          w.ready-is
          ∙ each_again _ 0 _ _ _ _ c.loop-t.invariant (omega arith) (rw (← c.has.ensures, w.if-has.true) w.with.ensures)
      | else-has w ↦
          w.ready-is ∙ each_again _ 0 _ _ _ _ c.loop-t.invariant (omega arith) (rw (← c.has.ensures, w.if-has.false))
    ]

pub returns : goal.returns
unfolding ready_with
returns c = each-ended _ 0 _ _ _ c.loop-t.invariant (omega arith)
