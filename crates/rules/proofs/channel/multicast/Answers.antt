use Rattle.std.proofs.Common.{◌∙◌, arith}
use Rattle.protocol.specs.Channel.{delivered}
use Rattle.protocol.specs.State.{no_place}
use Rattle.rules.proofs.Loops.{each_begun, each_again, each-ended}
use Rattle.rules.proofs.Sent.{put-none}
use Rattle.rules.proofs.channel.multicast.Goals.{then-has, else-has}
use Rattle.rules.proofs.channel.multicast.Goals as goal

pub loop-j-init : goal.loop-j-init
loop-j-init c = each_begun _ no_place _

pub loop-j-preserved : goal.loop-j-preserved
loop-j-preserved c =
    elim c.if-has.branch [
      | then-has w ↦
          w.ps-is
          ∙ each_again _ no_place _ _ _ _ c.loop-j.invariant (omega arith) (rw (← c.has.ensures, w.if-has.true, w.put.ensures))
      | else-has w ↦
          w.ps-is
          ∙ each_again _ no_place _ _ _ _ c.loop-j.invariant (omega arith) (rw (← c.has.ensures, w.if-has.false, put-none c.args.m))
    ]

pub returns : goal.returns
unfolding delivered
returns c = each-ended _ no_place _ _ _ c.loop-j.invariant (omega arith)
