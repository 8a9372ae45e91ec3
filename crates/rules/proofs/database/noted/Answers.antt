use Rattle.std.proofs.Common.{◌∙◌, arith}
use Rattle.protocol.specs.Database.{noted}
use Rattle.rules.proofs.Loops.{each_begun, each_again, each-ended}
use Rattle.rules.proofs.database.noted.Goals.{then-has, else-has}
use Rattle.rules.proofs.database.noted.Goals as goal

pub loop-o-init : goal.loop-o-init
loop-o-init c = each_begun _ 0 _

pub overflow_add-v : goal.overflow_add-v
overflow_add-v c = omega (arith, c.requires c.loop-o.o (omega arith))

pub loop-o-preserved : goal.loop-o-preserved
loop-o-preserved c =
    elim c.if-has.branch [
      | then-has w ↦
          w.v-items-is ∙ each_again _ 0 _ _ _ _ c.loop-o.invariant (omega arith) (rw (← c.has.ensures, w.if-has.true))
      | else-has w ↦
          w.v-items-is ∙ each_again _ 0 _ _ _ _ c.loop-o.invariant (omega arith) (rw (← c.has.ensures, w.if-has.false))
    ]

pub returns : goal.returns
unfolding noted
returns c = rw (← c.union.ensures, ← c.minus-first.ensures) (each-ended _ 0 _ _ _ c.loop-o.invariant (omega arith))
