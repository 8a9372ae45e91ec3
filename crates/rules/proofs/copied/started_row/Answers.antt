-- Each status is the definition's.
use Rattle.std.proofs.Common.{List, ℕ, ap, ◌∙◌, arith, eq-eqb, ne_eqb}
use Rattle.protocol.specs.State.{idle}
use Rattle.rules.proofs.Fresh.{row_begun}
use Rattle.rules.proofs.Loops.{each_begun, each_again, each_passed}
use Rattle.rules.proofs.copied.started_row.Goals.{then-xs-t, else-xs-t}
use Rattle.rules.proofs.copied.started_row.Goals as goal

pub loop-t-init : goal.loop-t-init
loop-t-init c = each_begun _ idle _

pub loop-t-preserved : goal.loop-t-preserved
loop-t-preserved c =
    elim c.if-xs-t.branch [
      | then-xs-t w ↦
          w.status-is ∙ each_again _ idle _ _ _ _ c.loop-t.invariant (omega arith) (rw (eq-eqb _ _ w.if-xs-t.true))
      | else-xs-t w ↦
          w.status-is ∙ each_passed _ idle _ _ _ c.loop-t.invariant (omega arith) (rw (ne_eqb _ _ w.if-xs-t.false))
    ]

pub returns : goal.returns
returns c =
    ap (λ (l : List ℕ). record { status = l })
    (c.loop-t.invariant ∙ row_begun _ _ c.args.n c.loop-t.t (omega arith))
