use Rattle.std.proofs.Common.{refl, sym, ◌∙◌, arith, ne_eqb}
use Rattle.protocol.specs.Channel.{homed_at}
use Rattle.protocol.specs.State.{txn_in}
use Rattle.rules.proofs.Loops.{ended}
use Rattle.rules.proofs.Sent.{readied_to, readied_begun, readied_passed, readied_turned}
use Rattle.rules.proofs.channel.ready_home.Goals.{then-has+then-j-lt-SITES, else-has, else-has-via-then-has+else-j-lt-SITES, else-has-via-else-has}
use Rattle.rules.proofs.channel.ready_home.Goals as goal

pub loop-t-init : goal.loop-t-init
loop-t-init c = readied_begun _ _ _ _

pub loop-t-preserved : goal.loop-t-preserved
loop-t-preserved c =
    let turn = c.loop-t in
    let h = sym c.has.ensures in
    elim c.if-has.branch [
      | then-has+then-j-lt-SITES w ↦
          w.ps-is
          ∙ readied_turned _ _ _ turn.t turn.ps _ turn.invariant _ refl (omega (arith, w.if-j-lt-SITES.true)) (omega arith)
          (h ∙ w.if-has.true) _ (rw w.with.ensures)
      | else-has w ↦
          w.ps-is
          ∙ elim w.else-has.branch [
            | else-has-via-then-has+else-j-lt-SITES v ↦
                readied_passed _ _ _ turn.t turn.ps _ turn.invariant
                (λ j g. rw (h ∙ v.if-has.true, ne_eqb (txn_in c.args.xs.now turn.t).home j (λ z. omega (arith, v.if-j-lt-SITES.false, g, z))))
            | else-has-via-else-has v ↦
                readied_passed _ _ _ turn.t turn.ps _ turn.invariant (λ j g. rw (h ∙ v.if-has.false))
          ]
    ]

pub returns : goal.returns
unfolding homed_at
returns c =
    ended (λ k. readied_to c.args.i c.args.xs.now c.args.ts k c.args.ps.now) c.loop-t.ps c.loop-t.t 32
    (omega arith) (omega arith) c.loop-t.invariant
