-- Each transaction has its entry, so `judged` makes of the state what setup promises.
use Rattle.std.proofs.Common.{◌∙◌, rules, tests}
use Rattle.protocol.specs.State.{empty_state, no_txn}
use Rattle.rules.proofs.Fresh.{all_entered, setup_judged}
use Rattle.rules.proofs.Loops.{each_begun, each_again, each-ended}
use Rattle.rules.proofs.setup.Goals.{in-Some, in_default}
use Rattle.rules.proofs.setup.Goals as goal

pub loop-t-init : goal.loop-t-init
loop-t-init c = each_begun _ no_txn _

pub loop-t-preserved : goal.loop-t-preserved
loop-t-preserved c =
    elim c.match-get.branch [
      | in-Some w ↦
          w.x-items-is ∙ each_again _ no_txn _ _ _ _ c.loop-t.invariant (search rules) (search (rules, tests))
      | in_default w ↦
          w.x-items-is ∙ each_again _ no_txn _ _ _ _ c.loop-t.invariant (search rules) (search (rules, tests))
    ]

pub returns : goal.returns
unfolding empty_state
returns c =
    let es = c.args.table.now in
    let all = each-ended _ no_txn _ _ _ c.loop-t.invariant (search rules) in
    c.judged.ensures ∙ rw (all, c.blank-s.ensures, all_entered es) (setup_judged c.args.sites es)
