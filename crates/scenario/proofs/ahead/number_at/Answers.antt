use Rattle.std.proofs.Common.{sym, arith}
use Rattle.scenario.proofs.Fronts.{digit-first, digit-next}
use Rattle.scenario.proofs.ahead.number_at.Goals as goal

pub loop-i-init : goal.loop-i-init
loop-i-init c = let l = c.in_ok-get.ensures.lookup.3 in digit-first _ _ _ _ l.0 (sym (l.1 0)) c.in_ok-v.ensures

pub loop-i-preserved : goal.loop-i-preserved
loop-i-preserved c = digit-next c.loop-i.invariant (omega arith) _ (omega arith) c.in_ok-v-2.ensures
