use Rattle.std.proofs.Common.{refl, arith}
use Rattle.scenario.proofs.Fronts.{line_begun, begun_more, begun_all}
use Rattle.scenario.proofs.ahead.seven_at.Goals as goal

pub loop-k-init : goal.loop-k-init
loop-k-init c = line_begun _ _ _ refl

pub loop-k-preserved : goal.loop-k-preserved
loop-k-preserved c = begun_more c.loop-k.invariant _ c.in_ok-f.ensures (omega arith)

pub returns : goal.returns
returns c = begun_all c.loop-k.invariant _ c.in_ok-f-2.ensures (omega arith)
