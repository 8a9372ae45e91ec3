use Rattle.std.proofs.Common.{arith}
use Rattle.scenario.proofs.Laws.{begun, ended, turned, results}
use Rattle.scenario.proofs.reader.read.Goals as goal

pub loop-at-init : goal.loop-at-init
loop-at-init c = begun _ _ _ _ c.begin-m.ensures

pub loop-at-smaller : goal.loop-at-smaller
loop-at-smaller c = omega (arith, c.next_line-next.ensures.further, c.next_line-next.ensures.inside)

pub loop-at-preserved : goal.loop-at-preserved
loop-at-preserved c = turned c.loop-at.invariant c.next_line-next.ensures

pub returns : goal.returns
returns c = results (ended c.loop-at.invariant (omega arith))
