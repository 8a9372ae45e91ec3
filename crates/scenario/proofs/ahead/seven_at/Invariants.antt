-- A line stands from `at` to `next` whose values are the first k, and a turn reads the value up to the next comma.
use Rattle.scenario.proofs.Fronts.{Begun}
use Rattle.scenario.proofs.ahead.seven_at.Given as goal

abbrev pub invariant-loop-k : goal.invariant-loop-k
invariant-loop-k l = Begun l.s l.at l.values l.k l.next
