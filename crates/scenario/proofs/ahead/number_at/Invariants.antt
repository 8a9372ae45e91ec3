-- The decimal of v stands from `at` to i, and a turn takes one digit more or finds the byte that ends it.
use Rattle.scenario.proofs.Fronts.{Digits}
use Rattle.scenario.proofs.ahead.number_at.Given as goal

abbrev pub invariant-loop-i : goal.invariant-loop-i
invariant-loop-i l = Digits l.s l.at l.v l.i
