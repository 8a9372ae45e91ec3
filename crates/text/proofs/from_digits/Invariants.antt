-- The number so far goes on with the rest to what the whole gives.
use Rattle.text.proofs.Steps.{Read}
use Rattle.text.proofs.from_digits.Given as goal

abbrev pub invariant-loop-b : goal.invariant-loop-b
invariant-loop-b l = Read l.s l.v l.b-index
