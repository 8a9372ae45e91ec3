-- Fewer have been counted, and fewer differ, than the next argument's place.
use Rattle.std.proofs.Common.{◌<◌}
use Rattle.regress.proofs.main.Given as goal

abbrev pub invariant-loop-i : goal.invariant-loop-i
invariant-loop-i l = record { counted : l.count < l.i; differing : l.differ < l.i }
