-- The transactions before t have their entries.
use Rattle.std.proofs.Common.{◌≡◌}
use Rattle.rules.proofs.Fresh.{entered}
use Rattle.rules.proofs.Loops.{each_to}
use Rattle.rules.proofs.setup.Given as goal

abbrev pub invariant-loop-t : goal.invariant-loop-t
invariant-loop-t l = l.x-items ≡ each_to (entered l.fn.table) l.t l.initial.x-items
