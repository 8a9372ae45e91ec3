-- The transactions before t are begun where their home is i.
use Rattle.std.proofs.Common.{◌≡◌}
use Rattle.protocol.specs.State.{txn_in}
use Rattle.rules.proofs.Fresh.{row_to}
use Rattle.rules.proofs.copied.started_row.Given as goal

abbrev pub invariant-loop-t : goal.invariant-loop-t
invariant-loop-t l = l.status ≡ row_to (λ u. (txn_in l.fn.xs u).home) l.fn.i l.t
