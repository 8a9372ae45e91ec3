-- The ready messages about the transactions before t have gone out.
use Rattle.std.proofs.Common.{◌≡◌}
use Rattle.rules.proofs.Sent.{readied_to}
use Rattle.rules.proofs.channel.ready_home.Given as goal

abbrev pub invariant-loop-t : goal.invariant-loop-t
invariant-loop-t l = l.ps ≡ readied_to l.i l.xs l.ts l.t l.initial.ps
