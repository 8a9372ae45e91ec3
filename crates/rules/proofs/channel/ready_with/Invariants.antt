-- The lists of senders before t have the new sender as the definition has it.
use Rattle.std.proofs.Common.{◌≡◌, cond}
use Rattle.sets.specs.Set.{has, with}
use Rattle.rules.proofs.Loops.{each_to}
use Rattle.rules.proofs.channel.ready_with.Given as goal

abbrev pub invariant-loop-t : goal.invariant-loop-t
invariant-loop-t l = l.ready ≡ each_to (λ t from. cond (has l.ts t) (with from l.k) from) l.t l.initial.ready
