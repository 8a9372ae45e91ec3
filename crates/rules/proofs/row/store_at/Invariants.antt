-- Whenever the loop's test is reached, the first k elements are as storing leaves them.
use Rattle.std.proofs.Common.{◌≡◌, cond}
use Rattle.rules.proofs.Loops.{each_to}
use Rattle.sets.specs.Set.{has}
use Rattle.rules.proofs.row.store_at.Given as goal

abbrev pub invariant-loop-k : goal.invariant-loop-k
invariant-loop-k l = l.x-items ≡ each_to (λ j x. cond (has l.m j) l.v x) l.k l.fn.l
