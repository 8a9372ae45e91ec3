-- The objects before o are noted as the definition has it.
use Rattle.std.proofs.Common.{◌≡◌, ◌+◌, cond, slice_index_or}
use Rattle.sets.specs.Set.{has}
use Rattle.rules.proofs.Loops.{each_to}
use Rattle.rules.proofs.database.noted.Given as goal

abbrev pub invariant-loop-o : goal.invariant-loop-o
invariant-loop-o l =
    l.v-items ≡ each_to (λ o v. cond (has l.first o) (slice_index_or l.p.versions o 0 + 1) v) l.o l.initial.v-items
