-- The mask of k alone is 1 shifted by k, which fits where k is below the width; a k past it adds nothing.
use Rattle.std.proofs.Common.{lt-ltb, le-ltb}
use Rattle.sets.specs.Digits.{shl_one}
use Rattle.sets.specs.Set.{with_in}
use Rattle.sets.proofs.with.Goals as goal

pub returns-then-k-lt32 : goal.returns-then-k-lt32
unfolding with_in
returns-then-k-lt32 c = rw (shl_one 32 c.args.k c.if-k-lt32.true, lt-ltb c.args.k 32 c.if-k-lt32.true)

pub returns-else-k-lt32 : goal.returns-else-k-lt32
unfolding with_in
returns-else-k-lt32 c = rw (le-ltb c.args.k 32 c.if-k-lt32.false)
