-- The union is the bitwise or, which the code computes.
use Rattle.std.proofs.Common.{refl}
use Rattle.sets.specs.Set.{union}
use Rattle.sets.proofs.union.Goals as goal

pub returns : goal.returns
unfolding union
returns c = refl
