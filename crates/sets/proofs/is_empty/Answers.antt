-- The empty set is the mask 0, and the code tests for that.
use Rattle.std.proofs.Common.{refl}
use Rattle.sets.specs.Set.{is_empty}
use Rattle.sets.proofs.is_empty.Goals as goal

pub returns : goal.returns
unfolding is_empty
returns c = refl
