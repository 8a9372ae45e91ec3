-- Two sets overlap where their bitwise and is not 0, which the code tests.
use Rattle.std.proofs.Common.{refl}
use Rattle.sets.specs.Set.{overlap}
use Rattle.sets.proofs.overlap.Goals as goal

pub returns : goal.returns
unfolding overlap
returns c = refl
