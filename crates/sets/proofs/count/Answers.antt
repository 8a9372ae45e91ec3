-- The machine counts the digits that are set, and these are the numbers in the set.
use Rattle.std.proofs.Common.{sym}
use Rattle.sets.specs.Laws.{size_by}
use Rattle.sets.proofs.count.Goals as goal

pub returns : goal.returns
returns c = sym (size_by 32 c.args.m c.ranges.m.fits)
