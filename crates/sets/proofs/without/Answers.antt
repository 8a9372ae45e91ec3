-- The mask of k alone is 1 shifted by k, and taking it away takes k out; a k past the width is not in.
use Rattle.std.proofs.Common.{sym, ap, ◌∙◌}
use Rattle.sets.specs.Digits.{shl_one}
use Rattle.sets.specs.Laws.{without_past}
use Rattle.sets.specs.Set.{minus, without}
use Rattle.sets.proofs.without.Goals as goal

pub returns-then-k-lt32 : goal.returns-then-k-lt32
unfolding without
returns-then-k-lt32 c = c.minus.ensures ∙ ap (minus c.args.m) (shl_one 32 _ c.if-k-lt32.true)

pub returns-else-k-lt32 : goal.returns-else-k-lt32
returns-else-k-lt32 c = sym (without_past 32 _ _ c.ranges.m.fits c.if-k-lt32.false)
