use Rattle.std.proofs.Common.{arith}
use Rattle.protocol.specs.Range.{table_fine, in_range}
use Rattle.rules.proofs.range.in_range.Goals as goal

pub returns-then-not-sites_fine : goal.returns-then-not-sites_fine
unfolding table_fine in_range
returns-then-not-sites_fine c = grind arith
