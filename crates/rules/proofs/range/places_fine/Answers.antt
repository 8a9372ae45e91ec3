use Rattle.std.proofs.Common.{rules, tests}
use Rattle.rules.proofs.Ranges.{all_in_range}
use Rattle.rules.proofs.range.places_fine.Goals as goal

pub returns : goal.returns
returns c = all_in_range _ _ _ _ c.all.ensures.ran (λ x b q k. search (rules, tests))
