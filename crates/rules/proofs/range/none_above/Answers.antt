use Rattle.std.proofs.Common.{nat_le, rules, tests}
use Rattle.rules.proofs.Ranges.{all_in_slice}
use Rattle.rules.proofs.range.none_above.Goals as goal

pub returns : goal.returns
returns c = all_in_slice 0 (λ v. nat_le v c.args.top) _ _ _ c.all.ensures.ran c.iter.ensures.rest (search rules) (λ x b q k. search (rules, tests))
