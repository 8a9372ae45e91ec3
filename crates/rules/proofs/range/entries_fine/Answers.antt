use Rattle.std.proofs.Common.{nat_lt, ◌∙◌, rules, tests}
use Rattle.std.proofs.lemmas.Iterator.{YieldsList-from_slice}
use Rattle.std.proofs.lemmas.Iterator.Search.{all_from_yields_List}
use Rattle.rules.proofs.Ranges.{all_of_list}
use Rattle.rules.proofs.range.entries_fine.Goals as goal

pub returns : goal.returns
returns c =
    all_from_yields_List (λ t. nat_lt t c.args.n) _ _ _ c.all.ensures.ran (YieldsList-from_slice _ c.iter.ensures.rest) (λ x b q k. search (rules, tests))
    ∙ all_of_list _ _
