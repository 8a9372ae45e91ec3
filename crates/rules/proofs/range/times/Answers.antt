use Rattle.std.proofs.Common.{◌==◌, ◌∙◌, rules, tests}
use Rattle.std.proofs.lemmas.Iterator.{YieldsList-from_slice}
use Rattle.std.proofs.lemmas.Iterator.Consumers.{YieldsList-at, YieldsList-from_filter, count_from_yields_List}
use Rattle.rules.proofs.Ranges.{times_of_list}
use Rattle.rules.proofs.range.times.Goals as goal

pub returns : goal.returns
returns c =
    count_from_yields_List c.filter.result _ c.count.ensures.ran
    (YieldsList-from_filter _ (λ x. x == c.args.t) (YieldsList-at c.filter.ensures.source (YieldsList-from_slice _ c.iter.ensures.rest)) c.filter.ensures.closure (λ x r q k. search (rules, tests)))
    ∙ times_of_list _ _
