use Rattle.std.proofs.Common.{rules, tests}
use Rattle.protocol.specs.Range.{within, senders}
use Rattle.rules.proofs.Ranges.{all_in_places}
use Rattle.rules.proofs.range.ready_fine.Goals as goal

pub returns : goal.returns
returns c =
    all_in_places 0 (λ t m. within (senders c.args.sites c.args.n t) m) _ _ _ c.all.ensures.ran (search rules) (search rules) (search rules)
    (λ x b q k. search (rules, tests))
