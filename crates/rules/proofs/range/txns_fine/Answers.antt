use Rattle.std.proofs.Common.{refl, length, rules, tests}
use Rattle.protocol.specs.Range.{txn_fine}
use Rattle.protocol.specs.State.{no_txn}
use Rattle.rules.proofs.Ranges.{all_in_slice}
use Rattle.rules.proofs.range.txns_fine.Goals as goal

pub returns : goal.returns
returns c =
    all_in_slice no_txn (λ x. txn_fine c.args.sites (length c.args.xs.now) x) _ _ _ c.all.ensures.ran c.iter.ensures.rest refl
    (λ x b q k. search (rules, tests))
