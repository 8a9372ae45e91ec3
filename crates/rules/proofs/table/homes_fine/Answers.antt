use Rattle.std.proofs.Common.{nat_lt, refl, rules, tests}
use Rattle.protocol.specs.Setup.{homes_fine}
use Rattle.protocol.specs.State.{no_txn}
use Rattle.rules.proofs.Ranges.{all_in_slice}
use Rattle.rules.proofs.table.homes_fine.Goals as goal

pub returns : goal.returns
unfolding homes_fine
returns c = all_in_slice no_txn (λ x. nat_lt x.home c.args.sites) _ _ _ c.all.ensures.ran c.iter.ensures.rest refl (λ x b q k. search (rules, tests))
