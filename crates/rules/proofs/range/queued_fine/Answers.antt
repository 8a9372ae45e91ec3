use Rattle.std.proofs.Common.{refl, ◌==◌, not, ◌&&◌, ◌||◌, rules, tests}
use Rattle.sets.specs.Set.{has}
use Rattle.protocol.specs.State.{no_txn, status_in}
use Rattle.rules.proofs.Ranges.{all_in_places}
use Rattle.rules.proofs.range.queued_fine.Goals as goal

pub returns : goal.returns
returns c =
    all_in_places no_txn (λ t x. not (has c.args.q t) || (not (x.home == c.args.i) && status_in c.args.r.now t == 0)) _ _ _ c.all.ensures.ran (search rules) (search rules) refl
    (λ x b q k. search (rules, tests))
