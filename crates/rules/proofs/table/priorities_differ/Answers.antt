-- Of each transaction the code asks whether an earlier one has its priority.
use Rattle.std.proofs.Common.{refl, ◌∙◌, ◌==◌, not, take, arith, rules, tests}
use Rattle.std.specs.List.{list_all}
use Rattle.protocol.specs.Setup.{priorities_differ}
use Rattle.protocol.specs.State.{no_txn}
use Rattle.laws.specs.Lists.{all_same}
use Rattle.rules.proofs.Ranges.{all_in_places, first_pass}
use Rattle.rules.proofs.table.priorities_differ.Goals as goal

pub returns : goal.returns
unfolding priorities_differ
returns c =
    let xs = c.args.xs.now in
    all_in_places no_txn (λ t x. list_all (λ y. not (y.priority == x.priority)) (take t xs)) _ _ _ c.all.ensures.ran (search rules) (search rules) refl
    (λ x b q k. search (rules, tests))
    ∙ all_same _ _ _ (λ t h. first_pass no_txn _ _ t xs (omega (arith, h)) (λ u g. refl))
