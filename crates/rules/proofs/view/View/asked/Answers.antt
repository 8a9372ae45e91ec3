use Rattle.std.proofs.Common.{rules, tests}
use Rattle.protocol.specs.Scan.{asked}
use Rattle.rules.proofs.Walks.{those_found}
use Rattle.rules.proofs.view.View.asked.Goals as goal

pub returns : goal.returns
unfolding asked
returns c =
    those_found _ c.args.self.now.count _ c.args.self.now.fits c.fold.ensures.ran c.filter.ensures.source c.filter.ensures.closure
    (λ x b q k. search (rules, tests)) (λ a x b q k. search (rules, tests))
