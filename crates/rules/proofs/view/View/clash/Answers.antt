use Rattle.std.proofs.Common.{rules, tests}
use Rattle.protocol.specs.Database.{clash}
use Rattle.rules.proofs.Walks.{some_found}
use Rattle.rules.proofs.view.View.clash.Goals as goal

pub returns : goal.returns
unfolding clash
returns c = some_found _ c.args.self.now.count _ c.any.ensures.ran (λ x b q k. search (rules, tests))
