use Rattle.std.proofs.Common.{rules, tests}
use Rattle.protocol.specs.Scan.{must_wait}
use Rattle.rules.proofs.Walks.{some_found}
use Rattle.rules.proofs.view.View.must_wait.Goals as goal

pub returns : goal.returns
unfolding must_wait
returns c = some_found _ c.args.self.now.count _ c.any.ensures.ran (λ x b q k. search (rules, tests))
