-- A digit alone is its decimal.
use Rattle.std.proofs.Common.{ap, ◌∙◌}
use Rattle.scenario.specs.Put.{printed}
use Rattle.scenario.proofs.Writing.{one_digit}
use Rattle.scenario.proofs.printer.Printer.number.Goals as goal

pub returns-then-n-lt10 : goal.returns-then-n-lt10
returns-then-n-lt10 c = c.byte.ensures ∙ ap (printed c.args.self.now) (one_digit c.args.n c.if-n-lt10.true)
