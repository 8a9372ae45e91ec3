-- The answers, the sites and the messages are printed one after the other.
use Rattle.std.proofs.Common.{rules}
use Rattle.scenario.proofs.Writing.{printed-both}
use Rattle.scenario.specs.Put.{end_lines}
use Rattle.text.specs.Written.{bytes}
use Rattle.scenario.proofs.printer.Printer.run.Goals as goal

pub returns : goal.returns
unfolding bytes end_lines
returns c = search (rules, printed-both)
