-- The key, the decimal and the line feed are printed one after the other, as the line is defined.
use Rattle.std.proofs.Common.{rules}
use Rattle.scenario.proofs.Writing.{printed-both}
use Rattle.scenario.specs.Report.{line_of}
use Rattle.scenario.proofs.printer.Printer.line.Goals as goal

pub returns : goal.returns
unfolding line_of
returns c = search (rules, printed-both)
