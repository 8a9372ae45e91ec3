-- The key, the decimals and the line feed are printed one after the other, as the line is defined.
use Rattle.std.proofs.Common.{rules}
use Rattle.std.proofs.lemmas.List.{take_min}
use Rattle.scenario.proofs.Writing.{printed-both}
use Rattle.scenario.specs.Report.{list_of}
use Rattle.scenario.proofs.printer.Printer.list.Goals as goal

pub returns : goal.returns
unfolding list_of
returns c = search (rules, printed-both, take_min)
