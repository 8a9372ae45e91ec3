-- The library's text of the number is its decimal.
use Rattle.std.proofs.Common.{rules}
use Rattle.scenario.proofs.Writing.{decimal_digits}
use Rattle.scenario.proofs.printer.Printer.long_number.Goals as goal

pub returns : goal.returns
returns c = search (rules, decimal_digits)
