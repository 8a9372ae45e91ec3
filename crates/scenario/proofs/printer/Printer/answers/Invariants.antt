-- What has been printed and the answers that are left are all.
use Rattle.std.proofs.Common.{◌≡◌, drop}
use Rattle.scenario.specs.Put.{printed}
use Rattle.scenario.specs.Report.{answer_lines}
use Rattle.scenario.proofs.printer.Printer.answers.Given as goal

abbrev pub invariant-loop-a : goal.invariant-loop-a
invariant-loop-a l = printed l.self (answer_lines (drop l.a-index l.l)) ≡ printed l.initial.self (answer_lines l.l)
