-- What has been printed and the elements that are left are all.
use Rattle.std.proofs.Common.{◌≡◌, drop}
use Rattle.scenario.specs.Put.{printed}
use Rattle.scenario.specs.Report.{others_of}
use Rattle.scenario.proofs.printer.Printer.commas.Given as goal

abbrev pub invariant-loop-n : goal.invariant-loop-n
invariant-loop-n l = printed l.self (others_of (drop l.n-index l.others)) ≡ printed l.initial.self (others_of l.others)
