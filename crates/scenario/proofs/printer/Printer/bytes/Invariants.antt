-- What has been printed and the bytes that are left are all.
use Rattle.std.proofs.Common.{◌≡◌, drop}
use Rattle.scenario.specs.Put.{printed}
use Rattle.scenario.proofs.printer.Printer.bytes.Given as goal

abbrev pub invariant-loop-b : goal.invariant-loop-b
invariant-loop-b l = printed l.self (drop l.b-index l.s) ≡ printed l.initial.self l.s
