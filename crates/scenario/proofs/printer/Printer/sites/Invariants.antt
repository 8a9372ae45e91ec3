-- What has been printed and the sites that are left are all.
use Rattle.std.proofs.Common.{◌≡◌, ◌-◌, length}
use Rattle.scenario.specs.Put.{printed}
use Rattle.scenario.specs.Report.{site_lines}
use Rattle.scenario.proofs.printer.Printer.sites.Given as goal

abbrev pub invariant-loop-row : goal.invariant-loop-row
invariant-loop-row l =
    printed l.self (site_lines (l.n - length l.yielded) (length l.yielded) l.s) ≡ printed l.initial.self (site_lines l.n 0 l.s)
