-- The two lines are printed one after the other.
use Rattle.std.proofs.Common.{rules}
use Rattle.scenario.proofs.Writing.{printed-both}
use Rattle.scenario.specs.Put.{site_of}
use Rattle.text.specs.Written.{bytes}
use Rattle.scenario.proofs.printer.Printer.site.Goals as goal

pub returns : goal.returns
unfolding bytes site_of
returns c = search (rules, printed-both)
