-- The measure is the size of the rest, which falls by one.
use Rattle.sets.specs.Set.{size}
use Rattle.rules.proofs.view.View.+scan_all.Given as goal

abbrev pub decreases-scan_all : goal.decreases-scan_all
decreases-scan_all l = size l.c.rest
