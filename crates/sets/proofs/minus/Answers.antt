-- To keep the digits of a that b does not have is to take away those that both have.
use Rattle.sets.specs.Digits.{and-not}
use Rattle.sets.proofs.minus.Goals as goal

pub returns : goal.returns
returns c = and-not 32 _ _ c.ranges.a.fits c.ranges.b.fits
