-- The code composes what the definition composes.
use Rattle.sets.specs.Set.{all_but_in}
use Rattle.sets.proofs.all_but.Goals as goal

pub returns : goal.returns
unfolding all_but_in
returns c = rw (c.without.ensures, c.first.ensures)
