-- The first values are the first parts, and the library gives the others.
use Rattle.text.proofs.Steps.{Values}
use Rattle.text.proofs.seven.Given as goal

abbrev pub invariant-loop-v : goal.invariant-loop-v
invariant-loop-v l = record {
  callable : (goal.iterator-loop-v).can_next l.parts;
  finite : (goal.iterator-loop-v).is_finite l.parts;
  values : Values (goal.iterator-loop-v).next_gives (λ x. x.now) l.s l.v-items l.v-index l.parts;
}
