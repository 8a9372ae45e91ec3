-- The numbers are stored one after the other, and the places of an event that is not below the length are past the end.
use Rattle.std.proofs.Common.{◌≡◌, length, refl, sym, ◌∙◌, arith, rules, take_all}
use Rattle.scenario.specs.Format.{kept_all}
use Rattle.scenario.proofs.Laws.{sets_more, sets_out}
use Rattle.scenario.proofs.reader.keep_event.Goals as goal

pub loop-k-init : goal.loop-k-init
loop-k-init c = refl

pub loop-k-preserved : goal.loop-k-preserved
loop-k-preserved c =
    let n : length c.in-Some.v ≡ 7 = search rules in
    c.put.ensures ∙ rw c.loop-k.invariant (sets_more c.in-Some.v c.args.numbers.now _ c.loop-k.k (omega arith))

pub returns-after-loop-k : goal.returns-after-loop-k
unfolding kept_all
returns-after-loop-k c =
    let n : length c.in-Some.v ≡ 7 = search rules in
    c.loop-k.invariant ∙ rw (c.in-Some.is, take_all c.loop-k.k c.in-Some.v (omega arith))

pub returns-else-done-numbers : goal.returns-else-done-numbers
unfolding kept_all
returns-else-done-numbers c =
    rw c.in-Some.is (sym (sets_out c.in-Some.v c.args.numbers.now _ (omega (arith, c.if-done-numbers.false))))
