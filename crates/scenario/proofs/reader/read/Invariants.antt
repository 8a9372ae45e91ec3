-- What is left of the text takes what has been read to what the whole text gives, and a turn takes one line from what is left.
use Rattle.std.proofs.Common.{◌-◌, length}
use Rattle.scenario.proofs.Laws.{Step}
use Rattle.scenario.proofs.reader.read.Given as goal

abbrev pub invariant-loop-at : goal.invariant-loop-at
invariant-loop-at l = Step l.initial.homes l.initial.numbers l.text l.homes l.numbers l.m l.at

abbrev pub decreases-loop-at : goal.decreases-loop-at
decreases-loop-at l = length l.text - l.at
