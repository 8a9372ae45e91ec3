-- The run is not refused, its answers are the first of the places for answers, and its last state is one of a report.
use Rattle.std.proofs.Common.{ap, arith}
use Rattle.scenario.proofs.Rehearsed.{ends_fit, lines, sent_or_none}
use Rattle.scenario.specs.Put.{printed}
use Rattle.scenario.proofs.rehearsal.print_run.Goals as goal

pub run-requires : goal.run-requires
run-requires c =
    let asked = c.requires in
    (ends_fit c.args.s c.args.numbers.now asked.0 asked.1 asked.2 _ _ _ c.run-r.ensures.1 c.run-r.ensures.0 (omega arith)).0

pub returns : goal.returns
returns c =
    let asked = c.requires in
    rw (c.run.ensures, c.unwrap_or.ensures, sent_or_none c.run-r.result.outcome)
    (ap (printed c.args.p.now)
    (lines c.args.s c.args.numbers.now asked.0 asked.1 asked.2 _ _ _ c.run-r.ensures.1 c.run-r.ensures.0 (omega arith)))
