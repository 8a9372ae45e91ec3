-- The setup is refused, or there are too many events, or the run is reported from a state in range.
use Rattle.std.proofs.Common.{◌*◌, ap, ◌∙◌, arith, length-take}
use Rattle.scenario.proofs.Rehearsed.{setup-refused, too_many, runs, begun}
use Rattle.scenario.specs.Put.{printed}
use Rattle.scenario.proofs.rehearsal.print_outcome.Goals as goal

pub returns-in-Err : goal.returns-in-Err
returns-in-Err c =
    c.refused_setup.ensures
    ∙ ap (printed c.args.p.now)
    (setup-refused c.args.m c.args.homes.now c.args.numbers.now c.entries_of.ensures c.setup_of-b.ensures _ c.in-Err.is)

pub returns-in-Ok : goal.returns-in-Ok
returns-in-Ok c =
    c.refused_setup-in-Ok.ensures
    ∙ ap (printed c.args.p.now)
    (too_many c.args.m c.args.homes.now c.args.numbers.now c.entries_of.ensures c.setup_of-b.ensures c.in-Ok.is
    c.if-m-gt-MAX_EVENTS.true)

pub print_run-requires : goal.print_run-requires
print_run-requires c =
    let fine = begun c.args.m c.args.homes.now c.args.numbers.now c.entries_of.ensures c.setup_of-b.ensures c.in-Ok-2.is in
    (fine.0, fine.1, omega (arith, length-take (7 * c.args.m.events) c.args.numbers.now))

pub returns-in-Ok-2 : goal.returns-in-Ok-2
returns-in-Ok-2 c =
    c.print_run.ensures
    ∙ ap (printed c.args.p.now)
    (runs c.args.m c.args.homes.now c.args.numbers.now c.entries_of.ensures c.setup_of-b.ensures c.in-Ok-2.is
    (omega arith))
