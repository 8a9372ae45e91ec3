-- A refused run returns at once; any other performs its events.
use Rattle.std.proofs.Common.{sym}
use Rattle.laws.specs.Runs.{events-length}
use Rattle.protocol.specs.Refusals.{}
use Rattle.laws.specs.Numbers.{number_of-some}
use Rattle.protocol.specs.Run.{events_of}
use Rattle.rules.proofs.Running.{run_fine, refused, completed}
use Rattle.rules.proofs.run.Goals as goal

pub performed-requires : goal.performed-requires
performed-requires c = run_fine _ _ _ (sym c.in-Ok.ensures)

pub returns-in-Ok : goal.returns-in-Ok
returns-in-Ok c =
    completed c.args.s (events_of c.args.events.now) c.args.answers.now _ (events-length c.args.events.now) (sym c.in-Ok.ensures) _ _
    c.performed.ensures.0 c.performed.ensures.1

pub returns-in-Err : goal.returns-in-Err
returns-in-Err c =
    refused c.args.s (events_of c.args.events.now) c.args.answers.now _ (events-length c.args.events.now) _ c.in-Err.ensures
    (number_of-some c.in-Err.refusal)
