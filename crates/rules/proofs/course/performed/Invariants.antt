-- What the whole list gives is what has been done so far, followed by what the rest gives.
use Rattle.std.proofs.Common.{◌*◌, ◌≤◌}
use Rattle.protocol.specs.Run.{events_of}
use Rattle.rules.proofs.Running.{Going}
use Rattle.rules.proofs.course.performed.Given as goal

abbrev pub invariant-loop-k : goal.invariant-loop-k
invariant-loop-k l =
    record { few : l.sent ≤ 1056 * l.k; going : Going l.initial.state (events_of l.events) l.initial.answers l.k l.state l.sent l.answers }
