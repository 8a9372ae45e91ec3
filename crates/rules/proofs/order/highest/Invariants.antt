-- So far it is the highest of those below u, and a turn chooses between it and u by the definition's test.
use Rattle.std.proofs.Common.{◌<◌, ◌≡◌}
use Rattle.std.specs.Option.{unwrap_or, IfSome}
use Rattle.protocol.specs.Order.{highest_below}
use Rattle.rules.proofs.order.highest.Given as goal

abbrev pub invariant-loop-u : goal.invariant-loop-u
invariant-loop-u l = IfSome l.best (λ t. t < 32) × (unwrap_or l.best 32 ≡ highest_below l.u-counter l.xs l.q)
