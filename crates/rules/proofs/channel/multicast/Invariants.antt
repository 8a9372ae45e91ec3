-- The sites before j have what the definition puts there.
use Rattle.std.proofs.Common.{◌≡◌, cond}
use Rattle.protocol.specs.Channel.{put}
use Rattle.protocol.specs.State.{with_channel}
use Rattle.sets.specs.Set.{has, none}
use Rattle.rules.proofs.Loops.{each_to}
use Rattle.rules.proofs.channel.multicast.Given as goal

abbrev pub invariant-loop-j : goal.invariant-loop-j
invariant-loop-j l = l.ps ≡ each_to (λ j p. with_channel p (put l.m (cond (has l.sites j) l.ts none) p.channel)) l.j l.initial.ps
