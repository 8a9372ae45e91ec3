-- Figure 2 over the database of 01: when each of the twelve actions is enabled (pre), and what it then does (eff), in
-- the order of 01's table of actions.
use Rattle.std.specs.Prelude.{ℕ, Bool, true, not, cond, ◌&&◌, ◌||◌, ◌==◌}
use Rattle.sets.specs.Set.{none, is_empty, with, without, size}
use Rattle.protocol.specs.State.{idle, start, active, blocked, precommit, committed, aborted, status_at, at_home, row_at, place_at, txn_at, with_status, with_place, with_txn, with_queue, with_pending, with_missing}
use Rattle.protocol.specs.Database.{clash, ended, woken, commit_here}
use Rattle.protocol.specs.Channel.{lies, received, others, multicast}
use Rattle.protocol.specs.Scan.{scan}
use Rattle.protocol.specs.declared.Message.{Message}
use Rattle.protocol.specs.declared.Message.TheVariants.{Remote, Ready, Commit, Abort}
use Rattle.protocol.specs.declared.Action.{Action}
use Rattle.protocol.specs.declared.Action.TheVariants.{Create, BeginOperation, EndOperation, BeginCommit, EndCommit, LocalAbort, Receive, ExecuteRemote, Discard}
use Rattle.protocol.specs.declared.Done.{Done}
use Rattle.protocol.specs.declared.State.{State}

-- the figure's words, of transaction t at site i
abbrev pub is : State → ℕ → ℕ → ℕ → Bool
is s i t v = status_at s i t == v

abbrev pub away : State → ℕ → ℕ → Bool
away s i t = not (at_home s i t)

-- Figure 2: m ∈ channel
abbrev pub in_channel : Message → State → ℕ → ℕ → Bool
in_channel m s i t = lies m t (place_at s i).channel

-- the lock clash of the pending operation of t at site i
abbrev pub clash_at : State → ℕ → ℕ → Bool
clash_at s i t = clash s.count s.txns i (row_at s i) t

-- pre: the action is enabled at site i for transaction t
unfoldable pub enabled : Action → State → ℕ → ℕ → Bool
enabled Create s i t = at_home s i t && is s i t start
enabled (BeginOperation r w) s i t = at_home s i t && is s i t active
enabled EndOperation s i t = is s i t blocked && not (at_home s i t && clash_at s i t)
enabled BeginCommit s i t = at_home s i t && is s i t active
enabled EndCommit s i t = at_home s i t && (is s i t precommit && is_empty (txn_at s t).missing)
enabled LocalAbort s i t = at_home s i t && is s i t blocked
enabled (Receive Remote) s i t = away s i t && (is s i t idle && in_channel Remote s i t)
enabled (Receive (Ready k)) s i t =
    at_home s i t && (is s i t precommit && (not (is_empty (txn_at s t).missing) && in_channel (Ready k) s i t))
enabled (Receive Commit) s i t = away s i t && (is s i t precommit && in_channel Commit s i t)
enabled (Receive Abort) s i t =
    away s i t && (not (is s i t committed || is s i t aborted) && in_channel Abort s i t)
enabled ExecuteRemote s i t = not (is_empty (place_at s i).queue) && (place_at s i).remove
enabled (Discard m) s i t = is s i t aborted && in_channel m s i t

-- an effect that sends nothing, and one that sends n messages
abbrev pub silent : State → Done
silent s = record { state = s; sent = 0 }

abbrev pub sending : ℕ → State → Done
sending n s = record { state = s; sent = n }

-- the set of t alone
abbrev pub only : ℕ → ℕ
only t = with none t

-- eff: what the action does at site i to transaction t
unfoldable pub effect : Action → State → ℕ → ℕ → Done
effect Create s i t = silent (with_status s i t active)
effect (BeginOperation r w) s i t = silent (with_status (with_txn s t (with_pending (txn_at s t) r w)) i t blocked)
effect EndOperation s i t =
    silent
    (cond (at_home s i t) (with_status (with_txn s t (ended (txn_at s t) (place_at s i))) i t active)
    (with_status s i t precommit))
effect BeginCommit s i t =
    sending (size (others s i))
    (multicast Remote i (only t) (with_txn (with_status s i t precommit) t (with_missing (txn_at s t) (others s i))))
effect EndCommit s i t =
    sending (size (others s i)) (multicast Commit i (only t) (commit_here s i t (place_at s i)))
effect LocalAbort s i t =
    silent (with_place (with_status s i t aborted) i (with_queue (place_at s i) (place_at s i).queue true))
effect (Receive Remote) s i t =
    silent (with_place s i (with_queue (received Remote t (place_at s i)) (with (place_at s i).queue t) true))
effect (Receive (Ready k)) s i t =
    silent
    (with_txn (with_place s i (received (Ready k) t (place_at s i))) t
    (with_missing (txn_at s t) (without (txn_at s t).missing k)))
effect (Receive Commit) s i t = silent (commit_here s i t (received Commit t (place_at s i)))
effect (Receive Abort) s i t =
    silent
    (with_place (with_status s i t aborted) i
    (woken
    (with_queue (received Abort t (place_at s i)) (without (place_at s i).queue t) (place_at s i).remove)))
effect ExecuteRemote s i t = scan s i
effect (Discard m) s i t = silent (with_place s i (received m t (place_at s i)))
