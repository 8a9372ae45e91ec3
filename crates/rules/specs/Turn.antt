-- An event by the parts of the state that it reads and changes: the statuses at its site, what else belongs to the site,
-- its transaction, and the messages that it sends. The table of transactions is read by a lock clash and by a scan alone.
-- That the parts, put back, make the state that document 01 has is shown beside the proofs.
use Rattle.std.specs.Prelude.{ℕ, ◌+◌, ◌*◌, ◌<◌, false, true, cond, ◌&&◌, List, Result, Ok, Err, ◌==◌, nat_lt}
use Rattle.sets.specs.Set.{none, with, without, size}
use Rattle.protocol.specs.State.{active, blocked, precommit, committed, aborted, row_at, place_at, txn_at, version_in, row_with, with_row, with_place, with_txn, with_queue, with_pending, with_missing}
use Rattle.protocol.specs.Database.{clash, ended, woken, stored}
use Rattle.protocol.specs.Channel.{received, multicast, ready_home}
use Rattle.protocol.specs.Scan.{scan_all}
use Rattle.protocol.specs.Figure.{only}
use Rattle.protocol.specs.Answer.{no_action, action_of}
use Rattle.protocol.specs.Refusals.{number_of}
use Rattle.protocol.specs.declared.Refusal.{Refusal}
use Rattle.protocol.specs.declared.Message.{Message}
use Rattle.protocol.specs.declared.Message.TheVariants.{Remote, Ready, Commit, Abort}
use Rattle.protocol.specs.declared.Action.{Action}
use Rattle.protocol.specs.declared.Action.TheVariants.{Create, BeginOperation, EndOperation, BeginCommit, EndCommit, LocalAbort, Receive, ExecuteRemote, Discard}
use Rattle.protocol.specs.declared.Place.{Place}
use Rattle.protocol.specs.declared.Txn.{Txn}
use Rattle.protocol.specs.declared.Scan.{Scan}
use Rattle.protocol.specs.declared.Event.{Event}
use Rattle.protocol.specs.declared.State.{State}
use Rattle.rules.specs.declared.Here.{Here}
use Rattle.rules.specs.declared.Told.{Told}
use Rattle.rules.specs.declared.Turn.{Turn}
use Rattle.rules.specs.Refusal.{misplaced_by, refusal_of}

-- what stands at site i, and transaction t
abbrev pub here_at : State → ℕ → ℕ → Here
here_at s i t = record { row = row_at s i; place = place_at s i; txn = txn_at s t }

-- and put back
abbrev pub with_here : State → ℕ → ℕ → Here → State
with_here s i t h = with_txn (with_place (with_row s i h.row) i h.place) t h.txn

-- the messages of a turn at site i: m about each of ts to all other sites, ready about each of rs to its home
unfoldable pub posted : ℕ → Message → ℕ → ℕ → State → State
posted i m ts rs s = ready_home i rs (multicast m i ts s)

-- the state after a turn at site i of transaction t
abbrev pub after_turn : State → ℕ → ℕ → Turn → State
after_turn s i t d = posted i d.message d.about d.readies (with_here s i t d.here)

-- where a number n of things has no k, the first stands in for it
abbrev pub index_of : ℕ → ℕ → ℕ
index_of k n = cond (nat_lt k n) k 0

-- with the status v for t, with another place, with another transaction
abbrev pub here_status : Here → ℕ → ℕ → Here
here_status h t v = record { row = row_with h.row t v; place = h.place; txn = h.txn }

abbrev pub here_place : Here → Place → Here
here_place h p = record { row = h.row; place = p; txn = h.txn }

abbrev pub here_txn : Here → Txn → Here
here_txn h x = record { row = h.row; place = h.place; txn = x }

-- a turn that sends nothing
abbrev pub quiet : Here → Turn
quiet h = record { sent = 0; here = h; message = Remote; about = none; readies = none }

-- a turn that sends m about t to the sites `to`
abbrev pub telling : Message → ℕ → ℕ → Here → Turn
telling m to t h =
    record { sent = size to; here = h; message = m; about = only t; readies = none }

-- a scan as it begins, and what it leaves, where `to` is the set of all other sites
abbrev pub scan_of : Here → Scan
scan_of h = record { rest = h.place.queue; row = h.row; waiting = none; aborts = none; readies = none }

abbrev pub scan_turn : Here → ℕ → Scan → Turn
scan_turn h to c = record {
  sent = size c.aborts * size to + size c.readies;
  here = record { row = c.row; place = with_queue h.place c.waiting false; txn = h.txn };
  message = Abort;
  about = c.aborts;
  readies = c.readies;
}

-- what each action does to transaction t, where `to` is the set of all other sites: the pending sets are the event's ..
abbrev pub begins_operation : Here → ℕ → ℕ → ℕ → Turn
begins_operation h t r w = quiet (here_txn (here_status h t blocked) (with_pending h.txn r w))

-- .. at home, which is site i, they are taken in ..
abbrev pub ends_operation : Here → ℕ → ℕ → Turn
ends_operation h i t =
    quiet
    (cond (h.txn.home == i) (here_txn (here_status h t active) (ended h.txn h.place))
    (here_status h t precommit))

-- .. remote, and later commit, go to all other sites ..
abbrev pub begins_commit : Here → ℕ → ℕ → Turn
begins_commit h to t = telling Remote to t (here_txn (here_status h t precommit) (with_missing h.txn to))

abbrev pub ends_commit : Here → ℕ → ℕ → Turn
ends_commit h to t =
    telling Commit to t (here_place (here_status h t committed) (stored h.place t h.txn.writes))

-- .. it is aborted at home ..
abbrev pub aborts_here : Here → ℕ → Turn
aborts_here h t = quiet (here_place (here_status h t aborted) (with_queue h.place h.place.queue true))

-- .. a message about it is received ..
abbrev pub receives : Message → Here → ℕ → Turn
receives Remote h t =
    quiet (here_place h (with_queue (received Remote t h.place) (with h.place.queue t) true))
receives (Ready k) h t =
    quiet
    (here_txn (here_place h (received (Ready k) t h.place)) (with_missing h.txn (without h.txn.missing k)))
receives Commit h t =
    quiet
    (here_place (here_status h t committed) (stored (received Commit t h.place) t h.txn.writes))
receives Abort h t =
    quiet
    (here_place (here_status h t aborted)
    (woken
    (with_queue (received Abort t h.place) (without h.place.queue t) h.place.remove)))

-- .. and a message about it is discarded
abbrev pub discards : Message → Here → ℕ → Turn
discards m h t = quiet (here_place h (received m t h.place))

-- what the action does at site i to transaction t, where c is the scan of the site as it ends
abbrev pub turn_by : Action → Here → ℕ → Scan → ℕ → ℕ → Turn
turn_by Create h to c i t = quiet (here_status h t active)
turn_by (BeginOperation r w) h to c i t = begins_operation h t r w
turn_by EndOperation h to c i t = ends_operation h i t
turn_by BeginCommit h to c i t = begins_commit h to t
turn_by EndCommit h to c i t = ends_commit h to t
turn_by LocalAbort h to c i t = aborts_here h t
turn_by (Receive m) h to c i t = receives m h t
turn_by ExecuteRemote h to c i t = scan_turn h to c
turn_by (Discard m) h to c i t = discards m h t

-- what the n transactions xs of the table tell an event at site i of transaction t
unfoldable pub told_of : Event → ℕ → List Txn → ℕ → ℕ → Here → Told
told_of e n xs i t h = record {
  clash = e.action == 3 && (h.txn.home == i && clash n xs i h.row t);
  scan = cond (e.action == 11) (scan_all n xs i (scan_of h)) (scan_of h);
}

-- no version at the site is so large that it could not be noted
abbrev pub few_versions : Place → Type 0
few_versions p = (o : ℕ) → o < 32 → version_in p o < 255

-- the action a of an event that is told w, whose transaction is t: refused where something that is asked of every event, or
-- that the action itself asks, is not met
abbrev pub admitted_for : Action → Event → ℕ → ℕ → Told → Here → ℕ → Result Action ℕ
admitted_for a e sites n w h t =
    cond (misplaced_by sites n (h.txn.home == e.site) e == 0)
    (cond (refusal_of a w.clash t h == 0) (Ok a) (Err (refusal_of a w.clash t h)))
    (Err (misplaced_by sites n (h.txn.home == e.site) e))

-- the action of an event, or the number that the event is answered
abbrev pub admitted_by : Event → ℕ → ℕ → Told → Here → ℕ → Result Action ℕ
admitted_by e sites n w h t = cond (no_action e) (Err 2) (admitted_for (action_of e) e sites n w h t)

-- what the code gives for it, in these numbers
abbrev pub admitted : Result Action Refusal → Result Action ℕ
admitted (Ok a) = Ok a
admitted (Err r) = Err (number_of r)
