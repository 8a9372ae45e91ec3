-- 01, "Answer numbers", for an event: which number is given when, their order, and what an event returns.
use Rattle.std.specs.Prelude.{ℕ, ◌-◌, Bool, true, not, cond, ◌&&◌, ◌||◌, List, [], ◌∷◌, ◌==◌, nat_lt, nat_le, slice_index_or}
use Rattle.sets.specs.Set.{is_empty}
use Rattle.protocol.specs.State.{idle, start, active, blocked, precommit, committed, aborted, status_at, at_home, place_at, txn_at}
use Rattle.protocol.specs.Check.{Check, given, first_of}
use Rattle.protocol.specs.Range.{in_range}
use Rattle.protocol.specs.Figure.{in_channel, clash_at, effect}
use Rattle.protocol.specs.declared.Message.{Message}
use Rattle.protocol.specs.declared.Message.TheVariants.{Remote, Ready, Commit, Abort}
use Rattle.protocol.specs.declared.Action.{Action}
use Rattle.protocol.specs.declared.Action.TheVariants.{Create, BeginOperation, EndOperation, BeginCommit, EndCommit, LocalAbort, Receive, ExecuteRemote, Discard}
use Rattle.protocol.specs.declared.Event.{Event}
use Rattle.protocol.specs.declared.State.{State}

-- "1 remote, 2 ready (with the site it came from), 3 commit, 4 abort"; check 5 refuses any other kind
unfoldable pub message_of : ℕ → ℕ → Message
message_of kind from = slice_index_or (Remote ∷ Ready from ∷ Commit ∷ Abort ∷ []) (kind - 1) Remote

-- the actions by their numbers, 1 to 12, with what the event's fields give them; check 2 refuses any other number
unfoldable pub action_of : Event → Action
action_of e =
    slice_index_or
    (Create
    ∷ BeginOperation e.reads e.writes
    ∷ EndOperation
    ∷ BeginCommit
    ∷ EndCommit
    ∷ LocalAbort
    ∷ Receive Remote
    ∷ Receive (Ready e.from)
    ∷ Receive Commit
    ∷ Receive Abort
    ∷ ExecuteRemote
    ∷ Discard (message_of e.kind e.from)
    ∷ [])
    (e.action - 1) Create

-- 2: "action not 1 to 12"
unfoldable pub no_action : Event → Bool
no_action e = not (nat_le 1 e.action && nat_le e.action 12)

-- 3: "no such site"
unfoldable pub no_site : State → Event → Bool
no_site s e = not (nat_lt e.site s.sites)

-- 4: "no such transaction, in action 11 too"
unfoldable pub no_transaction : State → Event → Bool
no_transaction s e = not (nat_lt e.txn s.count)

-- 5: "field ill filled: kind not 1 to 4 in discard; from not a site in receive_ready or discard of kind 2; a field the
-- action does not use not 0 (masks are used only by action 2; the transaction is unused by action 11)"
unfoldable pub ill_kind : Event → Bool
ill_kind e = cond (e.action == 12) (not (nat_le 1 e.kind && nat_le e.kind 4)) (not (e.kind == 0))

unfoldable pub ill_from : ℕ → Event → Bool
ill_from sites e =
    cond (e.action == 8 || (e.action == 12 && e.kind == 2)) (not (nat_lt e.from sites))
    (not (e.from == 0))

unfoldable pub ill_reads : Event → Bool
ill_reads e = not (e.action == 2) && not (e.reads == 0)

unfoldable pub ill_writes : Event → Bool
ill_writes e = not (e.action == 2) && not (e.writes == 0)

unfoldable pub ill_transaction : Event → Bool
ill_transaction e = e.action == 11 && not (e.txn == 0)

unfoldable pub ill_filled : ℕ → Event → Bool
ill_filled sites e = ill_kind e || (ill_from sites e || (ill_reads e || (ill_writes e || ill_transaction e)))

-- "A fixed table gives each action's required home: 1, 2, 4, 5, 6, 8 at home; 7, 9, 10 away from home; 3, 11, 12 either"
abbrev pub anywhere : ℕ
anywhere = 0

abbrev pub home_only : ℕ
home_only = 1

abbrev pub away_only : ℕ
away_only = 2

abbrev pub home_table : List ℕ
home_table =
    home_only
    ∷ home_only
    ∷ anywhere
    ∷ home_only
    ∷ home_only
    ∷ home_only
    ∷ away_only
    ∷ home_only
    ∷ away_only
    ∷ away_only
    ∷ anywhere
    ∷ anywhere
    ∷ []

-- the required home h is met, where b says whether the site is the transaction's home
unfoldable pub home_met : ℕ → Bool → Bool
home_met h b = h == anywhere || (h == home_only && b || h == away_only && not b)

-- 6: "wrong home"
unfoldable pub wrong_home : State → Event → Bool
wrong_home s e = not (home_met (slice_index_or home_table (e.action - 1) anywhere) (at_home s e.site e.txn))

-- the statuses in which each action is enabled, from the table of actions; action 11 asks for none
abbrev pub status_table : List (ℕ → Bool)
status_table =
    (λ v. v == start)
    ∷ (λ v. v == active)
    ∷ (λ v. v == blocked)
    ∷ (λ v. v == active)
    ∷ (λ v. v == precommit)
    ∷ (λ v. v == blocked)
    ∷ (λ v. v == idle)
    ∷ (λ v. v == precommit)
    ∷ (λ v. v == precommit)
    ∷ (λ v. not (v == committed || v == aborted))
    ∷ (λ v. true)
    ∷ (λ v. v == aborted)
    ∷ []

-- 7: "wrong status"
unfoldable pub wrong_status : State → Event → Bool
wrong_status s e = not (slice_index_or status_table (e.action - 1) (λ v. true) (status_at s e.site e.txn))

-- 8: "missing set not empty in action 5, or empty in action 8"
unfoldable pub wrong_missing : State → Event → Bool
wrong_missing s e =
    (e.action == 5 && not (is_empty (txn_at s e.txn).missing))
    || (e.action == 8 && is_empty (txn_at s e.txn).missing)

-- the message that the action takes from the channel lies there; an action that takes none asks for none
unfoldable pub message_there : Action → State → ℕ → ℕ → Bool
message_there Create s i t = true
message_there (BeginOperation r w) s i t = true
message_there EndOperation s i t = true
message_there BeginCommit s i t = true
message_there EndCommit s i t = true
message_there LocalAbort s i t = true
message_there (Receive m) s i t = in_channel m s i t
message_there ExecuteRemote s i t = true
message_there (Discard m) s i t = in_channel m s i t

-- 9: "message not in this channel"
unfoldable pub no_message : State → Event → Bool
no_message s e = not (message_there (action_of e) s e.site e.txn)

-- 10: "lock clash", which only an end of operation at home meets
unfoldable pub lock_clash : State → Event → Bool
lock_clash s e = e.action == 3 && (at_home s e.site e.txn && clash_at s e.site e.txn)

-- 11: "queue empty or *remove* false", which only execute_remote asks
unfoldable pub no_scan : State → Event → Bool
no_scan s e = e.action == 11 && (is_empty (place_at s e.site).queue || not (place_at s e.site).remove)

-- the numbers of an event in a state in range, in the order of the table
unfoldable pub checks_in_range : State → Event → List Check
checks_in_range s e =
    given 2 (no_action e)
    ∷ given 3 (no_site s e)
    ∷ given 4 (no_transaction s e)
    ∷ given 5 (ill_filled s.sites e)
    ∷ given 6 (wrong_home s e)
    ∷ given 7 (wrong_status s e)
    ∷ given 8 (wrong_missing s e)
    ∷ given 9 (no_message s e)
    ∷ given 10 (lock_clash s e)
    ∷ given 11 (no_scan s e)
    ∷ []

-- the numbers of an event, in the order of the table
unfoldable pub checks : State → Event → List Check
checks s e = given 1 (not (in_range s)) ∷ checks_in_range s e

-- 0 where the event is done, else the first number that applies
unfoldable pub answer : State → Event → ℕ
answer s e = first_of (checks s e)

-- what an event returns: its answer number, how many messages were sent, and the state
pub record Stepped : Type 0 where
  pub answer : ℕ
  pub sent : ℕ
  pub state : State

-- "A refused event returns only its number and an unchanged state"
abbrev pub refused : ℕ → State → Stepped
refused n s = record { answer = n; sent = 0; state = s }

-- what an event that is done returns
unfoldable pub done : State → Event → Stepped
done s e = record {
  answer = 0;
  sent = (effect (action_of e) s e.site e.txn).sent;
  state = (effect (action_of e) s e.site e.txn).state;
}

-- what the event e returns in the state s
unfoldable pub step : State → Event → Stepped
step s e = cond (answer s e == 0) (done s e) (refused (answer s e) s)
