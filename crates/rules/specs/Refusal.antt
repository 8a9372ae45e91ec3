-- The checks as the code makes them in a state in range: first which action the number asks for, then what is asked of
-- every event, then what the action itself asks, of the parts of the state that the event reads. That these are the
-- checks of document 01's table is shown beside the proofs.
use Rattle.std.specs.Prelude.{ℕ, ◌-◌, Bool, not, cond, ◌&&◌, ◌||◌, [], ◌∷◌, Result, Ok, Err, ◌==◌, nat_lt, slice_index_or}
use Rattle.sets.specs.Set.{is_empty}
use Rattle.protocol.specs.State.{idle, start, active, blocked, precommit, committed, aborted, status_in}
use Rattle.protocol.specs.Channel.{lies}
use Rattle.protocol.specs.Check.{given, first_of}
use Rattle.protocol.specs.Answer.{no_action, ill_filled, anywhere, home_only, away_only, home_table, home_met, action_of}
use Rattle.protocol.specs.declared.Message.{Message}
use Rattle.protocol.specs.declared.Message.TheVariants.{Remote, Ready, Commit, Abort}
use Rattle.protocol.specs.declared.Action.{Action}
use Rattle.protocol.specs.declared.Action.TheVariants.{Create, BeginOperation, EndOperation, BeginCommit, EndCommit, LocalAbort, Receive, ExecuteRemote, Discard}
use Rattle.protocol.specs.declared.Event.{Event}
use Rattle.protocol.specs.declared.Refusal.{Refusal}
use Rattle.protocol.specs.declared.Refusal.TheVariants.{NoAction}
use Rattle.rules.specs.declared.answer.Where.{Where}
use Rattle.rules.specs.declared.answer.Where.TheVariants as home
use Rattle.rules.specs.declared.Here.{Here}

-- which action the event's number asks for, or its refusal
abbrev pub asked_by : Event → Result Action Refusal
asked_by e = cond (no_action e) (Err NoAction) (Ok (action_of e))

-- where an action is taken, as the table of required homes has it
abbrev pub home_number : Where → ℕ
home_number home.Either = anywhere
home_number home.Home = home_only
home_number home.Away = away_only

-- what is asked of every event whose action is known: 3 to 6, or 0, where b says whether the site is the transaction's home
abbrev pub misplaced_by : ℕ → ℕ → Bool → Event → ℕ
misplaced_by sites n b e =
    first_of
    (given 3 (not (nat_lt e.site sites))
    ∷ given 4 (not (nat_lt e.txn n))
    ∷ given 5 (ill_filled sites e)
    ∷ given 6 (not (home_met (slice_index_or home_table (e.action - 1) anywhere) b))
    ∷ [])

-- n where the test fails, else m
abbrev pub unless : Bool → ℕ → ℕ → ℕ
unless b n m = cond b m n

-- the status of t is v, and m about t lies in the channel
abbrev has_status : Here → ℕ → ℕ → Bool
has_status h t v = status_in h.row t == v

abbrev there : Message → Here → ℕ → Bool
there m h t = lies m t h.place.channel

-- what a receive asks of transaction t
abbrev pub receive_refusal : Message → Here → ℕ → ℕ
receive_refusal Remote h t = unless (has_status h t idle) 7 (unless (there Remote h t) 9 0)
receive_refusal (Ready k) h t =
    unless (has_status h t precommit) 7
    (unless (not (is_empty h.txn.missing)) 8 (unless (there (Ready k) h t) 9 0))
receive_refusal Commit h t = unless (has_status h t precommit) 7 (unless (there Commit h t) 9 0)
receive_refusal Abort h t =
    unless (not (has_status h t committed || has_status h t aborted)) 7 (unless (there Abort h t) 9 0)

-- what the action itself asks of transaction t, where b says whether its end of operation meets a lock clash at home: 7 to
-- 11, or 0
abbrev pub refusal_of : Action → Bool → ℕ → Here → ℕ
refusal_of Create b t h = unless (has_status h t start) 7 0
refusal_of (BeginOperation r w) b t h = unless (has_status h t active) 7 0
refusal_of EndOperation b t h = unless (has_status h t blocked) 7 (unless (not b) 10 0)
refusal_of BeginCommit b t h = unless (has_status h t active) 7 0
refusal_of EndCommit b t h = unless (has_status h t precommit) 7 (unless (is_empty h.txn.missing) 8 0)
refusal_of LocalAbort b t h = unless (has_status h t blocked) 7 0
refusal_of (Receive m) b t h = receive_refusal m h t
refusal_of ExecuteRemote b t h = unless (not (is_empty h.place.queue) && h.place.remove) 11 0
refusal_of (Discard m) b t h = unless (has_status h t aborted) 7 (unless (there m h t) 9 0)
