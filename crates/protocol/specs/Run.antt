-- 01, "A run": its refusals, one answer an event, the sum of the messages and the last state.
use Rattle.std.specs.Prelude.{ℕ, ◌+◌, not, cond, List, [], ◌∷◌, ◌++◌, length, drop, ◌==◌, nat_lt, slice_index_or}
use Rattle.protocol.specs.State.{max_events}
use Rattle.protocol.specs.Check.{Check, given, first_of}
use Rattle.protocol.specs.Range.{in_range}
use Rattle.protocol.specs.Answer.{step}
use Rattle.protocol.specs.declared.Event.{Event}
use Rattle.protocol.specs.declared.State.{State}

-- "An event has seven fields: action, site, transaction, kind, from, reads, writes": the event of seven numbers
abbrev pub event_in : List ℕ → Event
event_in l = record {
  action = slice_index_or l 0 0;
  site = slice_index_or l 1 0;
  txn = slice_index_or l 2 0;
  kind = slice_index_or l 3 0;
  from = slice_index_or l 4 0;
  reads = slice_index_or l 5 0;
  writes = slice_index_or l 6 0;
}

-- a list of numbers as events, seven numbers an event. A tail of fewer than seven is no event; that is our reading.
unfoldable pub events_of : List ℕ → List Event
events_of [] = []
events_of (a ∷ []) = []
events_of (a ∷ i ∷ []) = []
events_of (a ∷ i ∷ t ∷ []) = []
events_of (a ∷ i ∷ t ∷ k ∷ []) = []
events_of (a ∷ i ∷ t ∷ k ∷ f ∷ []) = []
events_of (a ∷ i ∷ t ∷ k ∷ f ∷ r ∷ []) = []
events_of (a ∷ i ∷ t ∷ k ∷ f ∷ r ∷ w ∷ l) = event_in (a ∷ i ∷ t ∷ k ∷ f ∷ r ∷ w ∷ []) ∷ events_of l

-- the state after the events, "past refused events"
unfoldable pub state_after : State → List Event → State
state_after s [] = s
state_after s (e ∷ es) = state_after (step s e).state es

-- "one answer an event"
unfoldable pub answers_of : State → List Event → List ℕ
answers_of s [] = []
answers_of s (e ∷ es) = (step s e).answer ∷ answers_of (step s e).state es

-- "the sum over its events, a refused event adding 0"
unfoldable pub sent_by : State → List Event → ℕ
sent_by s [] = 0
sent_by s (e ∷ es) = (step s e).sent + sent_by (step s e).state es

-- "A run checks 31, then 32, then the state once (answer 1)", where room is the number of places for answers
unfoldable pub run_checks : State → List Event → ℕ → List Check
run_checks s es room =
    given 31 (nat_lt max_events (length es))
    ∷ given 32 (nat_lt room (length es))
    ∷ given 1 (not (in_range s))
    ∷ []

unfoldable pub run_answer : State → List Event → ℕ → ℕ
run_answer s es room = first_of (run_checks s es room)

-- what a run returns besides the answers that it writes: its answer number, "the sum over its events" and the state
pub record Ran : Type 0 where
  pub answer : ℕ
  pub sent : ℕ
  pub state : State

-- "When one of these refuses, the state is returned as given, the message sum is 0"
unfoldable pub run : State → List Event → ℕ → Ran
run s es room =
    cond (run_answer s es room == 0) (record { answer = 0; sent = sent_by s es; state = state_after s es })
    (record { answer = run_answer s es room; sent = 0; state = s })

-- what the places for answers then hold, where they held `old`: "writes one answer an event, and keeps the places
-- beyond"; a refused run writes none
unfoldable pub answers_after : State → List Event → List ℕ → List ℕ
answers_after s es old =
    cond (run_answer s es (length old) == 0) (answers_of s es ++ drop (length es) old) old
