-- What the worked cases are written in: a setup with a list of events, and what comes out. Everything in it computes.
use Rattle.std.specs.Prelude.{ℕ, zero, suc, cond, List, [], ◌∷◌, ◌++◌, map, take}
use Rattle.std.specs.Int.Count.{ones_in}
use Rattle.sets.specs.Set.{has, is_empty, with_in, union, minus, without, overlap, first_in, all_but_in, size_in, those}
use Rattle.protocol.specs.Lists.{each_from, table_from, all_below, some_below, all_of, times}
use Rattle.protocol.specs.State.{empty_state, place_at, log_of}
use Rattle.protocol.specs.Check.{first_of}
use Rattle.protocol.specs.Setup.{setup, setup_answer, setup_checks, sites_fine, count_fine, homes_fine, priorities_differ, fresh_state, fresh_row, fresh_txn}
use Rattle.protocol.specs.Range.{within, table_fine, txn_fine, statuses_fine, channel_fine, versions_fine, queue_fine, log_fine, site_fine, in_range}
use Rattle.protocol.specs.Order.{outranks, higher_of, highest_below}
use Rattle.protocol.specs.Database.{executes, held_reads, held_writes, held, clashes_with, conflicts_with, clash, conflicts, noted, ended, woken, appended, stored, commit_here}
use Rattle.protocol.specs.Channel.{lies, taken, ready_with, put, delivered, homed_at}
use Rattle.protocol.specs.Scan.{makes_wait, must_wait, waits, asked, submits, scan_with, scan_one, scan_many, scan_leaves, scan}
use Rattle.protocol.specs.Figure.{effect}
use Rattle.protocol.specs.Answer.{message_of, action_of, no_action, no_site, no_transaction, ill_kind, ill_from, ill_reads, ill_writes, ill_transaction, ill_filled, home_met, wrong_home, wrong_status, wrong_missing, message_there, no_message, lock_clash, no_scan, checks_in_range, checks, answer, done, step}
use Rattle.protocol.specs.Run.{state_after, answers_of, sent_by}
use Rattle.protocol.specs.declared.Message.{Message}
use Rattle.protocol.specs.declared.Message.TheVariants.{Remote, Ready, Commit, Abort}
use Rattle.protocol.specs.declared.Entry.{Entry}
use Rattle.protocol.specs.declared.Row.{Row}
use Rattle.protocol.specs.declared.Place.{Place}
use Rattle.protocol.specs.declared.State.{State}
use Rattle.protocol.specs.declared.Event.{Event}

-- a transaction of the table
abbrev pub entry : ℕ → ℕ → Entry
entry h p = record { home = h; priority = p }

-- the twelve actions as events, by site and transaction
abbrev event : ℕ → ℕ → ℕ → ℕ → ℕ → ℕ → ℕ → Event
event a i t k f r w = record { action = a; site = i; txn = t; kind = k; from = f; reads = r; writes = w }

abbrev pub create : ℕ → ℕ → Event
create i t = event 1 i t 0 0 0 0

abbrev pub begin_operation : ℕ → ℕ → ℕ → ℕ → Event
begin_operation i t reads writes = event 2 i t 0 0 reads writes

abbrev pub end_operation : ℕ → ℕ → Event
end_operation i t = event 3 i t 0 0 0 0

abbrev pub begin_commit : ℕ → ℕ → Event
begin_commit i t = event 4 i t 0 0 0 0

abbrev pub end_commit : ℕ → ℕ → Event
end_commit i t = event 5 i t 0 0 0 0

abbrev pub local_abort : ℕ → ℕ → Event
local_abort i t = event 6 i t 0 0 0 0

abbrev pub receive_remote : ℕ → ℕ → Event
receive_remote i t = event 7 i t 0 0 0 0

abbrev pub receive_ready : ℕ → ℕ → ℕ → Event
receive_ready i t from = event 8 i t 0 from 0 0

abbrev pub receive_commit : ℕ → ℕ → Event
receive_commit i t = event 9 i t 0 0 0 0

abbrev pub receive_abort : ℕ → ℕ → Event
receive_abort i t = event 10 i t 0 0 0 0

abbrev pub execute_remote : ℕ → Event
execute_remote i = event 11 i 0 0 0 0 0

abbrev pub discard : ℕ → ℕ → ℕ → ℕ → Event
discard i t kind from = event 12 i t kind from 0 0

-- a message about t that lies in the channel of a site
pub record Lying : Type 0 where
  pub site : ℕ
  pub message : Message
  pub about : ℕ

abbrev pub lying : ℕ → Message → ℕ → Lying
lying i m t = record { site = i; message = m; about = t }

-- what a run from a setup shows: the answers, the sum of the messages sent, for each site the statuses, the log and the
-- queue, and the messages that have not been taken, by site, transaction, kind and sender
pub record Outcome : Type 0 where
  pub answers : List ℕ
  pub sent : ℕ
  pub statuses : List (List ℕ)
  pub logs : List (List ℕ)
  pub queues : List ℕ
  pub untaken : List Lying

-- a setup, its events, and what must come out
pub record Case : Type 0 where
  pub sites : ℕ
  pub entries : List Entry
  pub events : List Event
  pub outcome : Outcome

-- the lists f 0, f 1, .. f (n - 1), one after the other
chain : ℕ → (ℕ → List Lying) → List Lying
chain zero f = []
chain (suc n) f = chain n f ++ f n

found : State → ℕ → ℕ → Message → List Lying
found s i t m = cond (lies m t (place_at s i).channel) (lying i m t ∷ []) []

untaken_in : State → List Lying
unfolding chain found
untaken_in s =
    chain s.sites
    (λ i. chain s.count (λ t.
    found s i t Remote ++ (chain s.sites (λ k. found s i t (Ready k)) ++ (found s i t Commit ++ found s i t Abort))))

-- what a state shows of its sites and transactions
shown : State → List ℕ → ℕ → Outcome
unfolding untaken_in
shown s answers sent = record {
  answers = answers;
  sent = sent;
  statuses = map (λ (r : Row). take s.count r.status) (take s.sites s.rows);
  logs = map log_of (take s.sites s.places);
  queues = map (λ (p : Place). p.queue) (take s.sites s.places);
  untaken = untaken_in s;
}

-- what comes out of a case by the definitions, all of which it opens
unfoldable pub outcome_of : Case → Outcome
unfolding shown ones_in has is_empty with_in union minus without overlap first_in all_but_in size_in those each_from
    table_from all_below some_below all_of times empty_state first_of setup setup_answer setup_checks sites_fine count_fine
    homes_fine priorities_differ fresh_state fresh_row fresh_txn within table_fine txn_fine statuses_fine channel_fine
    versions_fine queue_fine log_fine site_fine in_range outranks higher_of highest_below executes held_reads held_writes
    held clashes_with conflicts_with clash conflicts noted ended woken appended stored commit_here lies taken ready_with
    put delivered homed_at makes_wait must_wait waits asked submits scan_with scan_one scan_many scan_leaves scan effect
    message_of action_of no_action no_site no_transaction ill_kind ill_from ill_reads ill_writes ill_transaction ill_filled
    home_met wrong_home wrong_status wrong_missing message_there no_message lock_clash no_scan checks_in_range checks answer
    done step state_after answers_of sent_by
outcome_of c =
    let s : State = (setup c.sites c.entries).state in
    shown (state_after s c.events) (answers_of s c.events) (sent_by s c.events)
