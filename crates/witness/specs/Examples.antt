-- The theorem speaks of something, and it notices: a run with commits, an abort, waiting and a noted read; and four rules
-- that are broken in one place, each with a run of which a claim is false. The checker computes them all.
use Rattle.std.specs.Prelude.{ℕ, zero, suc, ◌+◌, ◌≡◌, refl, List, [], ◌∷◌, ◌++◌, map, take, replicate, Bool, true, not, cond, ◌&&◌, ◌||◌, ◌==◌}
use mathlib.Core.List.Memᴰ
use Rattle.std.specs.Int.Count.{ones_in}
use Rattle.sets.specs.Set.{has, is_empty, with_in, union, minus, without, overlap, first_in, all_but_in, size_in, those, none, size}
use Rattle.protocol.specs.Lists.{each_from, table_from, all_below, some_below, all_of, times, store_at}
use Rattle.protocol.specs.State.{empty_state, log_of, active, blocked, precommit, status_in, status_at, place_at, txn_at, at_home, with_status, with_txn, with_stored}
use Rattle.protocol.specs.Check.{first_of}
use Rattle.protocol.specs.Setup.{setup, setup_answer, setup_checks, sites_fine, count_fine, homes_fine, priorities_differ, fresh_state, fresh_row, fresh_txn}
use Rattle.protocol.specs.Range.{within, table_fine, txn_fine, statuses_fine, channel_fine, versions_fine, queue_fine, log_fine, site_fine, in_range}
use Rattle.protocol.specs.Order.{outranks, higher_of, highest_below, highest}
use Rattle.protocol.specs.Database.{executes, held_reads, held_writes, held, clashes_with, conflicts_with, clash, conflicts, noted, ended, woken, appended, stored, commit_here}
use Rattle.protocol.specs.Channel.{lies, taken, ready_with, put, delivered, homed_at}
use Rattle.protocol.specs.Scan.{makes_wait, must_wait, waits, asked, submits, scan_with, scan_one, scan_many, scan_leaves, scan, scan_from}
use Rattle.protocol.specs.Figure.{effect, is, enabled}
use Rattle.protocol.specs.Answer.{message_of, action_of, no_action, no_site, no_transaction, ill_kind, ill_from, ill_reads, ill_writes, ill_transaction, ill_filled, home_met, wrong_home, wrong_status, wrong_missing, message_there, no_message, lock_clash, no_scan, checks_in_range, checks, answer, done, step}
use Rattle.protocol.specs.Run.{state_after, answers_of, sent_by}
use Rattle.protocol.specs.Cases.{create, begin_operation, end_operation, begin_commit, end_commit, receive_ready, receive_commit, receive_abort, execute_remote, entry}
use Rattle.protocol.specs.Marked.{three, asks, reaches}
use Rattle.protocol.specs.declared.Row.{Row}
use Rattle.protocol.specs.declared.State.{State}
use Rattle.protocol.specs.declared.Event.{Event}
use Rattle.laws.specs.Count.{total}
use Rattle.laws.specs.Enabled.{doable, step-done}
use Rattle.onecopy.specs.Statements.{commits_home, listed, noted_of, serially, sendings, sends, sent_about, cost, OneCopy, Before, now, later, OneFate, LogOrder, SerialReads}
use Rattle.std.proofs.Common.{arith}
use Rattle.protocol.specs.declared.Txn.{Txn}
use Rattle.protocol.specs.declared.Scan.{Scan}
use Rattle.onecopy.specs.Theorem.{one_copy}

-- "Three sites; t0 home 0 priority 5; t1 home 1 priority 9; t2 home 2 priority 1."
unfoldable pub first : State
first = (setup 3 three).state

-- t, submitted at site i by then, runs there and commits
abbrev pub finishes : ℕ → ℕ → List Event
finishes t i = end_operation i t ∷ receive_commit i t ∷ []

-- events in groups, one after the other
unfoldable pub joined : List (List Event) → List Event
joined [] = []
joined (l ∷ ls) = l ++ joined ls

-- t0 and t1 write object 0 and ask to commit. At site 2 t1 finds t0, which runs there, and waits; at site 1 t0 finds t1,
-- which is higher, and waits; at site 0 t1 aborts t0. Abort of t0 lets t1 run at site 2 too, and t1 commits everywhere.
-- Then t2 reads and writes object 0, and commits. One event is refused: t0 cannot be created again.
unfoldable pub events : List Event
unfolding joined
events =
    joined
    (asks 0
    ∷ reaches 0 2
    ∷ asks 1
    ∷ reaches 1 2
    ∷ reaches 0 1
    ∷ reaches 1 0
    ∷ (create 0 0 ∷ receive_abort 1 0 ∷ receive_abort 2 0 ∷ execute_remote 2 ∷ [])
    ∷ (receive_ready 1 1 0 ∷ receive_ready 1 1 2 ∷ end_commit 1 1 ∷ [])
    ∷ finishes 1 0
    ∷ finishes 1 2
    ∷ (create 2 2 ∷ begin_operation 2 2 1 1 ∷ end_operation 2 2 ∷ begin_commit 2 2 ∷ [])
    ∷ reaches 2 0
    ∷ reaches 2 1
    ∷ (receive_ready 2 2 0 ∷ receive_ready 2 2 1 ∷ end_commit 2 2 ∷ [])
    ∷ finishes 2 0
    ∷ [])

-- what is shown of the run: the answers, L, the costs, the sum of the messages, the statuses and the logs by site, what t2
-- noted of object 0, and the version of it that those before t2 leave on a single copy
pub record Shown : Type 0 where
  pub answers : List ℕ
  pub list : List ℕ
  pub costs : List ℕ
  pub sent : ℕ
  pub statuses : List (List ℕ)
  pub logs : List (List ℕ)
  pub noted : ℕ
  pub serial : ℕ

pub shown : Shown
unfolding first events ones_in has is_empty with_in union minus without overlap first_in all_but_in size_in those each_from table_from
    all_below some_below all_of times empty_state first_of setup setup_answer setup_checks sites_fine count_fine homes_fine
    priorities_differ fresh_state fresh_row fresh_txn within table_fine txn_fine statuses_fine channel_fine versions_fine
    queue_fine log_fine site_fine in_range outranks higher_of highest_below executes held_reads held_writes held clashes_with
    conflicts_with clash conflicts noted ended woken appended stored commit_here lies taken ready_with put delivered
    homed_at makes_wait must_wait waits asked submits scan_with scan_one scan_many scan_leaves scan effect message_of action_of
    no_action no_site no_transaction ill_kind ill_from ill_reads ill_writes ill_transaction ill_filled home_met wrong_home
    wrong_status wrong_missing message_there no_message lock_clash no_scan checks_in_range checks answer done step state_after
    answers_of sent_by total commits_home listed sendings sends sent_about cost
shown =
    let s : State = state_after first events in
    record {
      answers = answers_of first events;
      list = listed first events;
      costs = cost first events 0 ∷ cost first events 1 ∷ cost first events 2 ∷ [];
      sent = sent_by first events;
      statuses = map (λ (r : Row). take 3 r.status) (take 3 s.rows);
      logs = map log_of (take 3 s.places);
      noted = noted_of s 2 0;
      serial = serially s (1 ∷ []) 0;
    }

-- t1 and t2 are listed, in that order, each at the cost of 3 × (sites − 1); t0 is aborted; t2 noted version 2 of object 0,
-- which is t1's
pub an_example : shown ≡ record {
  answers = replicate 16 0 ++ (7 ∷ replicate 23 0);
  list = 1 ∷ 2 ∷ [];
  costs = 5 ∷ 6 ∷ 6 ∷ [];
  sent = 17;
  statuses = (6 ∷ 5 ∷ 5 ∷ []) ∷ (6 ∷ 5 ∷ 3 ∷ []) ∷ (6 ∷ 5 ∷ 5 ∷ []) ∷ [];
  logs = (1 ∷ 2 ∷ []) ∷ (1 ∷ []) ∷ (1 ∷ 2 ∷ []) ∷ [];
  noted = 3;
  serial = 2;
}
unfolding shown
an_example = refl

-- and all that is claimed holds of it
pub example_one_copy : OneCopy first events (sent_by first events) (state_after first events)
unfolding first setup_answer setup_checks first_of sites_fine count_fine homes_fine priorities_differ all_below
example_one_copy = one_copy 3 three refl events

-- ---- rules, and runs by them

-- whether an event is enabled, and the state that it then makes
pub record Rules : Type 0 where
  pub enables : State → Event → Bool
  pub makes : State → Event → State

-- the figure's own
abbrev pub figure : Rules
figure = record {
  enables = λ s e. enabled (action_of e) s e.site e.txn;
  makes = λ s e. (effect (action_of e) s e.site e.txn).state;
}

-- which an event that is done follows
pub figure_steps : (s : State) (e : Event) → answer s e ≡ 0
    → (figure.enables s e ≡ true) × (figure.makes s e ≡ (step s e).state)
figure_steps s e z = ((doable s e z).on, rw (step-done s e z) (unfold done in refl))

-- the last state and L of a run by rules
unfoldable pub after_by : Rules → State → List Event → State
after_by R s [] = s
after_by R s (e ∷ es) = after_by R (cond (R.enables s e) (R.makes s e) s) es

unfoldable pub listed_by : Rules → State → List Event → List ℕ
listed_by R s [] = []
listed_by R s (e ∷ es) =
    cond (R.enables s e) (commits_home (action_of e) e.txn) []
    ++ listed_by R (cond (R.enables s e) (R.makes s e) s) es

-- a scan at site i where `them` tells the conflicts and `must` who waits: k turns of it
unfoldable pub turns_by : (Row → ℕ → ℕ) → (Row → ℕ → ℕ → Bool) → State → ℕ → Scan → Scan
turns_by them must s zero c = c
turns_by them must s (suc k) c =
    let t : ℕ = highest s.txns c.rest in
    turns_by them must s k
    (cond (must c.row t (them c.row t)) (waits t c) (submits s.count t (them c.row t) c))

unfoldable pub scan_by : (Row → ℕ → ℕ) → (Row → ℕ → ℕ → Bool) → State → ℕ → State
scan_by them must s i = (scan_leaves s i (turns_by them must s (size (place_at s i).queue) (scan_from s i))).state

-- ---- the four broken rules

-- holding remote writes only from end_operation: away from home, only in pre_commit
abbrev late_only : Txn → ℕ → ℕ → ℕ → ℕ
late_only y i v m = cond (y.home == i || v == precommit) m none

unfoldable pub late_clash : State → ℕ → ℕ → Bool
late_clash s i t =
    some_below s.count (λ u.
    not (u == t)
    && (overlap (late_only (txn_at s u) i (status_at s i u) (held_writes (txn_at s u) i (status_at s i u))) (txn_at s t).pendingreads
    || overlap (late_only (txn_at s u) i (status_at s i u) (held (txn_at s u) i (status_at s i u))) (txn_at s t).pendingwrites))

unfoldable pub late_conflicts : State → ℕ → Row → ℕ → ℕ
late_conflicts s i r t =
    those s.count (λ u.
    not (u == t)
    && overlap (late_only (txn_at s u) i (status_in r u) (held (txn_at s u) i (status_in r u))) (txn_at s t).writes)

abbrev pub holds_late : Rules
holds_late = record {
  enables = λ s e.
      cond (e.action == 3)
      (is s e.site e.txn blocked && not (at_home s e.site e.txn && late_clash s e.site e.txn))
      (figure.enables s e);
  makes = λ s e.
      cond (e.action == 11)
      (scan_by (late_conflicts s e.site) (must_wait s.count s.txns e.site) s e.site) (figure.makes s e);
}

-- home commits with a ready missing
abbrev pub commits_early : Rules
commits_early = record {
  enables = λ s e.
      cond (e.action == 5) (at_home s e.site e.txn && is s e.site e.txn precommit) (figure.enables s e);
  makes = figure.makes;
}

-- a scan that submits despite a remote conflict: only one at home in pre_commit with a priority not lower makes it wait
unfoldable pub hasty_wait : State → ℕ → Row → ℕ → ℕ → Bool
hasty_wait s i r t them =
    some_below s.count (λ u.
    has them u
    && ((txn_at s u).home == i && (status_in r u == precommit && not (outranks (txn_at s t) (txn_at s u)))))

abbrev pub submits_hastily : Rules
submits_hastily = record {
  enables = figure.enables;
  makes = λ s e.
      cond (e.action == 11)
      (scan_by (conflicts s.count s.txns e.site) (hasty_wait s e.site) s e.site) (figure.makes s e);
}

-- a noted read taken after the write of the same operation
unfoldable pub ended_late : State → ℕ → ℕ → Txn
ended_late s i t =
    let p = place_at s i in
    ended (txn_at s t) (with_stored p p.log (store_at (txn_at s t).pendingwrites (t + 1) p.versions))

abbrev pub reads_late : Rules
reads_late = record {
  enables = figure.enables;
  makes = λ s e.
      cond (e.action == 3 && at_home s e.site e.txn)
      (with_status (with_txn s e.txn (ended_late s e.site e.txn)) e.site e.txn active)
      (figure.makes s e);
}

-- ---- what is false of each

-- the last state and L of a run by rules, which the checker computes
unfoldable pub played : Rules → State → List Event → State × List ℕ
unfolding ones_in has is_empty with_in union minus without overlap first_in all_but_in size_in those each_from table_from all_below
    some_below all_of times empty_state first_of setup setup_answer setup_checks sites_fine count_fine homes_fine
    priorities_differ fresh_state fresh_row fresh_txn outranks higher_of highest_below executes held_reads held_writes held
    clashes_with conflicts_with clash conflicts noted ended woken appended stored commit_here lies taken ready_with put
    delivered homed_at makes_wait must_wait waits asked submits scan_with scan_one scan_many scan_leaves scan enabled effect
    message_of action_of commits_home after_by listed_by turns_by scan_by late_clash late_conflicts hasty_wait ended_late joined
played R s es = (after_by R s es, listed_by R s es)

-- L has 0 before 1
not_so : Before 1 0 (0 ∷ 1 ∷ []) → ⊥
not_so (now e m) = omega arith
not_so (later (now e m)) = Memᴰ.not-nil m
not_so (later (later b)) = nowhere b
  where
    nowhere : Before 1 0 [] → ⊥
    nowhere = elim [ ]

-- two sites; t0 home 0 priority 9, t1 home 1 priority 5
unfoldable pub two : State
two = (setup 2 (entry 0 9 ∷ entry 1 5 ∷ [])).state

-- t0 has been submitted at site 1, and before it has ended its operation there t1's write slips between
unfoldable pub slips : List Event
slips =
    joined
    (asks 0
    ∷ reaches 0 1
    ∷ asks 1
    ∷ reaches 1 0
    ∷ (receive_ready 0 0 1 ∷ end_commit 0 0 ∷ execute_remote 0 ∷ receive_ready 1 1 0 ∷ end_commit 1 1 ∷ [])
    ∷ finishes 0 1
    ∷ [])

-- so L has t0 before t1, and the log of site 1 has t1 before t0
pub late_holding_disorders : LogOrder (played holds_late two slips).0 (played holds_late two slips).1 → ⊥
unfolding played two slips
late_holding_disorders claim = not_so (claim 1 1 0 0 (omega arith) refl refl (now refl (Memᴰ.head refl)))

-- t0 and t1 commit at home, neither of which has reached the other site
unfoldable pub rushes : List Event
rushes = joined (asks 0 ∷ (end_commit 0 0 ∷ []) ∷ asks 1 ∷ (end_commit 1 1 ∷ []) ∷ reaches 0 1 ∷ finishes 0 1 ∷ [])

-- the same comes out
pub early_commit_disorders : LogOrder (played commits_early two rushes).0 (played commits_early two rushes).1 → ⊥
unfolding played two rushes
early_commit_disorders claim = not_so (claim 1 1 0 0 (omega arith) refl refl (now refl (Memᴰ.head refl)))

-- two sites; t0 and t1 have their home at site 0. t0 has committed there and still runs at site 1, where t1 arrives.
unfoldable pub home_twice : State
home_twice = (setup 2 (entry 0 9 ∷ entry 0 5 ∷ [])).state

unfoldable pub overruns : List Event
overruns =
    joined
    (asks 0
    ∷ reaches 0 1
    ∷ (receive_ready 0 0 1 ∷ end_commit 0 0 ∷ [])
    ∷ (create 0 1 ∷ begin_operation 0 1 0 1 ∷ end_operation 0 1 ∷ begin_commit 0 1 ∷ [])
    ∷ reaches 1 1
    ∷ [])

-- so t0 is committed at site 0 and aborted at site 1
pub hasty_scan_divides : OneFate (played submits_hastily home_twice overruns).0 → ⊥
unfolding played home_twice overruns
hasty_scan_divides claim = claim 0 0 1 (omega arith) (omega arith) (omega arith) refl refl

-- one site; t0 reads and writes object 0 in one operation
unfoldable pub alone : State
alone = (setup 1 (entry 0 5 ∷ [])).state

unfoldable pub reads_own : List Event
reads_own = create 0 0 ∷ begin_operation 0 0 1 1 ∷ end_operation 0 0 ∷ begin_commit 0 0 ∷ end_commit 0 0 ∷ []

-- so t0 has noted its own version, and before it a single copy has version 0
pub late_read_is_not_serial : SerialReads (played reads_late alone reads_own).0 (played reads_late alone reads_own).1 → ⊥
unfolding played alone reads_own
late_read_is_not_serial claim = let z : ◌≡◌ {A = ℕ} 0 1 = claim [] 0 [] refl 0 1 refl in omega arith
