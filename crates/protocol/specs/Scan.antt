-- 01, "The scan"; Figure 2: the effect of execute_remote.
use Rattle.std.specs.Prelude.{ℕ, zero, suc, ◌+◌, ◌*◌, Bool, false, not, cond, ◌&&◌, ◌||◌, List, ◌==◌}
use Rattle.sets.specs.Set.{has, none, with, without, union, those, size}
use Rattle.protocol.specs.Lists.{store_at, some_below}
use Rattle.protocol.specs.State.{blocked, precommit, aborted, status_in, txn_in, row_at, place_at, row_with, with_row, with_place, with_queue}
use Rattle.protocol.specs.Order.{outranks, highest}
use Rattle.protocol.specs.Database.{conflicts}
use Rattle.protocol.specs.Channel.{others, multicast, ready_home}
use Rattle.protocol.specs.declared.Message.TheVariants.{Abort}
use Rattle.protocol.specs.declared.Row.{Row}
use Rattle.protocol.specs.declared.Txn.{Txn}
use Rattle.protocol.specs.declared.Scan.{Scan}
use Rattle.protocol.specs.declared.Done.{Done}
use Rattle.protocol.specs.declared.State.{State}

-- "has its home elsewhere, or is at home in pre_commit with a priority not lower": y, a conflict of x that has status v
-- at site i, makes x wait; Figure 2: ¬ higher_priority(t, t'). Past the first test y is at home.
unfoldable pub makes_wait : Txn → Txn → ℕ → ℕ → Bool
makes_wait x y i v = not (y.home == i) || (v == precommit && not (outranks x y))

-- "it waits on and aborts nobody"; Figure 2: insert_with_priority(aux_queue, t)
unfoldable pub waits : ℕ → Scan → Scan
waits t c = record {
  rest = without c.rest t;
  row = c.row;
  waiting = with c.waiting t;
  aborts = c.aborts;
  readies = c.readies;
}

-- those of the set `them` that are in pre_commit, among the n transactions of the table
unfoldable pub asked : ℕ → Row → ℕ → ℕ
asked n r them = those n (λ u. has them u && status_in r u == precommit)

-- "Otherwise each conflict is aborted (one that was in pre_commit also sends abort to all other sites), ready goes to its
-- own home, and it is blocked", where `them` is the set of t's conflicts
unfoldable pub submits : ℕ → ℕ → ℕ → Scan → Scan
submits n t them c = record {
  rest = without c.rest t;
  row = row_with (record { status = store_at them aborted c.row.status }) t blocked;
  waiting = c.waiting;
  aborts = union c.aborts (asked n c.row them);
  readies = with c.readies t;
}

-- At site i, among the n transactions xs of the table:
module _ (n : ℕ) (xs : List Txn) (i : ℕ) where
  -- "If one of them .., it waits", where `them` is the set of t's conflicts and r has the statuses
  unfoldable pub must_wait : Row → ℕ → ℕ → Bool
  must_wait r t them = some_below n (λ u. has them u && makes_wait (txn_in xs t) (txn_in xs u) i (status_in r u))

  -- what happens to one queued transaction, where `them` is the set of its conflicts
  unfoldable pub scan_with : ℕ → ℕ → Scan → Scan
  scan_with t them c = cond (must_wait c.row t them) (waits t c) (submits n t them c)

  unfoldable pub scan_one : ℕ → Scan → Scan
  scan_one t c = scan_with t (conflicts n xs i c.row t) c

  -- "The highest priority in the queue is taken first .. then the rest of the queue is taken the same way, seeing what
  -- was just done": k of the queue, one after the other
  unfoldable pub scan_many : ℕ → Scan → Scan
  scan_many zero c = c
  scan_many (suc k) c = scan_many k (scan_one (highest xs c.rest) c)

  -- all of the queue
  abbrev pub scan_all : Scan → Scan
  scan_all c = scan_many (size c.rest) c

-- a scan as it begins at site i; Figure 2: aux_queue ← ∅
abbrev pub scan_from : State → ℕ → Scan
scan_from s i =
    record { rest = (place_at s i).queue; row = row_at s i; waiting = none; aborts = none; readies = none }

-- what the scan c at site i leaves: the statuses; "Those that wait are the queue afterwards; *remove* is false"; and its
-- messages, abort about some to all other sites and ready about others to their homes
unfoldable pub scan_leaves : State → ℕ → Scan → Done
scan_leaves s i c = record {
  state =
      ready_home i c.readies
      (multicast Abort i c.aborts
      (with_place (with_row s i c.row) i (with_queue (place_at s i) c.waiting false)));
  sent = size c.aborts * size (others s i) + size c.readies;
}

-- "the scan" at site i
unfoldable pub scan : State → ℕ → Done
scan s i = scan_leaves s i (scan_all s.count s.txns i (scan_from s i))
