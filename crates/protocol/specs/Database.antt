-- 01, "The database under each site", and what the table of actions says of locks, of noting and of "commit here".
use Rattle.std.specs.Prelude.{ℕ, ◌+◌, Bool, not, cond, ◌&&◌, ◌||◌, List, set, ◌==◌, nat_lt}
use Rattle.sets.specs.Set.{has, none, union, minus, overlap, is_empty, those}
use Rattle.protocol.specs.Lists.{each, store_at, some_below}
use Rattle.protocol.specs.State.{max_txns, active, blocked, precommit, committed, status_in, txn_in, txn_at, version_in, with_status, with_place, with_queue, with_stored}
use Rattle.protocol.specs.declared.Row.{Row}
use Rattle.protocol.specs.declared.Log.{Log}
use Rattle.protocol.specs.declared.Place.{Place}
use Rattle.protocol.specs.declared.Txn.{Txn}
use Rattle.protocol.specs.declared.State.{State}

-- "A transaction *executes* at a site while active, blocked or pre_commit there."
unfoldable pub executes : ℕ → Bool
executes v = v == active || (v == blocked || v == precommit)

-- "At home it then holds its read and write sets. Elsewhere it holds its write set only, from the scan that submits it":
-- what a transaction x of status v at site i holds there for reading, for writing, and in all
unfoldable pub held_reads : Txn → ℕ → ℕ → ℕ
held_reads x i v = cond (executes v && x.home == i) x.reads none

unfoldable pub held_writes : Txn → ℕ → ℕ → ℕ
held_writes x i v = cond (executes v) x.writes none

unfoldable pub held : Txn → ℕ → ℕ → ℕ
held x i v = union (held_reads x i v) (held_writes x i v)

-- "another transaction executing at the site holds a write of an object pending for reading, or holds any access to one
-- pending for writing": y, of status v at site i, is one that the pending operation of x clashes with
unfoldable pub clashes_with : Txn → Txn → ℕ → ℕ → Bool
clashes_with x y i v = overlap (held_writes y i v) x.pendingreads || overlap (held y i v) x.pendingwrites

-- "executing at the site that hold an object of its write set": y, of status v at site i, is one that x conflicts with
unfoldable pub conflicts_with : Txn → Txn → ℕ → ℕ → Bool
conflicts_with x y i v = overlap (held y i v) x.writes

-- At site i, with the statuses r, among the n transactions xs of the table:
module _ (n : ℕ) (xs : List Txn) (i : ℕ) (r : Row) where
  -- "a lock clash" of the pending operation of t
  unfoldable pub clash : ℕ → Bool
  clash t = some_below n (λ u. not (u == t) && clashes_with (txn_in xs t) (txn_in xs u) i (status_in r u))

  -- the conflicts of t: "the other transactions executing at the site that hold an object of its write set"; Figure 2:
  -- getConflicts(WS)
  unfoldable pub conflicts : ℕ → ℕ
  conflicts t = those n (λ u. not (u == t) && conflicts_with (txn_in xs t) (txn_in xs u) i (status_in r u))

-- "for each pending read of an object in neither set so far, the site's version is noted; then pending sets join the
-- sets and become empty"
unfoldable pub noted : Txn → Place → List ℕ
noted x p =
    each (λ o v. cond (has (minus x.pendingreads (union x.reads x.writes)) o) (version_in p o + 1) v) x.noted

unfoldable pub ended : Txn → Place → Txn
ended x p = record {
  home = x.home;
  priority = x.priority;
  reads = union x.reads x.pendingreads;
  writes = union x.writes x.pendingwrites;
  pendingreads = none;
  pendingwrites = none;
  missing = x.missing;
  noted = noted x p;
}

-- "*remove* true if the queue is not empty"
unfoldable pub woken : Place → Place
woken p = with_queue p p.queue (p.remove || not (is_empty p.queue))

-- t at the end of the log. A log that is full stays; in a state in range none is full while a transaction can commit.
unfoldable pub appended : Log → ℕ → Log
appended l t =
    cond (nat_lt l.length max_txns) (record { length = l.length + 1; entries = set l.entries l.length t }) l

-- "Commit here: status committed, appended to the site's log, version t+1 stored for each written object, *remove* true
-- if the queue is not empty", where p is the site as t finds it
unfoldable pub stored : Place → ℕ → ℕ → Place
stored p t writes = woken (with_stored p (appended p.log t) (store_at writes (t + 1) p.versions))

unfoldable pub commit_here : State → ℕ → ℕ → Place → State
commit_here s i t p = with_place (with_status s i t committed) i (stored p t (txn_at s t).writes)
