-- 01, "The state": the numbers that stand for a status, what a state holds of a site and of a transaction, and the
-- state with one part of it changed. What is not named stays as it is.
use Rattle.std.specs.Prelude.{ℕ, Bool, false, List, [], set, take, replicate, ◌==◌, slice_index_or}
use Rattle.sets.specs.Set.{none}
use Rattle.protocol.specs.declared.Row.{Row}
use Rattle.protocol.specs.declared.Log.{Log}
use Rattle.protocol.specs.declared.Channel.{Channel}
use Rattle.protocol.specs.declared.Place.{Place}
use Rattle.protocol.specs.declared.Txn.{Txn}
use Rattle.protocol.specs.declared.State.{State}

-- "1 to 8 sites; 1 to 32 transactions; 32 objects; .. at most 1,024 events a run"
abbrev pub max_sites : ℕ
max_sites = 8

abbrev pub max_txns : ℕ
max_txns = 32

abbrev pub objects : ℕ
objects = 32

abbrev pub max_events : ℕ
max_events = 1024

-- "0 idle, 1 start, 2 active, 3 blocked, 4 pre_commit, 5 committed, 6 aborted"
abbrev pub idle : ℕ
idle = 0

abbrev pub start : ℕ
start = 1

abbrev pub active : ℕ
active = 2

abbrev pub blocked : ℕ
blocked = 3

abbrev pub precommit : ℕ
precommit = 4

abbrev pub committed : ℕ
committed = 5

abbrev pub aborted : ℕ
aborted = 6

-- "all else idle, 0, empty or none": a row, a site and a transaction of the empty state
abbrev pub empty_row : Row
empty_row = record { status = replicate max_txns idle }

abbrev pub empty_log : Log
empty_log = record { length = 0; entries = replicate max_txns 0 }

abbrev pub empty_channel : Channel
empty_channel = record { remote = none; ready = replicate max_txns none; commit = none; abort = none }

abbrev pub empty_place : Place
empty_place =
    record { queue = none; remove = false; log = empty_log; versions = replicate objects 0; channel = empty_channel }

abbrev pub empty_txn : Txn
empty_txn = record {
  home = 0;
  priority = 0;
  reads = none;
  writes = none;
  pendingreads = none;
  pendingwrites = none;
  missing = none;
  noted = replicate objects 0;
}

-- "the empty state: no sites, no transactions, all else idle, 0, empty or none"
unfoldable pub empty_state : State
empty_state = record {
  sites = 0;
  count = 0;
  rows = replicate max_sites empty_row;
  places = replicate max_sites empty_place;
  txns = replicate max_txns empty_txn;
}

-- what a list gives past its end
abbrev pub no_row : Row
no_row = record { status = [] }

abbrev pub no_place : Place
no_place = record {
  queue = none;
  remove = false;
  log = record { length = 0; entries = [] };
  versions = [];
  channel = record { remote = none; ready = []; commit = none; abort = none };
}

abbrev pub no_txn : Txn
no_txn = record {
  home = 0;
  priority = 0;
  reads = none;
  writes = none;
  pendingreads = none;
  pendingwrites = none;
  missing = none;
  noted = [];
}

-- the row of statuses of site i, what else belongs to it, and what belongs to transaction t
abbrev pub row_at : State → ℕ → Row
row_at s i = slice_index_or s.rows i no_row

abbrev pub place_at : State → ℕ → Place
place_at s i = slice_index_or s.places i no_place

abbrev pub txn_in : List Txn → ℕ → Txn
txn_in xs t = slice_index_or xs t no_txn

abbrev pub txn_at : State → ℕ → Txn
txn_at s t = txn_in s.txns t

-- "a row of statuses for each site": the status of t there
abbrev pub status_in : Row → ℕ → ℕ
status_in r t = slice_index_or r.status t idle

abbrev pub status_at : State → ℕ → ℕ → ℕ
status_at s i t = status_in (row_at s i) t

-- site i is t's home
abbrev pub at_home : State → ℕ → ℕ → Bool
at_home s i t = (txn_at s t).home == i

-- the transactions that have committed at a site, in that order
abbrev pub log_of : Place → List ℕ
log_of p = take p.log.length p.log.entries

-- the version of object o at a site
abbrev pub version_in : Place → ℕ → ℕ
version_in p o = slice_index_or p.versions o 0

-- the sites that sent a ready about t which lies in the channel
abbrev pub ready_in : Channel → ℕ → ℕ
ready_in c t = slice_index_or c.ready t none

-- a row with the status v for t
abbrev pub row_with : Row → ℕ → ℕ → Row
row_with r t v = record { status = set r.status t v }

abbrev pub with_row : State → ℕ → Row → State
with_row s i r =
    record { sites = s.sites; count = s.count; rows = set s.rows i r; places = s.places; txns = s.txns }

abbrev pub with_status : State → ℕ → ℕ → ℕ → State
with_status s i t v = with_row s i (row_with (row_at s i) t v)

abbrev pub with_places : State → List Place → State
with_places s ps = record { sites = s.sites; count = s.count; rows = s.rows; places = ps; txns = s.txns }

abbrev pub with_place : State → ℕ → Place → State
with_place s i p = with_places s (set s.places i p)

abbrev pub with_txn : State → ℕ → Txn → State
with_txn s t x =
    record { sites = s.sites; count = s.count; rows = s.rows; places = s.places; txns = set s.txns t x }

-- a site with another queue and flag
abbrev pub with_queue : Place → ℕ → Bool → Place
with_queue p q b = record { queue = q; remove = b; log = p.log; versions = p.versions; channel = p.channel }

-- a site with another log and other versions
abbrev pub with_stored : Place → Log → List ℕ → Place
with_stored p l v = record { queue = p.queue; remove = p.remove; log = l; versions = v; channel = p.channel }

-- a site with another channel
abbrev pub with_channel : Place → Channel → Place
with_channel p c = record { queue = p.queue; remove = p.remove; log = p.log; versions = p.versions; channel = c }

-- a transaction with other pending sets
abbrev pub with_pending : Txn → ℕ → ℕ → Txn
with_pending x r w = record {
  home = x.home;
  priority = x.priority;
  reads = x.reads;
  writes = x.writes;
  pendingreads = r;
  pendingwrites = w;
  missing = x.missing;
  noted = x.noted;
}

-- a transaction with another missing set
abbrev pub with_missing : Txn → ℕ → Txn
with_missing x m = record {
  home = x.home;
  priority = x.priority;
  reads = x.reads;
  writes = x.writes;
  pendingreads = x.pendingreads;
  pendingwrites = x.pendingwrites;
  missing = m;
  noted = x.noted;
}
