-- 01, "A state is in range when", clause by clause.
use Rattle.std.specs.Prelude.{ℕ, ◌+◌, Bool, not, cond, ◌&&◌, ◌||◌, List, ◌==◌, nat_lt, nat_le, slice_index_or}
use Rattle.sets.specs.Set.{has, is_empty, minus, first}
use Rattle.protocol.specs.Lists.{all_below, all_of, times}
use Rattle.protocol.specs.State.{max_txns, objects, idle, committed, aborted, row_at, place_at, txn_at, txn_in, status_in, log_of, version_in, ready_in}
use Rattle.protocol.specs.Setup.{sites_fine, count_fine, homes_fine, priorities_differ}
use Rattle.protocol.specs.declared.Row.{Row}
use Rattle.protocol.specs.declared.Channel.{Channel}
use Rattle.protocol.specs.declared.Place.{Place}
use Rattle.protocol.specs.declared.Txn.{Txn}
use Rattle.protocol.specs.declared.State.{State}

-- the set m names only numbers below n
unfoldable pub within : ℕ → ℕ → Bool
within n m = is_empty (minus m (first n))

-- "counts of sites and transactions, homes and distinct priorities are as setup demands"
unfoldable pub table_fine : State → Bool
table_fine s =
    sites_fine s.sites
    && (count_fine s.count
    && (homes_fine s.sites s.count (λ t. (txn_at s t).home)
    && priorities_differ s.count (λ t. (txn_at s t).priority)))

-- of a transaction: its "site sets .. name only sites", and its noted "versions are 0 to the count of transactions"
unfoldable pub txn_fine : ℕ → ℕ → Txn → Bool
txn_fine sites n x = within sites x.missing && all_below objects (λ o. nat_le (slice_index_or x.noted o 0) (n + 1))

-- "statuses are 0 to 6"
unfoldable pub statuses_fine : ℕ → Row → Bool
statuses_fine n r = all_below n (λ t. nat_le (status_in r t) aborted)

-- how many sites may have sent a ready about t: all of them, and none where t is no transaction of the table
abbrev pub senders : ℕ → ℕ → ℕ → ℕ
senders sites n t = cond (nat_lt t n) sites 0

-- "senders of messages name only sites, .. messages only transactions of the table": a ready about a transaction beyond
-- the table is refused like the other three kinds
unfoldable pub channel_fine : ℕ → ℕ → Channel → Bool
channel_fine sites n c =
    within n c.remote
    && (within n c.commit
    && (within n c.abort
    && all_below max_txns (λ t. within (senders sites n t) (ready_in c t))))

-- "versions are 0 to the count of transactions"
unfoldable pub versions_fine : ℕ → Place → Bool
versions_fine n p = all_below objects (λ o. nat_le (version_in p o) n)

-- "queues [name] only transactions of the table", and "each queued transaction has its home elsewhere and status idle
-- there"
unfoldable pub queue_fine : ℕ → List Txn → ℕ → Row → ℕ → Bool
queue_fine n xs i r q =
    within n q
    && all_below n (λ t. not (has q t) || (not ((txn_in xs t).home == i) && status_in r t == idle))

-- "each log holds exactly the transactions committed at its site, each once"; a length beyond the room for entries would
-- hold what is not there
unfoldable pub log_fine : ℕ → Row → Place → Bool
log_fine n r p =
    nat_le p.log.length max_txns
    && (all_of (λ t. nat_lt t n) (log_of p)
    && all_below n (λ t. times t (log_of p) == cond (status_in r t == committed) 1 0))

-- what is tested of site i
unfoldable pub site_fine : ℕ → ℕ → List Txn → ℕ → Row → Place → Bool
site_fine sites n xs i r p =
    statuses_fine n r
    && (channel_fine sites n p.channel
    && (versions_fine n p && (queue_fine n xs i r p.queue && log_fine n r p)))

-- "Rows and entries beyond the counts, or beyond a log's length, are not tested"
unfoldable pub in_range : State → Bool
in_range s =
    table_fine s
    && (all_below s.count (λ t. txn_fine s.sites s.count (txn_at s t))
    && all_below s.sites (λ i. site_fine s.sites s.count s.txns i (row_at s i) (place_at s i)))
