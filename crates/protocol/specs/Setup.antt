-- 01, "Setup reads the lent table of transactions", its refusals, and the fresh state.
use Rattle.std.specs.Prelude.{ℕ, Bool, not, cond, ◌&&◌, List, [], ◌∷◌, length, take, replicate, ◌==◌, nat_lt, nat_le, slice_index_or}
use Rattle.sets.specs.Set.{none}
use Rattle.protocol.specs.Lists.{table, all_below}
use Rattle.protocol.specs.State.{max_sites, max_txns, objects, idle, start, empty_place, empty_txn, empty_state}
use Rattle.protocol.specs.Check.{Check, given, first_of}
use Rattle.protocol.specs.declared.Entry.{Entry}
use Rattle.protocol.specs.declared.Row.{Row}
use Rattle.protocol.specs.declared.Txn.{Txn}
use Rattle.protocol.specs.declared.State.{State}

-- "1 to 8 sites; 1 to 32 transactions": what setup demands of the counts
unfoldable pub sites_fine : ℕ → Bool
sites_fine sites = nat_le 1 sites && nat_le sites max_sites

unfoldable pub count_fine : ℕ → Bool
count_fine n = nat_le 1 n && nat_le n max_txns

-- of n homes: each is a site
unfoldable pub homes_fine : ℕ → ℕ → (ℕ → ℕ) → Bool
homes_fine sites n home = all_below n (λ t. nat_lt (home t) sites)

-- "Priorities must differ": of n priorities no two are equal
unfoldable pub priorities_differ : ℕ → (ℕ → ℕ) → Bool
priorities_differ n priority = all_below n (λ t. all_below t (λ u. not (priority u == priority t)))

-- what stands at place t of the lent table
abbrev pub entry_at : List Entry → ℕ → Entry
entry_at es t = slice_index_or es t (record { home = 0; priority = 0 })

-- "Fresh: start at home, idle elsewhere"
unfoldable pub fresh_row : List Entry → ℕ → Row
fresh_row es i =
    record { status = table max_txns (λ t. cond (nat_lt t (length es) && (entry_at es t).home == i) start idle) }

-- "one entry a transaction: home site and priority"; its sets are empty and nothing is noted
unfoldable pub fresh_txn : List Entry → ℕ → Txn
fresh_txn es t =
    cond (nat_lt t (length es))
    (record {
      home = (entry_at es t).home;
      priority = (entry_at es t).priority;
      reads = none;
      writes = none;
      pendingreads = none;
      pendingwrites = none;
      missing = none;
      noted = replicate objects 0;
    })
    empty_txn

-- "Fresh sets, queues, channels and logs are empty and *remove* is false .. a fresh state holds the same beyond its
-- counts" as the empty state
unfoldable pub fresh_state : ℕ → List Entry → State
fresh_state sites es = record {
  sites = sites;
  count = length es;
  rows = table max_sites (fresh_row es);
  places = replicate max_sites empty_place;
  txns = table max_txns (fresh_txn es);
}

-- the answer numbers of a setup, in the order of the table
unfoldable pub setup_checks : ℕ → List Entry → List Check
setup_checks sites es =
    given 21 (not (sites_fine sites))
    ∷ given 22 (not (count_fine (length es)))
    ∷ given 23 (not (homes_fine sites (length es) (λ t. (entry_at es t).home)))
    ∷ given 25 (not (priorities_differ (length es) (λ t. (entry_at es t).priority)))
    ∷ []

-- 0 where setup accepts, else the first number that applies
unfoldable pub setup_answer : ℕ → List Entry → ℕ
setup_answer sites es = first_of (setup_checks sites es)

-- what a setup returns: its answer number and the state
pub record Started : Type 0 where
  pub answer : ℕ
  pub state : State

-- "A refused setup returns its number and the empty state"
unfoldable pub setup : ℕ → List Entry → Started
setup sites es = record {
  answer = setup_answer sites es;
  state = cond (setup_answer sites es == 0) (fresh_state sites es) empty_state;
}

-- a setup whose entries are handed over by value, 32 of them and how many count; more than that fit no table
unfoldable pub setup_of : ℕ → ℕ → List Entry → Started
setup_of sites n es =
    cond (nat_le n max_txns) (setup sites (take n es))
    (record { answer = cond (sites_fine sites) 22 21; state = empty_state })
