-- What the functions below setup do: they copy the entries of the lent table into an empty state and judge that state.
-- That this is setup, as document 01 has it, is shown where setup is proved.
use Rattle.std.specs.Prelude.{ℕ, not, cond, ◌&&◌, List, [], ◌∷◌, ◌==◌, nat_lt}
use Rattle.protocol.specs.Lists.{table}
use Rattle.protocol.specs.State.{max_sites, max_txns, idle, start, empty_state, txn_at}
use Rattle.protocol.specs.Check.{given, first_of}
use Rattle.protocol.specs.Setup.{Started, sites_fine, count_fine, homes_fine, priorities_differ}
use Rattle.protocol.specs.declared.Entry.{Entry}
use Rattle.protocol.specs.declared.Row.{Row}
use Rattle.protocol.specs.declared.Txn.{Txn}
use Rattle.protocol.specs.declared.State.{State}

-- a transaction with the home and the priority of an entry
abbrev pub from_entry : Txn → Entry → Txn
from_entry x e = record {
  home = e.home;
  priority = e.priority;
  reads = x.reads;
  writes = x.writes;
  pendingreads = x.pendingreads;
  pendingwrites = x.pendingwrites;
  missing = x.missing;
  noted = x.noted;
}

-- and back
abbrev pub entry_of : Txn → Entry
entry_of x = record { home = x.home; priority = x.priority }

-- the row of site i, and the rows of all sites, when the first n transactions begin, each at its home
abbrev pub started_row : ℕ → (ℕ → ℕ) → ℕ → Row
started_row n home i = record { status = table max_txns (λ t. cond (nat_lt t n && home t == i) start idle) }

abbrev pub started_rows : ℕ → (ℕ → ℕ) → List Row
started_rows n home = table max_sites (started_row n home)

-- the number of the first of setup's tests that n entries e 0, e 1, .. fail, or 0
abbrev pub refusal_with : ℕ → ℕ → (ℕ → Entry) → ℕ
refusal_with sites n e =
    first_of
    (given 21 (not (sites_fine sites))
    ∷ given 22 (not (count_fine n))
    ∷ given 23 (not (homes_fine sites n (λ t. (e t).home)))
    ∷ given 25 (not (priorities_differ n (λ t. (e t).priority)))
    ∷ [])

-- the state that begins with n entries e 0, e 1, .. which have been copied into s
abbrev pub begun_with : ℕ → ℕ → (ℕ → Entry) → State → State
begun_with sites n e s = record {
  sites = sites;
  count = n;
  rows = started_rows n (λ t. (e t).home);
  places = s.places;
  txns = s.txns;
}

-- what setup gives for them; "A refused setup returns its number and the empty state"
abbrev pub judged_with : ℕ → ℕ → (ℕ → Entry) → State → Started
judged_with sites n e s = record {
  answer = refusal_with sites n e;
  state = cond (refusal_with sites n e == 0) (begun_with sites n e s) empty_state;
}

-- the same by the state alone
abbrev pub entries_of : State → ℕ → Entry
entries_of s t = entry_of (txn_at s t)

abbrev pub setup_refusal : ℕ → ℕ → State → ℕ
setup_refusal sites n s = refusal_with sites n (entries_of s)

abbrev pub judged_of : ℕ → ℕ → State → Started
judged_of sites n s = judged_with sites n (entries_of s) s
