-- One transaction as its home and one other site see it: the phases that it goes through. The clauses Unasked, Asked,
-- Done, Never-alone, Undone, Remote, Ready, Commit, Abort and Queued of docs/ONECOPY.md are what its constructors allow.
use Rattle.std.specs.Prelude.{ℕ, suc, ◌≤◌, ◌≡◌, refl, Bool, true, false, ◌≢◌, ◌⊎◌}
use Rattle.onecopy.specs.Words.{inl, inr, arith, idle, start, active, blocked, precommit, committed, aborted}

-- home works on it, or there is no such transaction
pub data Unasked : ℕ → Type 0 where
  absent : Unasked idle
  starts : Unasked start
  works : Unasked active
  blocks : Unasked blocked

-- it executes away from home
pub data Away : ℕ → Type 0 where
  blocks : Away blocked
  asks : Away precommit

-- how many messages about it went to a site or came from there, once it is aborted there
pub data Spent : ℕ → Type 0 where
  two : Spent 2
  three : Spent 3

-- The status at home and at the site; whether remote, ready, commit, abort are on their way between the two; whether the
-- site's ready is missing; whether it is queued there; how many messages about it went to the site or came from there.
pub data Phase : ℕ → ℕ → Bool → Bool → Bool → Bool → Bool → Bool → ℕ → Type 0 where
  early : {h : ℕ} → Unasked h → Phase h idle false false false false false false 0
  sent : Phase precommit idle true false false false true false 1
  queues : Phase precommit idle false false false false true true 1
  runs : {j : ℕ} → Away j → Phase precommit j false true false false true false 2
  acked : {j : ℕ} → Away j → Phase precommit j false false false false false false 2
  comes : {j : ℕ} → Away j → Phase committed j false false true false false false 3
  done : Phase committed committed false false false false false false 3
  quit : Phase aborted idle false false false false false false 0
  quit_sent : Phase aborted idle true false false true true false 2
  quit_queues : Phase aborted idle false false false true true true 2
  quit_runs : {j : ℕ} {r m : Bool} → Away j → Phase aborted j false r false true m false 3
  gone : {a r m : Bool} {k : ℕ} → Spent k → Phase aborted aborted a r false false m false k

-- ---- how each move changes the phase

pub create : {j k : ℕ} {a r c x m q : Bool} → Phase start j a r c x m q k → Phase active j a r c x m q k
create (early starts) = early works

pub begin_operation : {j k : ℕ} {a r c x m q : Bool} → Phase active j a r c x m q k → Phase blocked j a r c x m q k
begin_operation (early works) = early blocks

pub end_operation : {j k : ℕ} {a r c x m q : Bool} → Phase blocked j a r c x m q k → Phase active j a r c x m q k
end_operation (early blocks) = early works

pub begin_commit : {j k : ℕ} {a r c x m q : Bool} → Phase active j a r c x m q k → Phase precommit j true r c x true q (suc k)
begin_commit (early works) = sent

pub end_commit : {j k : ℕ} {a r c x q : Bool} → Phase precommit j a r c x false q k → Phase committed j a r true x false q (suc k)
end_commit (early u) = elim u [ ]
end_commit (acked e) = comes e

pub quit_active : {j k : ℕ} {a r c x m q : Bool} → Phase active j a r c x m q k → Phase aborted j a r c x m q k
quit_active (early works) = quit

pub quit_blocked : {j k : ℕ} {a r c x m q : Bool} → Phase blocked j a r c x m q k → Phase aborted j a r c x m q k
quit_blocked (early blocks) = quit

pub quit_asked : {j k : ℕ} {a r c x m q : Bool} → Phase precommit j a r c x m q k → Phase aborted j a r c true m q (suc k)
quit_asked (early u) = elim u [ ]
quit_asked sent = quit_sent
quit_asked queues = quit_queues
quit_asked (runs e) = quit_runs e
quit_asked (acked e) = quit_runs e

pub receive_ready : {j k : ℕ} {a c x m q : Bool} → Phase precommit j a true c x m q k → Phase precommit j a false c x false q k
receive_ready (runs e) = acked e

pub discard_ready : {j k : ℕ} {a r c x m q : Bool} → Phase aborted j a r c x m q k → Phase aborted j a false c x m q k
discard_ready (early u) = elim u [ ]
discard_ready quit = quit
discard_ready quit_sent = quit_sent
discard_ready quit_queues = quit_queues
discard_ready (quit_runs e) = quit_runs e
discard_ready (gone e) = gone e

pub end_away : {h k : ℕ} {a r c x m q : Bool} → Phase h blocked a r c x m q k → Phase h precommit a r c x m q k
end_away (runs blocks) = runs asks
end_away (acked blocks) = acked asks
end_away (comes blocks) = comes asks
end_away (quit_runs blocks) = quit_runs asks

pub receive_remote : {h k : ℕ} {r c x m q : Bool} → Phase h idle true r c x m q k → Phase h idle false r c x m true k
receive_remote sent = queues
receive_remote quit_sent = quit_queues

pub submit : {h k : ℕ} {a r c x m : Bool} → Phase h idle a r c x m true k → Phase h blocked a true c x m false (suc k)
submit queues = runs blocks
submit quit_queues = quit_runs blocks

pub receive_commit : {h k : ℕ} {a r x m q : Bool} → Phase h precommit a r true x m q k → Phase h committed a r false x m q k
receive_commit (comes asks) = done

pub discard_remote : {h k : ℕ} {a r c x m q : Bool} → Phase h aborted a r c x m q k → Phase h aborted false r c x m q k
discard_remote (runs u) = elim u [ ]
discard_remote (acked u) = elim u [ ]
discard_remote (comes u) = elim u [ ]
discard_remote (quit_runs u) = elim u [ ]
discard_remote (gone e) = gone e

pub receive_abort : {h j k : ℕ} {a r c m q : Bool} → Phase h j a r c true m q k → Phase h aborted a r c false m false k
receive_abort quit_sent = gone two
receive_abort quit_queues = gone two
receive_abort (quit_runs e) = gone three

-- ---- what a phase tells

pub away_unfinished : {j : ℕ} → Away j → j ≢ committed
away_unfinished blocks e = omega arith
away_unfinished asks e = omega arith

-- Done: what home has committed executes at the site or is committed there
pub home_committed : {j k : ℕ} {a r c x m q : Bool} → Phase committed j a r c x m q k → Away j ⊎ (j ≡ committed)
home_committed (early u) = elim u [ ]
home_committed (comes e) = inl e
home_committed done = inr refl

-- Never-alone: what the site has committed home has committed
pub site_committed : {h k : ℕ} {a r c x m q : Bool} → Phase h committed a r c x m q k → h ≡ committed
site_committed (runs u) = elim u [ ]
site_committed (acked u) = elim u [ ]
site_committed (comes u) = elim u [ ]
site_committed (quit_runs u) = elim u [ ]
site_committed done = refl

-- Undone: what is aborted at the site is aborted at home
pub site_aborted : {h k : ℕ} {a r c x m q : Bool} → Phase h aborted a r c x m q k → h ≡ aborted
site_aborted (runs u) = elim u [ ]
site_aborted (acked u) = elim u [ ]
site_aborted (comes u) = elim u [ ]
site_aborted (quit_runs u) = elim u [ ]
site_aborted (gone e) = refl

-- Asked: what home asks for, and the site has answered, executes at the site
pub answered : {j k : ℕ} {a r c x q : Bool} → Phase precommit j a r c x false q k → Away j
answered (early u) = elim u [ ]
answered (acked e) = e

-- Commit: home has committed what a commit is about
pub commit_told : {h j k : ℕ} {a r x m q : Bool} → Phase h j a r true x m q k → h ≡ committed
commit_told (comes e) = refl

-- Abort: the site has not committed what an abort is about
pub abort_told : {h j k : ℕ} {a r c m q : Bool} → Phase h j a r c true m q k → j ≢ committed
abort_told quit_sent e = omega arith
abort_told quit_queues e = omega arith
abort_told (quit_runs x) e = away_unfinished x e

-- Unasked: while home is blocked on it, the site has never heard of it
pub unasked_idle : {j k : ℕ} {a r c x m q : Bool} → Phase blocked j a r c x m q k → j ≡ idle
unasked_idle (early blocks) = refl

-- no message is on its way that is sent again
pub no_remote : {j k : ℕ} {a r c x m q : Bool} → Phase active j a r c x m q k → a ≡ false
no_remote (early works) = refl

pub no_ready : {h j k : ℕ} {a r c x m : Bool} → Phase h j a r c x m true k → r ≡ false
no_ready queues = refl
no_ready quit_queues = refl

pub asked-quiet : {j k : ℕ} {a r c x m q : Bool} → Phase precommit j a r c x m q k → (c ≡ false) × (x ≡ false)
asked-quiet (early u) = elim u [ ]
asked-quiet sent = (refl, refl)
asked-quiet queues = (refl, refl)
asked-quiet (runs e) = (refl, refl)
asked-quiet (acked e) = (refl, refl)

-- no commit and no abort is on its way to a site where it is aborted
pub aborted-quiet : {h k : ℕ} {a r c x m q : Bool} → Phase h aborted a r c x m q k → (c ≡ false) × (x ≡ false)
aborted-quiet (runs u) = elim u [ ]
aborted-quiet (acked u) = elim u [ ]
aborted-quiet (comes u) = elim u [ ]
aborted-quiet (quit_runs u) = elim u [ ]
aborted-quiet (gone e) = (refl, refl)

-- the messages of one site: three where home has committed, else at most three
pub spent_committed : {j k : ℕ} {a r c x m q : Bool} → Phase committed j a r c x m q k → k ≡ 3
spent_committed (early u) = elim u [ ]
spent_committed (comes e) = refl
spent_committed done = refl

pub spent_most : {h j k : ℕ} {a r c x m q : Bool} → Phase h j a r c x m q k → k ≤ 3
spent_most (early e) = omega arith
spent_most sent = omega arith
spent_most queues = omega arith
spent_most (runs e) = omega arith
spent_most (acked e) = omega arith
spent_most (comes e) = omega arith
spent_most done = omega arith
spent_most quit = omega arith
spent_most quit_sent = omega arith
spent_most quit_queues = omega arith
spent_most (quit_runs e) = omega arith
spent_most (gone two) = omega arith
spent_most (gone three) = omega arith
