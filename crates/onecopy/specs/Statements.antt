-- What a rehearsal promises of one copy, as the customer says it. The definitions stand here with the claims; the proofs
-- stand in Theorem.antt.
use Rattle.std.specs.Prelude.{ℕ, ◌+◌, ◌*◌, ◌-◌, ◌≤◌, ◌<◌, ◌≡◌, Bool, true, false, cond, ◌&&◌, ◌==◌, slice_index_or}
use mathlib.Core.List.{List, [], ◌∷◌, ◌++◌, Memᴰ}
use Rattle.sets.specs.Set.{has, none}
use Rattle.protocol.specs.State.{objects, committed, aborted, status_at, place_at, txn_at, log_of, version_in}
use Rattle.protocol.specs.Channel.{lies, others}
use Rattle.protocol.specs.Figure.{only}
use Rattle.protocol.specs.Answer.{action_of, answer, step}
use Rattle.protocol.specs.declared.Message.{Message}
use Rattle.protocol.specs.declared.Message.TheVariants.{Remote, Ready, Commit, Abort}
use Rattle.protocol.specs.declared.Action.{Action}
use Rattle.protocol.specs.declared.Action.TheVariants.{Create, BeginOperation, EndOperation, BeginCommit, EndCommit, LocalAbort, Receive, ExecuteRemote, Discard}
use Rattle.protocol.specs.declared.Event.{Event}
use Rattle.protocol.specs.declared.State.{State}
use Rattle.laws.specs.Count.{total}
use Rattle.laws.specs.Scanned.{scanned}

-- ---- lists of transactions

-- t is in the list
abbrev pub In : ℕ → List ℕ → Type 0
In t l = Memᴰ t l

-- t stands in the list, and u stands after it
pub data Before (t u : ℕ) : List ℕ → Type 0 where
  now : {x : ℕ} {l : List ℕ} → t ≡ x → In u l → Before t u (x ∷ l)
  later : {x : ℕ} {l : List ℕ} → Before t u l → Before t u (x ∷ l)

-- no transaction stands twice in the list
abbrev pub Once : List ℕ → Type 0
Once l = (t : ℕ) → Before t t l → ⊥

-- ---- L: the transactions committed at their own home, in that order

-- the transactions that an action, once it is done, has committed at their home: end_commit commits its own there, and no
-- other action does so
unfoldable pub commits_home : Action → ℕ → List ℕ
commits_home Create t = []
commits_home (BeginOperation r w) t = []
commits_home EndOperation t = []
commits_home BeginCommit t = []
commits_home EndCommit t = t ∷ []
commits_home LocalAbort t = []
commits_home (Receive m) t = []
commits_home ExecuteRemote t = []
commits_home (Discard m) t = []

-- L of a run of the events from s; a refused event commits nothing
unfoldable pub listed : State → List Event → List ℕ
listed s [] = []
listed s (e ∷ es) = cond (answer s e == 0) (commits_home (action_of e) e.txn) [] ++ listed (step s e).state es

-- ---- a single copy

-- t writes o
abbrev pub writes_of : State → ℕ → ℕ → Bool
writes_of s t o = has (txn_at s t).writes o

-- what t noted of o: 0 for nothing, v + 1 for version v
abbrev pub noted_of : State → ℕ → ℕ → ℕ
noted_of s t o = slice_index_or (txn_at s t).noted o 0

-- The versions of a single copy after t has run on it, where `writes` tells who writes what and `copy` has the versions
-- before: version t + 1 of each object that it writes.
abbrev pub ran_on : (ℕ → ℕ → Bool) → (ℕ → ℕ) → ℕ → ℕ → ℕ
ran_on writes copy t o = cond (writes t o) (t + 1) (copy o)

-- .. and after the transactions of a list have run on it, one after another
abbrev pub replay : (ℕ → ℕ → Bool) → (ℕ → ℕ) → List ℕ → ℕ → ℕ
replay writes copy [] = copy
replay writes copy (t ∷ l) = replay writes (ran_on writes copy t) l

-- .. from a fresh copy, where every version is 0
abbrev pub serially : State → List ℕ → ℕ → ℕ
serially s l = replay (writes_of s) (λ o. 0) l

-- ---- messages

-- what an action sends: about which transactions remote, commit and abort go to all other sites, and about which ones
-- ready goes to their home
pub record Sendings : Type 0 where
  pub remote : ℕ
  pub commit : ℕ
  pub abort : ℕ
  pub ready : ℕ

abbrev pub nothing : Sendings
nothing = record { remote = none; commit = none; abort = none; ready = none }

-- .. an action that is done at site i for t
unfoldable pub sendings : Action → State → ℕ → ℕ → Sendings
sendings Create s i t = nothing
sendings (BeginOperation r w) s i t = nothing
sendings EndOperation s i t = nothing
sendings BeginCommit s i t = record { remote = only t; commit = none; abort = none; ready = none }
sendings EndCommit s i t = record { remote = none; commit = only t; abort = none; ready = none }
sendings LocalAbort s i t = nothing
sendings (Receive m) s i t = nothing
sendings ExecuteRemote s i t =
    record { remote = none; commit = none; abort = (scanned s i).aborts; ready = (scanned s i).readies }
sendings (Discard m) s i t = nothing

-- site i, which sends x, sends the message m about u to site j
unfoldable pub sends : State → ℕ → Sendings → Message → ℕ → ℕ → Bool
sends s i x Remote j u = has x.remote u && has (others s i) j
sends s i x (Ready k) j u = has x.ready u && (k == i && (txn_at s u).home == j)
sends s i x Commit j u = has x.commit u && has (others s i) j
sends s i x Abort j u = has x.abort u && has (others s i) j

-- "Each message counts for the transaction it is about": how many messages about u site i sends
unfoldable pub sent_about : State → ℕ → Sendings → ℕ → ℕ
sent_about s i x u =
    total s.sites (λ j.
    cond (sends s i x Remote j u) 1 0
    + (cond (sends s i x (Ready i) j u) 1 0
    + (cond (sends s i x Commit j u) 1 0 + cond (sends s i x Abort j u) 1 0)))

-- what a run of the events from s has sent about u; a refused event sends nothing
unfoldable pub cost : State → List Event → ℕ → ℕ
cost s [] u = 0
cost s (e ∷ es) u =
    cond (answer s e == 0) (sent_about s e.site (sendings (action_of e) s e.site e.txn) u) 0
    + cost (step s e).state es u

-- ---- the claims about copies, of a state s and a list l that stands for L

-- "None is committed at one site and aborted at another."
abbrev pub OneFate : State → Type 0
OneFate s =
    (t i j : ℕ) → t < s.count → i < s.sites → j < s.sites → status_at s i t ≡ committed → status_at s j t ≡ aborted → ⊥

-- "In each site's commit log, two that write a common object stand in L's order."
abbrev pub LogOrder : State → List ℕ → Type 0
LogOrder s l =
    (i t u o : ℕ) → i < s.sites → writes_of s t o ≡ true → writes_of s u o ≡ true → Before t u (log_of (place_at s i))
    → Before t u l

-- "Run one after another on a single copy, L gives every noted read of a listed transaction the version it noted."
abbrev pub SerialReads : State → List ℕ → Type 0
SerialReads s l =
    (before : List ℕ) (t : ℕ) (after : List ℕ) → l ≡ before ++ (t ∷ after) → (o v : ℕ) → noted_of s t o ≡ v + 1
    → serially s before o ≡ v

-- "Each site that has committed the whole list stores the versions that replay gives."
abbrev pub SerialCopies : State → List ℕ → Type 0
SerialCopies s l =
    (i : ℕ) → i < s.sites → ((t : ℕ) → In t l → status_at s i t ≡ committed) → (o : ℕ) → o < objects
    → version_in (place_at s i) o ≡ serially s l o

-- ---- all claims, of a run of the events `es` from s₀ that sent `sum` messages and came to the state s

pub record OneCopy (s₀ : State) (es : List Event) (sum : ℕ) (s : State) : Type 0 where
  -- L has "the transactions committed at their own home", and no others
  pub committed-listed : (t : ℕ) → t < s.count → status_at s (txn_at s t).home t ≡ committed → In t (listed s₀ es)
  pub listed-committed : (t : ℕ) → In t (listed s₀ es) → (t < s.count) × (status_at s (txn_at s t).home t ≡ committed)
  pub one_fate : OneFate s
  pub log_order : LogOrder s (listed s₀ es)
  pub serial_reads : SerialReads s (listed s₀ es)
  pub serial_copies : SerialCopies s (listed s₀ es)
  -- "No transaction stands twice in L or in a log."
  pub list_once : Once (listed s₀ es)
  pub log_once : (i : ℕ) → i < s.sites → Once (log_of (place_at s i))
  -- "a transaction committed at home has cost exactly 3 × (sites − 1), any other at most that; the run's sum is the sum
  -- of these costs"
  pub cost-committed : (t : ℕ) → t < s.count → status_at s (txn_at s t).home t ≡ committed
      → cost s₀ es t ≡ 3 * (s.sites - 1)
  pub cost_bound : (t : ℕ) → t < s.count → cost s₀ es t ≤ 3 * (s.sites - 1)
  pub cost_sum : sum ≡ total s.count (cost s₀ es)
  -- "no message is sent that already lies in its channel": whatever event follows, if it is done
  pub no_doubles : (e : Event) → answer s e ≡ 0 → (m : Message) (j u : ℕ)
      → sends s e.site (sendings (action_of e) s e.site e.txn) m j u ≡ true
      → lies m u (place_at s j).channel ≡ false
  -- "no commit or abort message lies in a channel for a transaction aborted there"
  pub aborted-quiet : (j t : ℕ) → j < s.sites → t < s.count → status_at s j t ≡ aborted
      → (lies Commit t (place_at s j).channel ≡ false) × (lies Abort t (place_at s j).channel ≡ false)
