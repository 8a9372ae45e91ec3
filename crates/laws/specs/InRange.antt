-- What the range test tests, as facts: a state in range has them, and a state that has them is in range.
use Rattle.std.specs.Prelude.{ℕ, ◌+◌, ◌^◌, ◌≤◌, ◌<◌, ◌≡◌, refl, Bool, true, not, cond, ◌&&◌, ◌||◌, ◌⊎◌, List, take, ◌==◌, nat_lt, nat_le, slice_index_or}
use Rattle.std.proofs.Common.{sym, ap, ◌∙◌, inl, inr, ⊎_elim, not-suc-le-zero, arith, ltb-true, ltb-false, leb-true, eqb-true, lt-ltb, le-leb, eq-eqb, ne_eqb}
use Rattle.std.proofs.lemmas.Bool.{false≢true, eqb-false, not-true}
use Rattle.std.proofs.lemmas.Nat.{and_le_r}
use Rattle.sets.specs.Set.{width, has, none, with, without, union, those, first, minus, is_empty}
use Rattle.sets.specs.Laws.{has-none, has-union, has-with, has-without, has-those, has_first, part_out, part_in, first_lt}
use Rattle.protocol.specs.Lists.{all_below, all_of, times}
use Rattle.protocol.specs.State.{max_sites, max_txns, objects, idle, committed, aborted, row_at, place_at, txn_at, txn_in, status_in, log_of, version_in, ready_in}
use Rattle.protocol.specs.Setup.{sites_fine, count_fine}
use Rattle.protocol.specs.Range.{within, table_fine, txn_fine, statuses_fine, channel_fine, versions_fine, queue_fine, log_fine, site_fine, in_range}
use Rattle.protocol.specs.declared.Row.{Row}
use Rattle.protocol.specs.declared.Log.{Log}
use Rattle.protocol.specs.declared.Channel.{Channel}
use Rattle.protocol.specs.declared.Place.{Place}
use Rattle.protocol.specs.declared.Txn.{Txn}
use Rattle.protocol.specs.declared.State.{State}
use Rattle.laws.specs.Tests.{Test, yes_so, not_so, test, both, both_left, both_right, either}
use Rattle.laws.specs.Lists.{all_at, all_by}

-- ---- a set that names only numbers below n

-- every member of m is below n
abbrev pub Below : ℕ → ℕ → Type 0
Below n m = (k : ℕ) → has m k ≡ true → k < n

-- which is what the test tells
below_out : (n m : ℕ) → within n m ≡ true → Below n m
unfolding within
below_out n m h k i =
    ltb-true k n (both_left (nat_lt k n) (nat_lt k width) (sym (has_first width n k) ∙ part_out m (first n) k h i))

below_in : (n m : ℕ) → n ≤ width → Below n m → within n m ≡ true
unfolding within
below_in n m l f =
    part_in m (first n) (λ k i.
    has_first width n k
    ∙ both (nat_lt k n) (nat_lt k width) (lt-ltb k n (f k i)) (lt-ltb k width (omega (arith, f k i))))

-- such a set fits the width
pub below_lt : (n m : ℕ) → n ≤ width → Below n m → m < 2 ^ width
unfolding within is_empty minus
below_lt n m l f =
    omega (arith, eqb-true (minus m (first n)) 0 (below_in n m l f), and_le_r m (first n), first_lt width n)

-- the empty set names none
pub in_none : (k : ℕ) → has none k ≡ true → ⊥
in_none k i = false≢true (sym (has-none k) ∙ i)

pub below_none : (n : ℕ) → Below n none
below_none n k i = absurd (in_none k i)

-- and so it is of each set that is made of such
pub below_union : (n a b : ℕ) → Below n a → Below n b → Below n (union a b)
below_union n a b f g k i = ⊎_elim (f k) (g k) (either _ _ (sym (has-union a b k) ∙ i))

-- what is in a set without k was in it
pub in_without : (m k j : ℕ) → has (without m k) j ≡ true → has m j ≡ true
in_without m k j i = both_left _ _ (sym (has-without m k j) ∙ i)

pub below_without : (n m k : ℕ) → Below n m → Below n (without m k)
below_without n m k f j i = f j (in_without m k j i)

-- what is in a set with k was in it or is k
pub in_with : (m k j : ℕ) → has (with m k) j ≡ true → (has m j ≡ true) ⊎ (j ≡ k)
in_with m k j i =
    ⊎_elim inl (λ e. inr (eqb-true j k (both_left _ _ e))) (either _ _ (sym (has-with width m k j) ∙ i))

pub below_with : (n m k : ℕ) → Below n m → k < n → Below n (with m k)
below_with n m k f l j i = ⊎_elim (f j) (λ e. omega arith) (in_with m k j i)

pub below_those : (n : ℕ) (p : ℕ → Bool) → Below n (those n p)
below_those n p k i = ltb-true k n (both_left _ (p k) (sym (has-those n p k) ∙ i))

-- ---- the pieces of a state, each with the facts that are tested of it

-- of a transaction: the missing set and the noted versions
pub record TxnFine (sites n : ℕ) (x : Txn) : Type 0 where
  pub missing : Below sites x.missing
  pub noted : (o : ℕ) → o < objects → slice_index_or x.noted o 0 ≤ n + 1

-- of a channel: the transactions that messages are about, and the senders
pub record ChannelFine (sites n : ℕ) (c : Channel) : Type 0 where
  pub remote : Below n c.remote
  pub commit : Below n c.commit
  pub abort : Below n c.abort
  pub ready : (t k : ℕ) → t < max_txns → has (ready_in c t) k ≡ true → (t < n) × (k < sites)

-- of a transaction t in the queue of site i, where the statuses are r
pub record Queued (n : ℕ) (xs : List Txn) (i : ℕ) (r : Row) (t : ℕ) : Type 0 where
  pub known : t < n
  pub away : (txn_in xs t).home ≡ i → ⊥
  pub idles : status_in r t ≡ idle

-- of the whole queue q
abbrev pub QueueFine : ℕ → List Txn → ℕ → Row → ℕ → Type 0
QueueFine n xs i r q = (t : ℕ) → has q t ≡ true → Queued n xs i r t

-- of the statuses r
abbrev pub StatusesFine : ℕ → Row → Type 0
StatusesFine n r = (t : ℕ) → t < n → status_in r t ≤ aborted

-- of the versions of a site
abbrev pub VersionsFine : ℕ → Place → Type 0
VersionsFine n p = (o : ℕ) → o < objects → version_in p o ≤ n

-- the transactions that a log holds
abbrev pub entries_of : Log → List ℕ
entries_of l = take l.length l.entries

-- of the log of a site, where the statuses are r
pub record LogFine (n : ℕ) (r : Row) (l : Log) : Type 0 where
  pub short : l.length ≤ max_txns
  pub known : all_of (λ t. nat_lt t n) (entries_of l) ≡ true
  pub once : (t : ℕ) → t < n → times t (entries_of l) ≡ cond (status_in r t == committed) 1 0

-- of site i
pub record SiteFine (sites n : ℕ) (xs : List Txn) (i : ℕ) (r : Row) (p : Place) : Type 0 where
  pub statuses : StatusesFine n r
  pub channel : ChannelFine sites n p.channel
  pub versions : VersionsFine n p
  pub queue : QueueFine n xs i r p.queue
  pub log : LogFine n r p.log

-- of a state. No action changes its counts, homes or priorities, so the test of these stays a test.
pub record InRange (s : State) : Type 0 where
  pub table : table_fine s ≡ true
  pub txn : (t : ℕ) → t < s.count → TxnFine s.sites s.count (txn_at s t)
  pub site : (i : ℕ) → i < s.sites → SiteFine s.sites s.count s.txns i (row_at s i) (place_at s i)

-- ---- what the test of the counts says of them

pub sites_fit : (s : State) → table_fine s ≡ true → s.sites ≤ max_sites
unfolding table_fine sites_fine
sites_fit s h = leb-true s.sites max_sites (both_right (nat_le 1 s.sites) _ (both_left _ _ h))

pub count_fits : (s : State) → table_fine s ≡ true → s.count ≤ max_txns
unfolding table_fine count_fine
count_fits s h =
    leb-true s.count max_txns
    (both_right (nat_le 1 s.count) _ (both_left _ _ (both_right (sites_fine s.sites) _ h)))

-- ---- each test and the facts, in both directions

txn_out : (sites n : ℕ) (x : Txn) → txn_fine sites n x ≡ true → TxnFine sites n x
unfolding txn_fine
txn_out sites n x h =
    let rest = both_right (within sites x.missing) _ h in
    record {
      missing = below_out sites x.missing (both_left _ _ h);
      noted = λ o l. leb-true _ (n + 1) (all_at objects _ o rest l);
    }

txn_in_lem : (sites n : ℕ) (x : Txn) → sites ≤ max_sites → TxnFine sites n x → txn_fine sites n x ≡ true
unfolding txn_fine
txn_in_lem sites n x l f =
    both _ _ (below_in sites x.missing (omega arith) f.missing)
    (all_by objects _ (λ o m. le-leb _ (n + 1) (f.noted o m)))

statuses_out : (n : ℕ) (r : Row) → statuses_fine n r ≡ true → StatusesFine n r
unfolding statuses_fine
statuses_out n r h t l = leb-true (status_in r t) aborted (all_at n _ t h l)

statuses_in : (n : ℕ) (r : Row) → StatusesFine n r → statuses_fine n r ≡ true
unfolding statuses_fine
statuses_in n r f = all_by n _ (λ t l. le-leb (status_in r t) aborted (f t l))

versions_out : (n : ℕ) (p : Place) → versions_fine n p ≡ true → VersionsFine n p
unfolding versions_fine
versions_out n p h o l = leb-true (version_in p o) n (all_at objects _ o h l)

versions_in : (n : ℕ) (p : Place) → VersionsFine n p → versions_fine n p ≡ true
unfolding versions_fine
versions_in n p f = all_by objects _ (λ o l. le-leb (version_in p o) n (f o l))

-- the senders of ready about t: sites where t is in the table, else none
ready_out : (sites n t k m : ℕ) → within (cond (nat_lt t n) sites 0) m ≡ true → has m k ≡ true → (t < n) × (k < sites)
ready_out sites n t k m h i = go (test (nat_lt t n))
  where
    go : Test (nat_lt t n) → (t < n) × (k < sites)
    go (yes_so e) = (ltb-true t n e, below_out sites m (rw e at h) k i)
    go (not_so e) = absurd (not-suc-le-zero (below_out 0 m (rw e at h) k i))

ready_in_lem : (sites n t m : ℕ) → sites ≤ max_sites → ((k : ℕ) → has m k ≡ true → (t < n) × (k < sites))
    → within (cond (nat_lt t n) sites 0) m ≡ true
ready_in_lem sites n t m l f = go (test (nat_lt t n))
  where
    go : Test (nat_lt t n) → within (cond (nat_lt t n) sites 0) m ≡ true
    go (yes_so e) = rw e (below_in sites m (omega arith) (λ k i. (f k i).1))
    go (not_so e) = rw e (below_in 0 m (omega arith) (λ k i. absurd (omega (arith, (f k i).0, ltb-false t n e))))

channel_out : (sites n : ℕ) (c : Channel) → channel_fine sites n c ≡ true → ChannelFine sites n c
unfolding channel_fine
channel_out sites n c h =
    let commits = both_right (within n c.remote) _ h in
    let aborts = both_right (within n c.commit) _ commits in
    let readies = both_right (within n c.abort) _ aborts in
    record {
      remote = below_out n c.remote (both_left _ _ h);
      commit = below_out n c.commit (both_left _ _ commits);
      abort = below_out n c.abort (both_left _ _ aborts);
      ready = λ t k l i. ready_out sites n t k (ready_in c t) (all_at max_txns _ t readies l) i;
    }

channel_in : (sites n : ℕ) (c : Channel) → sites ≤ max_sites → n ≤ max_txns → ChannelFine sites n c
    → channel_fine sites n c ≡ true
unfolding channel_fine
channel_in sites n c ls ln f =
    both _ _ (below_in n c.remote ln f.remote)
    (both _ _ (below_in n c.commit ln f.commit)
    (both _ _ (below_in n c.abort ln f.abort)
    (all_by max_txns _ (λ t l. ready_in_lem sites n t (ready_in c t) ls (λ k. f.ready t k l)))))

queue_out : (n : ℕ) (xs : List Txn) (i : ℕ) (r : Row) (q : ℕ) → queue_fine n xs i r q ≡ true → QueueFine n xs i r q
unfolding queue_fine
queue_out n xs i r q h t m =
    let l = below_out n q (both_left _ _ h) t m in
    let rest = both_right (within n q) _ h in
    let e = rw m at (all_at n _ t rest l) in
    record {
      known = l;
      away = eqb-false _ i (not-true _ (both_left _ (status_in r t == idle) e));
      idles = eqb-true _ idle (both_right (not ((txn_in xs t).home == i)) _ e);
    }

queue_in : (n : ℕ) (xs : List Txn) (i : ℕ) (r : Row) (q : ℕ) → n ≤ max_txns → QueueFine n xs i r q
    → queue_fine n xs i r q ≡ true
unfolding queue_fine
queue_in n xs i r q ln f =
    both _ _ (below_in n q ln (λ k m. (f k m).known)) (all_by n _ (λ t l. go t (test (has q t))))
  where
    go : (t : ℕ) → Test (has q t)
        → (not (has q t) || (not ((txn_in xs t).home == i) && status_in r t == idle)) ≡ true
    go t (yes_so m) =
        rw m
        (both _ _ (ap not (ne_eqb (txn_in xs t).home i (f t m).away)) (eq-eqb (status_in r t) idle (f t m).idles))
    go t (not_so m) = rw m refl

log_out : (n : ℕ) (r : Row) (p : Place) → log_fine n r p ≡ true → LogFine n r p.log
unfolding log_fine
log_out n r p h =
    let rest = both_right (nat_le p.log.length max_txns) _ h in
    let counted = both_right (all_of (λ t. nat_lt t n) (log_of p)) _ rest in
    record {
      short = leb-true p.log.length max_txns (both_left _ _ h);
      known = both_left _ _ rest;
      once = λ t l. eqb-true _ _ (all_at n _ t counted l);
    }

log_in : (n : ℕ) (r : Row) (p : Place) → LogFine n r p.log → log_fine n r p ≡ true
unfolding log_fine
log_in n r p f =
    both _ _ (le-leb p.log.length max_txns f.short)
    (both _ _ f.known (all_by n _ (λ t l. eq-eqb _ _ (f.once t l))))

site_out : (sites n : ℕ) (xs : List Txn) (i : ℕ) (r : Row) (p : Place) → site_fine sites n xs i r p ≡ true
    → SiteFine sites n xs i r p
unfolding site_fine
site_out sites n xs i r p h =
    let channels = both_right (statuses_fine n r) _ h in
    let versions = both_right (channel_fine sites n p.channel) _ channels in
    let queues = both_right (versions_fine n p) _ versions in
    record {
      statuses = statuses_out n r (both_left _ _ h);
      channel = channel_out sites n p.channel (both_left _ _ channels);
      versions = versions_out n p (both_left _ _ versions);
      queue = queue_out n xs i r p.queue (both_left _ _ queues);
      log = log_out n r p (both_right (queue_fine n xs i r p.queue) _ queues);
    }

site_in : (sites n : ℕ) (xs : List Txn) (i : ℕ) (r : Row) (p : Place) → sites ≤ max_sites → n ≤ max_txns
    → SiteFine sites n xs i r p → site_fine sites n xs i r p ≡ true
unfolding site_fine
site_in sites n xs i r p ls ln f =
    both _ _ (statuses_in n r f.statuses)
    (both _ _ (channel_in sites n p.channel ls ln f.channel)
    (both _ _ (versions_in n p f.versions)
    (both _ _ (queue_in n xs i r p.queue ln f.queue) (log_in n r p f.log))))

-- a state in range has the facts
pub range_out : (s : State) → in_range s ≡ true → InRange s
unfolding in_range
range_out s h =
    let rest = both_right (table_fine s) _ h in
    let tested : Bool = all_below s.count (λ t. txn_fine s.sites s.count (txn_at s t)) in
    let txns = both_left tested _ rest in
    let sites = both_right tested _ rest in
    record {
      table = both_left _ _ h;
      txn = λ t l. txn_out s.sites s.count (txn_at s t) (all_at s.count _ t txns l);
      site = λ i l.
          site_out s.sites s.count s.txns i (row_at s i) (place_at s i)
          (all_at s.sites _ i sites l);
    }

-- a state that has the facts is in range
pub range_in : (s : State) → InRange s → in_range s ≡ true
unfolding in_range
range_in s f =
    let ls = sites_fit s f.table in
    let ln = count_fits s f.table in
    both _ _ f.table
    (both _ _ (all_by s.count _ (λ t l. txn_in_lem s.sites s.count (txn_at s t) ls (f.txn t l)))
    (all_by s.sites _ (λ i l.
    site_in s.sites s.count s.txns i (row_at s i) (place_at s i) ls ln (f.site i l))))
