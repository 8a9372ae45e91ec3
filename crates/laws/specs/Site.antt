-- What may happen at a site, each with what it keeps: the lengths, and the facts of the range test.
use Rattle.std.specs.Prelude.{ℕ, ◌+◌, ◌≤◌, ◌<◌, ◌≡◌, Bool, true, false, List, [], ◌∷◌, ◌++◌, length, ◌==◌, slice_index_or, nat_lt}
use Rattle.std.proofs.Math.Path.{refl}
use Rattle.std.proofs.Common.{sym, ap, ◌∙◌, subst, ⊎_elim, add-one, arith, length-set, length-take-le, take-suc-set, get_or-set_other}
use Rattle.std.proofs.Math.Bool.{cond}
use Rattle.std.proofs.lemmas.Bool.{false≢true}
use Rattle.std.proofs.Math.Seq.{get_or-set_same}
use borrow.Author.Tests.{lt-ltb, eq-eqb, ne_eqb}
use Rattle.sets.specs.Set.{has, none, with, without}
use Rattle.protocol.specs.Lists.{all_of, times}
use Rattle.protocol.specs.State.{max_txns, idle, committed, aborted, status_in, ready_in, row_with, with_queue, with_channel}
use Rattle.protocol.specs.Database.{woken, appended, stored}
use Rattle.protocol.specs.Channel.{taken, ready_with, put, received}
use Rattle.protocol.specs.declared.Message.{Message}
use Rattle.protocol.specs.declared.Message.TheVariants.{Remote, Ready, Commit, Abort}
use Rattle.protocol.specs.declared.Row.{Row}
use Rattle.protocol.specs.declared.Log.{Log}
use Rattle.protocol.specs.declared.Channel.{Channel}
use Rattle.protocol.specs.declared.Place.{Place}
use Rattle.protocol.specs.declared.Txn.{Txn}
use Rattle.laws.specs.Tests.{Same, same, other, same?, both}
use Rattle.laws.specs.Lists.{length-each, all_append, times-append}
use Rattle.laws.specs.Read.{cond_keeps, set_keeps, some_keeps}
use Rattle.laws.specs.Count.{short_of}
use Rattle.laws.specs.Shape.{RowShaped, PlaceShaped}
use Rattle.laws.specs.InRange.{Below, below_union, below_without, in_without, in_with, ChannelFine, QueueFine, StatusesFine, entries_of, LogFine, SiteFine}

-- ---- statuses

-- every status of r' is fine, and is committed exactly where that of r is
pub record Moved (n : ℕ) (r r' : Row) : Type 0 where
  pub statuses : StatusesFine n r'
  pub commits : (u : ℕ) → u < n → (status_in r' u == committed) ≡ (status_in r u == committed)

-- t takes the status v: the statuses are as many as before
set_shaped : (r : Row) (t v : ℕ) → RowShaped r → RowShaped (row_with r t v)
set_shaped r t v h = record { status = length-set r.status t v ∙ h.status }

-- they are fine where v is a status
set_statuses : (n : ℕ) (r : Row) (t v : ℕ) → StatusesFine n r → v ≤ aborted → StatusesFine n (row_with r t v)
set_statuses n r t v f l u h = set_keeps (λ (w : ℕ). w ≤ aborted) r.status t u v idle (λ e. l) (f u h)

-- they are moved where neither the old status of t nor the new one is committed
pub set-moved : (n : ℕ) (r : Row) (t v : ℕ) → StatusesFine n r → (status_in r t ≡ committed → ⊥) → v ≤ aborted
    → (v ≡ committed → ⊥) → Moved n r (row_with r t v)
set-moved n r t v f old l new = record {
  statuses = set_statuses n r t v f l;
  commits = λ u h.
      set_keeps (λ (w : ℕ). (w == committed) ≡ (status_in r u == committed)) r.status t u v idle
      (λ e. ne_eqb v committed new ∙ sym (ne_eqb (status_in r u) committed (λ c. old (ap (status_in r) (sym e) ∙ c)))) refl;
}

-- then the log stays fine
pub moved_log : {n : ℕ} {r r' : Row} {l : Log} → Moved n r r' → LogFine n r l → LogFine n r' l
moved_log m f = record {
  short = f.short;
  known = f.known;
  once = λ u h. f.once u h ∙ ap (λ (b : Bool). cond b 1 0) (sym (m.commits u h));
}

-- a queue that has no new member, and of whose members none takes another status
pub queue_kept : (n : ℕ) (xs : List Txn) (i : ℕ) (r r' : Row) (q q' : ℕ) → QueueFine n xs i r q
    → ((u : ℕ) → has q' u ≡ true → (has q u ≡ true) × (status_in r' u ≡ status_in r u)) → QueueFine n xs i r' q'
queue_kept n xs i r r' q q' f g u m =
    let old = f u (g u m).0 in
    record { known = old.known; away = old.away; idles = (g u m).1 ∙ old.idles }

-- t takes the status v, and is not in the queue
pub queue_apart : (n : ℕ) (xs : List Txn) (i : ℕ) (r : Row) (q t v : ℕ) → QueueFine n xs i r q → has q t ≡ false
    → QueueFine n xs i (row_with r t v) q
queue_apart n xs i r q t v f out =
    queue_kept n xs i r (row_with r t v) q q f (λ u m.
    (m, get_or-set_other r.status t u v idle (λ e. false≢true (sym out ∙ ap (has q) (sym e) ∙ m))))

-- a transaction that is not idle is not in the queue
pub not-queued : {n : ℕ} {xs : List Txn} {i : ℕ} {r : Row} (q t : ℕ) → QueueFine n xs i r q
    → (status_in r t ≡ idle → ⊥) → has q t ≡ false
not-queued q t f h = go (has q t) refl
  where
    go : (b : Bool) → has q t ≡ b → b ≡ false
    go true e = absurd (h (f t e).idles)
    go false e = refl

-- ---- the log

-- t commits that had not, so that the log holds others only and each once
module _ (n : ℕ) (r : Row) (l : Log) (t : ℕ) (fits : n ≤ max_txns) (he : length l.entries ≡ max_txns) (h : t < n)
    (old : status_in r t ≡ committed → ⊥) (f : LogFine n r l) where
  none_yet : times t (entries_of l) ≡ 0
  none_yet = f.once t h ∙ ap (λ (b : Bool). cond b 1 0) (ne_eqb (status_in r t) committed old)

  -- it has room for t
  log_room : l.length < max_txns
  log_room =
      omega (
        arith,
        length-take-le l.length l.entries (omega (arith, f.short)),
        short_of n (entries_of l) t f.known
            (λ u m. subst (λ (k : ℕ). k ≤ 1) (sym (f.once u m)) (at_most (status_in r u == committed))) h none_yet,
      )
    where
      at_most : (b : Bool) → cond b 1 0 ≤ 1
      at_most true = omega arith
      at_most false = omega arith

  -- and then holds t at its end
  pub log_grown : entries_of (appended l t) ≡ entries_of l ++ (t ∷ [])
  unfolding appended
  log_grown =
      rw (lt-ltb l.length max_txns log_room, add-one)
      (take-suc-set l.entries l.length t (omega (arith, log_room)))

  -- so it stays fine
  log_appended : length r.status ≡ max_txns → LogFine n (row_with r t committed) (appended l t)
  unfolding appended all_of times
  log_appended hr = record {
    short = rw (lt-ltb l.length max_txns log_room) (omega (arith, log_room));
    known = rw log_grown (all_append (λ u. nat_lt u n) (entries_of l) (t ∷ []) f.known (both _ _ (lt-ltb t n h) refl));
    once = λ u m. rw log_grown (times-append u (entries_of l) (t ∷ []) ∙ counted u m (same? u t));
  }
    where
      counted : (u : ℕ) → u < n → Same u t
          → times u (entries_of l) + (cond (t == u) 1 0 + 0) ≡ cond (status_in (row_with r t committed) u == committed) 1 0
      counted u m (same e) =
          rw (e, none_yet, eq-eqb t t refl, get_or-set_same r.status t committed idle (omega arith))
      counted u m (other d) =
          rw (get_or-set_other r.status t u committed idle d, ne_eqb t u (λ e. d (sym e))) (omega (arith, f.once u m))

-- the room of the log stays as it is
log_length : (l : Log) (t : ℕ) → length (appended l t).entries ≡ length l.entries
unfolding appended
log_length l t =
    cond_keeps (λ (m : Log). length m.entries ≡ length l.entries) (nat_lt l.length max_txns) _ l
    (λ e. length-set l.entries l.length t) (λ e. refl)

-- ---- the channel

module _ {sites n : ℕ} {c : Channel} (f : ChannelFine sites n c) where
  -- the channel with other messages remote, commit and abort
  with_sets : {r m a : ℕ} → Below n r → Below n m → Below n a
      → ChannelFine sites n (record { remote = r; ready = c.ready; commit = m; abort = a })
  with_sets r m a = record { remote = r; commit = m; abort = a; ready = f.ready }

  -- the channel with other messages ready
  with_ready_lem : {l : List ℕ} → ((t k : ℕ) → t < max_txns → has (slice_index_or l t none) k ≡ true → (t < n) × (k < sites))
      → ChannelFine sites n (record { remote = c.remote; ready = l; commit = c.commit; abort = c.abort })
  with_ready_lem g = record { remote = f.remote; commit = f.commit; abort = f.abort; ready = g }

-- a message is taken: those that are left are fine
taken_fine : (sites n : ℕ) (m : Message) (t : ℕ) (c : Channel) → ChannelFine sites n c → ChannelFine sites n (taken m t c)
unfolding taken
taken_fine sites n Remote t c f = with_sets f (below_without n c.remote t f.remote) f.commit f.abort
taken_fine sites n (Ready k) t c f =
    with_ready_lem f (λ u j l.
    set_keeps (λ (ks : ℕ). has ks j ≡ true → (u < n) × (j < sites)) c.ready t u (without (ready_in c t) k) none
    (λ e i. f.ready u j l (rw e (in_without (ready_in c t) k j i))) (f.ready u j l))
taken_fine sites n Commit t c f = with_sets f f.remote (below_without n c.commit t f.commit) f.abort
taken_fine sites n Abort t c f = with_sets f f.remote f.commit (below_without n c.abort t f.abort)

-- and the list of senders is as long as before
taken-length : (m : Message) (t : ℕ) (c : Channel) → length (taken m t c).ready ≡ length c.ready
unfolding taken
taken-length Remote t c = refl
taken-length (Ready k) t c = length-set c.ready t (without (ready_in c t) k)
taken-length Commit t c = refl
taken-length Abort t c = refl

-- the sender that a message names is a site
abbrev pub Sender : ℕ → Message → Type 0
Sender sites Remote = Unit {0}
Sender sites (Ready k) = k < sites
Sender sites Commit = Unit {0}
Sender sites Abort = Unit {0}

-- messages about transactions of the table are put in
pub put_fine : (sites n : ℕ) (m : Message) (ts : ℕ) (c : Channel) → Sender sites m → Below n ts → ChannelFine sites n c
    → ChannelFine sites n (put m ts c)
unfolding put ready_with
put_fine sites n Remote ts c a b f = with_sets f (below_union n c.remote ts f.remote b) f.commit f.abort
put_fine sites n (Ready k) ts c a b f =
    with_ready_lem f (λ u j l.
    some_keeps (λ (ks : ℕ). has ks j ≡ true → (u < n) × (j < sites)) (has ts) (λ t ks. with ks k) c.ready u none
    (λ e i. ⊎_elim (f.ready u j l) (λ s. (b u e, rw s a)) (in_with (ready_in c u) k j i)) (f.ready u j l))
put_fine sites n Commit ts c a b f = with_sets f f.remote (below_union n c.commit ts f.commit b) f.abort
put_fine sites n Abort ts c a b f = with_sets f f.remote f.commit (below_union n c.abort ts f.abort b)

-- a site gets another channel
pub with_channel_lem : {sites n : ℕ} {xs : List Txn} {i : ℕ} {r : Row} {p : Place} → SiteFine sites n xs i r p → (c : Channel)
    → ChannelFine sites n c → SiteFine sites n xs i r (with_channel p c)
with_channel_lem f c g =
    record { statuses = f.statuses; channel = g; versions = f.versions; queue = f.queue; log = f.log }

-- ---- a site

-- site i with its lengths and the facts of the range test: what every change below keeps
pub record SiteKept (sites n : ℕ) (xs : List Txn) (i : ℕ) (r : Row) (p : Place) : Type 0 where
  pub row : RowShaped r
  pub place : PlaceShaped p
  pub fine : SiteFine sites n xs i r p

module _ {sites n : ℕ} {xs : List Txn} {i : ℕ} {r : Row} {p : Place} (k : SiteKept sites n xs i r p) where
  -- the site gets other statuses, another queue and another flag
  pub with_waiting : {r' : Row} (q : ℕ) (b : Bool) → RowShaped r' → StatusesFine n r' → LogFine n r' p.log
      → QueueFine n xs i r' q → SiteKept sites n xs i r' (with_queue p q b)
  with_waiting q b row statuses log queue = record {
    row = row;
    place = record { entries = k.place.entries; versions = k.place.versions; ready = k.place.ready };
    fine = record {
      statuses = statuses;
      channel = k.fine.channel;
      versions = k.fine.versions;
      queue = queue;
      log = log;
    };
  }

  -- another queue and another flag
  pub with_queue_lem : (q : ℕ) (b : Bool) → QueueFine n xs i r q → SiteKept sites n xs i r (with_queue p q b)
  with_queue_lem q b f = with_waiting q b k.row k.fine.statuses k.fine.log f

  -- another flag
  pub with_flag : (b : Bool) → SiteKept sites n xs i r (with_queue p p.queue b)
  with_flag b = with_queue_lem p.queue b k.fine.queue

  -- t takes another status, and neither is committed
  pub with_status_lem : (t v : ℕ) → (status_in r t ≡ committed → ⊥) → has p.queue t ≡ false → v ≤ aborted
      → (v ≡ committed → ⊥) → SiteKept sites n xs i (row_with r t v) p
  with_status_lem t v old out l new =
      let moved = set-moved n r t v k.fine.statuses old l new in
      with_waiting p.queue p.remove (set_shaped r t v k.row) moved.statuses (moved_log moved k.fine.log)
      (queue_apart n xs i r p.queue t v k.fine.queue out)

  -- a message is taken
  pub with-taken : (m : Message) (t : ℕ) → SiteKept sites n xs i r (received m t p)
  with-taken m t = record {
    row = k.row;
    place = record {
      entries = k.place.entries;
      versions = k.place.versions;
      ready = taken-length m t p.channel ∙ k.place.ready;
    };
    fine = with_channel_lem k.fine (taken m t p.channel) (taken_fine sites n m t p.channel k.fine.channel);
  }

  -- t commits that had not
  pub with_commit : (t writes : ℕ) → n ≤ max_txns → t < n → (status_in r t ≡ committed → ⊥) → has p.queue t ≡ false
      → SiteKept sites n xs i (row_with r t committed) (stored p t writes)
  unfolding stored woken
  with_commit t writes fits h old out = record {
    row = set_shaped r t committed k.row;
    place = record {
      entries = log_length p.log t ∙ k.place.entries;
      versions = length-each (λ o v. cond (has writes o) (t + 1) v) p.versions ∙ k.place.versions;
      ready = k.place.ready;
    };
    fine = record {
      statuses = set_statuses n r t committed k.fine.statuses (omega arith);
      channel = k.fine.channel;
      versions = λ o l.
          some_keeps (λ (v : ℕ). v ≤ n) (has writes) (λ o v. t + 1) p.versions o 0 (λ e. omega arith)
          (k.fine.versions o l);
      queue = queue_apart n xs i r p.queue t committed k.fine.queue out;
      log = log_appended n r p.log t fits k.place.entries h old k.fine.log k.row.status;
    };
  }
