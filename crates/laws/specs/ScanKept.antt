-- A scan keeps a state in range: what every turn keeps, and what the scan leaves.
use Rattle.std.specs.Prelude.{ℕ, ◌^◌, ◌≤◌, ◌<◌, ◌≡◌, true, false, not, ◌&&◌, List, nat_lt, ◌==◌}
use Rattle.std.proofs.Math.Path.{refl, sym}
use Rattle.std.proofs.Common.{◌∙◌, arith, ne_eqb}
use Rattle.std.proofs.Math.Bool.{false≢true}
use Rattle.std.proofs.Math.Logic.{⊎_elim}
use Rattle.sets.specs.Set.{width, has, without}
use Rattle.sets.specs.Laws.{has-none, has-those, has-with_other, has-without_same}
use Rattle.protocol.specs.Lists.{store_at}
use Rattle.protocol.specs.State.{max_txns, idle, blocked, precommit, committed, aborted, status_in, txn_in, txn_at, place_at}
use Rattle.protocol.specs.Database.{executes, conflicts}
use Rattle.protocol.specs.Channel.{homed_at, ready_home}
use Rattle.protocol.specs.Scan.{waits, asked, submits, scan_all, scan_from, scan_leaves, scan}
use Rattle.protocol.specs.declared.Message.TheVariants.{Ready, Abort}
use Rattle.protocol.specs.declared.Row.{Row}
use Rattle.protocol.specs.declared.Log.{Log}
use Rattle.protocol.specs.declared.Txn.{Txn}
use Rattle.protocol.specs.declared.Scan.{Scan}
use Rattle.protocol.specs.declared.State.{State}
use Rattle.laws.specs.Tests.{both_left, both_right}
use Rattle.laws.specs.Read.{some_keeps}
use Rattle.laws.specs.InRange.{Below, in_none, below_none, below_union, below_with, below_those, below_lt, in_without, in_with, QueueFine, StatusesFine, LogFine, count_fits}
use Rattle.laws.specs.Site.{Moved, set-moved, moved_log, queue_kept, queue_apart, with_waiting}
use Rattle.laws.specs.Held.{conflict_executes}
use Rattle.laws.specs.Kept.{Fine, site_stands, site_anew, delivered_fine, multicast_fine}
use Rattle.laws.specs.Scan.{Lasts, scan_one_lem, scan_keeps, scan_shaped}

-- the statuses r where each conflict of t is aborted
abbrev killed : ℕ → List Txn → ℕ → Row → ℕ → Row
killed n xs i r t = record { status = store_at (conflicts n xs i r t) aborted r.status }

-- At site i, among the n transactions xs of the table, where the log is l:
module _ (n : ℕ) (xs : List Txn) (i : ℕ) (l : Log) where
  -- what holds at the start and after every turn: the statuses and the log are fine; those that are left and those that
  -- wait are queued as before, and are not the same; and messages are about transactions of the table
  pub record Scanning (c : Scan) : Type 0 where
    pub statuses : StatusesFine n c.row
    pub log : LogFine n c.row l
    pub rest : QueueFine n xs i c.row c.rest
    pub waiting : QueueFine n xs i c.row c.waiting
    pub apart : (u : ℕ) → has c.rest u ≡ true → has c.waiting u ≡ false
    pub aborts : Below n c.aborts
    pub readies : Below n c.readies

  -- a conflict executes, so it has no status w with which a transaction does not
  conflict_not : (w : ℕ) → executes w ≡ false → (r : Row) (t u : ℕ) → has (conflicts n xs i r t) u ≡ true
      → status_in r u ≡ w → ⊥
  unfolding conflicts
  conflict_not w idles r t u h e =
      let hit = both_right (not (u == t)) _ (both_right (nat_lt u n) _ (rw has-those at h)) in
      false≢true (sym idles ∙ rw e at (conflict_executes (txn_in xs t) (txn_in xs u) i (status_in r u) hit))

  -- what is read of the statuses where the conflicts of t are aborted
  killed_at : (P : ℕ → Type 0) (r : Row) (t u : ℕ) → (has (conflicts n xs i r t) u ≡ true → P aborted)
      → P (status_in r u) → P (status_in (killed n xs i r t) u)
  killed_at P r t u f h =
      some_keeps P (has (conflicts n xs i r t)) (λ k x. aborted) r.status u idle f h

  -- no conflict has committed, so the log stays fine
  killed-moved : (r : Row) (t : ℕ) → StatusesFine n r → Moved n r (killed n xs i r t)
  unfolding executes
  killed-moved r t f = record {
    statuses = λ u h. killed_at (λ w. w ≤ aborted) r t u (λ e. omega arith) (f u h);
    commits = λ u h.
        killed_at (λ w. (w == committed) ≡ (status_in r u == committed)) r t u
        (λ e. sym (ne_eqb (status_in r u) committed (conflict_not committed refl r t u e))) refl;
  }

  -- nobody in a queue is a conflict, so the queue stays fine
  killed_queue : (r : Row) (t q : ℕ) → QueueFine n xs i r q → QueueFine n xs i (killed n xs i r t) q
  unfolding executes
  killed_queue r t q f =
      queue_kept n xs i r (killed n xs i r t) q q f (λ u m. (
        m,
        killed_at (λ w. w ≡ status_in r u) r t u
            (λ e. absurd (conflict_not idle refl r t u e (f u m).idles)) refl,
      ))

  -- abort is sent about transactions of the table
  asked_below : (r : Row) (t : ℕ) → Below n (asked n r (conflicts n xs i r t))
  unfolding asked
  asked_below r t = below_those n (λ u. has (conflicts n xs i r t) u && status_in r u == precommit)

  -- every turn keeps all this
  pub scanning : Lasts n xs i Scanning
  unfolding waits submits
  scanning c t b h k =
      scan_one_lem n xs i Scanning c t
      (λ m. record {
        statuses = k.statuses;
        log = k.log;
        rest = less c.row k.rest;
        waiting = λ u w. ⊎_elim (k.waiting u) (λ e. rw e (k.rest t h)) (in_with c.waiting t u w);
        apart = λ u w.
            has-with_other width c.waiting t u (λ e. false≢true (sym (has-without_same c.rest t) ∙ (rw e at w)))
            ∙ k.apart u (in_without c.rest t u w);
        aborts = k.aborts;
        readies = k.readies;
      })
      (λ m.
      let fallen = killed-moved c.row t k.statuses in
      let left = killed_queue c.row t c.rest k.rest in
      let moved =
      set-moved n (killed n xs i c.row t) t blocked fallen.statuses (λ e. omega (arith, (left t h).idles)) (omega arith)
      (λ e. omega arith) in
      record {
        statuses = moved.statuses;
        log = moved_log moved (moved_log fallen k.log);
        rest =
            queue_apart n xs i (killed n xs i c.row t) (without c.rest t) t blocked
            (less (killed n xs i c.row t) left) (has-without_same c.rest t);
        waiting =
            queue_apart n xs i (killed n xs i c.row t) c.waiting t blocked
            (killed_queue c.row t c.waiting k.waiting) (k.apart t h);
        apart = λ u w. k.apart u (in_without c.rest t u w);
        aborts = below_union n c.aborts (asked n c.row (conflicts n xs i c.row t)) k.aborts (asked_below c.row t);
        readies = below_with n c.readies t k.readies (k.rest t h).known;
      })
    where
      less : (r : Row) → QueueFine n xs i r c.rest → QueueFine n xs i r (without c.rest t)
      less r f u w = f u (in_without c.rest t u w)

-- ready about transactions of the table goes from site i to their homes
ready_home_fine : (i ts : ℕ) (s : State) → Fine s → i < s.sites → Below s.count ts → Fine (ready_home i ts s)
unfolding homed_at
ready_home_fine i ts s f h b =
    delivered_fine (Ready i) (homed_at s.txns ts) s f h (λ j u m.
    b u (both_left _ ((txn_at s u).home == j) (both_right (nat_lt u max_txns) _ (sym (has-those max_txns _ u) ∙ m))))

-- it holds when a scan begins at site i, whose queue fits the width
pub scanning_first : (s : State) (i : ℕ) → Fine s → i < s.sites
    → ((place_at s i).queue < 2 ^ width) × Scanning s.count s.txns i (place_at s i).log (scan_from s i)
scanning_first s i f hi =
    let here = site_stands f i hi in
    let n : ℕ = s.count in (
      below_lt n (place_at s i).queue (count_fits s f.ranged.table) (λ u m. (here.fine.queue u m).known),
      record {
        statuses = here.fine.statuses;
        log = here.fine.log;
        rest = here.fine.queue;
        waiting = λ u m. absurd (in_none u m);
        apart = λ u m. has-none u;
        aborts = below_none n;
        readies = below_none n;
      },
    )

-- a scan at site i keeps a state in range
pub scan_fine : (s : State) (i : ℕ) → Fine s → i < s.sites → Fine (scan s i).state
unfolding scan scan_leaves
scan_fine s i f hi =
    let here = site_stands f i hi in
    let n : ℕ = s.count in
    let first = scanning_first s i f hi in
    let c : Scan = scan_all n s.txns i (scan_from s i) in
    let end : Scanning n s.txns i (place_at s i).log c =
    scan_keeps n s.txns i (Scanning n s.txns i (place_at s i).log) (scanning n s.txns i (place_at s i).log)
    (scan_from s i) first.0 first.1 in
    ready_home_fine i c.readies _
    (multicast_fine Abort i c.aborts _
    (site_anew s i f hi
    (with_waiting here c.waiting false (scan_shaped n s.txns i (scan_from s i) first.0 here.row) end.statuses
    end.log end.waiting))
    tt end.aborts)
    hi end.readies
