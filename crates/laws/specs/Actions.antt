-- Every action that is enabled keeps a state in range.
use Prim.Native.Nat.{ℕ, ◌+◌, ◌≤◌, ◌<◌}
use Rattle.std.specs.Prelude.{◌≡◌, false, ◌&&◌, ◌||◌, ◌==◌, nat_lt, nat_le}
use Rattle.std.proofs.Math.Path.{refl}
use Rattle.std.proofs.Common.{sym, ◌∙◌, ⊎_elim, arith}
use Rattle.std.proofs.Math.Bool.{Bool, true, not, cond}
use Rattle.std.proofs.lemmas.List.{set-get_or}
use borrow.Author.Tests.{ltb-true, leb-true, eqb-true, eqb-false, not-true}
use Rattle.sets.specs.Set.{width, has, none, is_empty, with, without, minus, union}
use Rattle.sets.specs.Laws.{has_all_but, has-without_same}
use Rattle.protocol.specs.State.{idle, start, active, blocked, precommit, committed, aborted, row_at, place_at, txn_at, status_at, version_in, at_home, row_with, with_pending, with_missing, with_status, with_place, no_row, no_place}
use Rattle.protocol.specs.Database.{noted, ended, woken, commit_here}
use Rattle.protocol.specs.Channel.{received, others, multicast}
use Rattle.protocol.specs.Scan.{scan_leaves, scan}
use Rattle.protocol.specs.Figure.{is, away, enabled, effect, only, in_channel}
use Rattle.protocol.specs.declared.Message.{Message}
use Rattle.protocol.specs.declared.Message.TheVariants.{Remote, Ready, Commit, Abort}
use Rattle.protocol.specs.declared.Action.{Action}
use Rattle.protocol.specs.declared.Action.TheVariants.{Create, BeginOperation, EndOperation, BeginCommit, EndCommit, LocalAbort, Receive, ExecuteRemote, Discard}
use Rattle.protocol.specs.declared.Row.{Row}
use Rattle.protocol.specs.declared.Place.{Place}
use Rattle.protocol.specs.declared.Txn.{Txn}
use Rattle.protocol.specs.declared.State.{State}
use Rattle.laws.specs.Tests.{both_left, both_right, either_left}
use Rattle.laws.specs.Lists.{length-each}
use Rattle.laws.specs.Read.{cond_keeps, some_keeps}
use Rattle.laws.specs.InRange.{Below, below_none, below_with, below_without, in_without, in_with, QueueFine, count_fits}
use Rattle.laws.specs.Site.{not-queued, Sender, SiteKept, with_status_lem, with_queue_lem, with_flag, with-taken, with_commit}
use Rattle.laws.specs.ScanKept.{scan_fine}
use Rattle.laws.specs.Kept.{Fine, TxnKept, txn_stands, site_stands, site_anew, txn_anew, multicast_fine}

-- the sites other than i are sites
pub others_below : (s : State) (i : ℕ) → Below s.sites (others s i)
others_below s i k m =
    ltb-true k s.sites (both_left _ (nat_lt k width) (both_left _ (not (k == i)) (sym (has_all_but width s.sites i k) ∙ m)))

-- v is a status that is neither idle nor final, and w one that is not committed
abbrev onward : ℕ → ℕ → Bool
onward v w = (nat_lt 0 v && nat_lt v committed) && (nat_le w aborted && not (w == committed))

-- At site i, for transaction t:
module _ (s : State) (i t : ℕ) (f : Fine s) (hi : i < s.sites) (ht : t < s.count) where
  -- what has to be shown of the site, of the transaction
  abbrev At : Row → Place → Type 0
  At = SiteKept s.sites s.count s.txns i

  abbrev Of : Txn → Type 0
  Of = TxnKept s.sites s.count (txn_at s t)

  -- the site as it stands
  here : At (row_at s i) (place_at s i)
  here = site_stands f i hi

  -- t goes from the status v to w
  goes : (v w : ℕ) → onward v w ≡ true → is s i t v ≡ true → At (row_with (row_at s i) t w) (place_at s i)
  goes v w o e =
      let was = eqb-true (status_at s i t) v e in
      let old = both_left (nat_lt 0 v && nat_lt v committed) _ o in
      let new = both_right (nat_lt 0 v && nat_lt v committed) _ o in
      with_status_lem here t w (λ c. omega (arith, ltb-true v committed (both_right (nat_lt 0 v) _ old)))
      (not-queued (place_at s i).queue t here.fine.queue (λ c. omega (arith, ltb-true 0 v (both_left _ _ old))))
      (leb-true w aborted (both_left _ _ new)) (eqb-false w committed (not-true _ (both_right (nat_le w aborted) _ new)))

  -- and that is all that happens at the site
  gone : (v w : ℕ) → onward v w ≡ true → is s i t v ≡ true → Fine (with_status s i t w)
  gone v w o e = rw (set-get_or s.places i no_place) at (site_anew s i f hi (goes v w o e))

  -- a change to the site alone, its statuses as they are
  placed : {p : Place} → At (row_at s i) p → Fine (with_place s i p)
  placed k = rw (set-get_or s.rows i no_row) at (site_anew s i f hi k)

  -- t with other sets, what it has noted as it is
  sets : (x : Txn) → x.home ≡ (txn_at s t).home → x.priority ≡ (txn_at s t).priority → x.noted ≡ (txn_at s t).noted
      → Below s.sites x.missing → Of x
  sets x home priority noted missing =
      let stands = txn_stands f t ht in
      record {
        shaped = record { noted = rw noted stands.shaped.noted };
        fine = record { missing = missing; noted = rw noted stands.fine.noted };
        home = home;
        priority = priority;
      }

  -- t with another missing set
  awaits : (m : ℕ) → Below s.sites m → Of (with_missing (txn_at s t) m)
  awaits m b = sets (with_missing (txn_at s t) m) refl refl refl b

  -- t at the end of its operation
  ends : Of (ended (txn_at s t) (place_at s i))
  unfolding ended noted
  ends =
      let x : Txn = txn_at s t in
      let stands = txn_stands f t ht in
      record {
        shaped = record { noted = length-each (λ o v. cond (news o) (version_in (place_at s i) o + 1) v) x.noted ∙ stands.shaped.noted };
        fine = record {
          missing = stands.fine.missing;
          noted = λ o l.
              some_keeps (λ (v : ℕ). v ≤ s.count + 1) news (λ o v. version_in (place_at s i) o + 1) x.noted o 0
              (λ e. omega (arith, here.fine.versions o l)) (stands.fine.noted o l);
        };
        home = refl;
        priority = refl;
      }
    where
      news : ℕ → Bool
      news o = has (minus (txn_at s t).pendingreads (union (txn_at s t).reads (txn_at s t).writes)) o

  -- t goes into the queue
  joins : at_home s i t ≡ false → is s i t idle ≡ true
      → QueueFine s.count s.txns i (row_at s i) (with (place_at s i).queue t)
  joins a e u m =
      ⊎_elim (here.fine.queue u)
      (λ same. rw same (record {
        known = ht;
        away = eqb-false (txn_at s t).home i a;
        idles = eqb-true (status_at s i t) idle e;
      }))
      (in_with (place_at s i).queue t u m)

  -- t commits at the site, which is p by then
  commits : (p : Place) → At (row_at s i) p → is s i t precommit ≡ true → Fine (commit_here s i t p)
  unfolding commit_here
  commits p k e =
      let was = eqb-true (status_at s i t) precommit e in
      site_anew s i f hi
      (with_commit k t (txn_at s t).writes (count_fits s f.ranged.table) ht (λ c. omega arith)
      (not-queued p.queue t k.fine.queue (λ c. omega arith)))

  -- a message about t goes to all other sites
  sends : (m : Message) {s' : State} → Fine s' → s'.count ≡ s.count → Sender s'.sites m → Fine (multicast m i (only t) s')
  sends m {s'} g e a =
      multicast_fine m i (only t) s' g a (rw e (below_with s.count none t (below_none s.count) ht))

  -- every action that is enabled keeps a state in range
  pub effect_fine : (a : Action) → enabled a s i t ≡ true → Fine (effect a s i t).state
  unfolding enabled effect woken commit_here
  effect_fine Create h = gone start active refl (both_right (at_home s i t) _ h)
  effect_fine (BeginOperation r w) h =
      txn_anew _ t (gone active blocked refl (both_right (at_home s i t) _ h))
      (sets (with_pending (txn_at s t) r w) refl refl refl (txn_stands f t ht).fine.missing)
  effect_fine EndOperation h =
      let e = both_left (is s i t blocked) _ h in
      cond_keeps Fine (at_home s i t) _ _ (λ home. txn_anew _ t (gone blocked active refl e) ends)
      (λ away. gone blocked precommit refl e)
  effect_fine BeginCommit h =
      sends Remote
      (txn_anew _ t (gone active precommit refl (both_right (at_home s i t) _ h)) (awaits (others s i) (others_below s i)))
      refl tt
  effect_fine EndCommit h =
      sends Commit
      (commits (place_at s i) here (both_left _ (is_empty (txn_at s t).missing) (both_right (at_home s i t) _ h))) refl tt
  effect_fine LocalAbort h =
      site_anew s i f hi (with_flag (goes blocked aborted refl (both_right (at_home s i t) _ h)) true)
  effect_fine (Receive Remote) h =
      let rest = both_right (away s i t) _ h in
      placed
      (with_queue_lem (with-taken here Remote t) (with (place_at s i).queue t) true
      (joins (not-true (at_home s i t) (both_left _ _ h)) (both_left _ (in_channel Remote s i t) rest)))
  effect_fine (Receive (Ready k)) h =
      txn_anew _ t (placed (with-taken here (Ready k) t))
      (awaits (without (txn_at s t).missing k)
      (below_without s.sites (txn_at s t).missing k (txn_stands f t ht).fine.missing))
  effect_fine (Receive Commit) h =
      commits (received Commit t (place_at s i)) (with-taken here Commit t)
      (both_left _ (in_channel Commit s i t) (both_right (away s i t) _ h))
  effect_fine (Receive Abort) h =
      let unfinished : Bool = not (is s i t committed || is s i t aborted) in
      let not_yet = not-true _ (both_left unfinished _ (both_right (away s i t) _ h)) in
      let out : ℕ = without (place_at s i).queue t in
      site_anew s i f hi
      (with_status_lem
      (with_flag
      (with_queue_lem (with-taken here Abort t) out (place_at s i).remove (λ u m.
      here.fine.queue u (in_without (place_at s i).queue t u m)))
      ((place_at s i).remove || not (is_empty out)))
      t aborted (eqb-false (status_at s i t) committed (either_left _ (is s i t aborted) not_yet))
      (has-without_same (place_at s i).queue t) (omega arith) (λ e. omega arith))
  effect_fine ExecuteRemote h = scan_fine s i f hi
  effect_fine (Discard m) h = placed (with-taken here m t)

-- no action changes the counts
pub effect_counts : (a : Action) (s : State) (i t : ℕ)
    → ((effect a s i t).state.sites ≡ s.sites) × ((effect a s i t).state.count ≡ s.count)
unfolding effect commit_here scan scan_leaves
effect_counts Create s i t = (refl, refl)
effect_counts (BeginOperation r w) s i t = (refl, refl)
effect_counts EndOperation s i t =
    cond_keeps (λ (x : State). (x.sites ≡ s.sites) × (x.count ≡ s.count)) (at_home s i t) _ _ (λ e. (refl, refl))
    (λ e. (refl, refl))
effect_counts BeginCommit s i t = (refl, refl)
effect_counts EndCommit s i t = (refl, refl)
effect_counts LocalAbort s i t = (refl, refl)
effect_counts (Receive Remote) s i t = (refl, refl)
effect_counts (Receive (Ready k)) s i t = (refl, refl)
effect_counts (Receive Commit) s i t = (refl, refl)
effect_counts (Receive Abort) s i t = (refl, refl)
effect_counts ExecuteRemote s i t = (refl, refl)
effect_counts (Discard m) s i t = (refl, refl)
