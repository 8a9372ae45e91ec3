-- A setup gives a state with its lengths, and one in range where it accepts.
use Rattle.std.specs.Prelude.{ℕ, ◌≤◌, ◌<◌, true, ◌&&◌, List, nat_le, slice_index_or, ◌==◌, nat_lt}
use Rattle.std.proofs.Math.Path.{◌≡◌, refl, ap, ap₂}
use Rattle.std.proofs.Common.{◌∙◌, arith}
use Rattle.std.proofs.Math.Bool.{not-not, not, cond}
use Rattle.std.proofs.Math.ListN.{length, replicate, get_or-replicate}
use borrow.Author.Tests.{lt-ltb, eq-eqb, leb-true}
use Rattle.sets.specs.Set.{none}
use Rattle.protocol.specs.Lists.{all_of, times}
use Rattle.protocol.specs.State.{max_sites, max_txns, objects, idle, start, committed, aborted, empty_row, empty_place, empty_txn, empty_state, no_row, no_place, no_txn, row_at, txn_at, status_in}
use Rattle.protocol.specs.Setup.{sites_fine, count_fine, homes_fine, priorities_differ, entry_at, fresh_row, fresh_txn, fresh_state, setup_checks, setup_answer, setup}
use Rattle.protocol.specs.Range.{table_fine, in_range}
use Rattle.protocol.specs.declared.Entry.{Entry}
use Rattle.protocol.specs.declared.Txn.{Txn}
use Rattle.laws.specs.Tests.{both, both_left, both_right}
use Rattle.laws.specs.Lists.{length-table, get_or-table, all_same}
use Rattle.laws.specs.Read.{cond_keeps}
use Rattle.laws.specs.Shape.{PlaceShaped, Shaped}
use Rattle.laws.specs.InRange.{in_none, below_none, SiteFine, InRange, sites_fit, count_fits, range_in}
use Rattle.laws.specs.Enabled.{none_applies, setup_in_order}

-- ---- the lengths

-- the sites of an empty and of a fresh state
blank_places : (i : ℕ) → i < max_sites → PlaceShaped (slice_index_or (replicate max_sites empty_place) i no_place)
blank_places i l =
    rw (get_or-replicate max_sites i empty_place no_place l) (record { entries = refl; versions = refl; ready = refl })

-- the state of a refused setup
empty_shaped : Shaped empty_state
unfolding empty_state
empty_shaped = record {
  rows = refl;
  row = λ i l. rw (get_or-replicate max_sites i empty_row no_row l) (record { status = refl });
  places = refl;
  place = blank_places;
  txns = refl;
  txn = λ t l. rw (get_or-replicate max_txns t empty_txn no_txn l) (record { noted = refl });
}

module _ (sites : ℕ) (es : List Entry) where
  -- what is read of a fresh state
  fresh_row_lem : (i : ℕ) → i < max_sites → row_at (fresh_state sites es) i ≡ fresh_row es i
  unfolding fresh_state
  fresh_row_lem i l = get_or-table (fresh_row es) max_sites i no_row l

  fresh_txn_lem : (t : ℕ) → t < max_txns → txn_at (fresh_state sites es) t ≡ fresh_txn es t
  unfolding fresh_state
  fresh_txn_lem t l = get_or-table (fresh_txn es) max_txns t no_txn l

  -- nothing is missing and nothing is noted
  fresh_none : (t : ℕ) → ((fresh_txn es t).missing ≡ none) × ((fresh_txn es t).noted ≡ replicate objects 0)
  unfolding fresh_txn
  fresh_none t =
      cond_keeps (λ (x : Txn). (x.missing ≡ none) × (x.noted ≡ replicate objects 0)) (nat_lt t (length es)) _ empty_txn
      (λ e. (refl, refl)) (λ e. (refl, refl))

  -- the state of an accepted setup
  fresh_shaped : Shaped (fresh_state sites es)
  unfolding fresh_state fresh_row
  fresh_shaped = record {
    rows = length-table (fresh_row es) max_sites;
    row = λ i l. rw (fresh_row_lem i l) (record { status = length-table _ max_txns });
    places = refl;
    place = blank_places;
    txns = length-table (fresh_txn es) max_txns;
    txn = λ t l. rw (fresh_txn_lem t l) (record { noted = ap length (fresh_none t).1 });
  }

  -- ---- the facts

  -- a fresh status is start or idle
  fresh_status : (P : ℕ → Type 0) (i t : ℕ) → t < max_txns → P start → P idle → P (status_in (fresh_row es i) t)
  unfolding fresh_row
  fresh_status P i t l a b =
      rw (get_or-table (λ u. cond (nat_lt u (length es) && (entry_at es u).home == i) start idle) max_txns t idle l)
      (cond_keeps P (nat_lt t (length es) && (entry_at es t).home == i) start idle (λ e. a) (λ e. b))

  -- the homes and the priorities are those that were lent
  fresh_entry : (t : ℕ) → length es ≤ max_txns → t < length es
      → ((txn_at (fresh_state sites es) t).home ≡ (entry_at es t).home)
      × ((txn_at (fresh_state sites es) t).priority ≡ (entry_at es t).priority)
  unfolding fresh_txn
  fresh_entry t fits l = rw (fresh_txn_lem t (omega arith), lt-ltb t (length es) l) (refl, refl)

  -- a fresh site is in range
  fresh_site : (i : ℕ) → length es ≤ max_txns
      → SiteFine sites (length es) (fresh_state sites es).txns i (fresh_row es i) empty_place
  unfolding all_of times
  fresh_site i fits = record {
    statuses = λ t l. fresh_status (λ v. v ≤ aborted) i t (omega arith) (omega arith) (omega arith);
    channel = record {
      remote = below_none (length es);
      commit = below_none (length es);
      abort = below_none (length es);
      ready = λ t k l m. absurd (in_none k (rw (get_or-replicate max_txns t none none l) at m));
    };
    versions = λ o l. rw (get_or-replicate {A = ℕ} objects o 0 0 l) (omega arith);
    queue = λ t m. absurd (in_none t m);
    log = record {
      short = omega arith;
      known = refl;
      once = λ t l. fresh_status (λ v. ◌≡◌ {A = ℕ} 0 (cond (v == committed) 1 0)) i t (omega arith) refl refl;
    };
  }

  -- so the table is as setup demands where what was lent is
  fresh_table : sites_fine sites ≡ true → count_fine (length es) ≡ true
      → homes_fine sites (length es) (λ t. (entry_at es t).home) ≡ true
      → priorities_differ (length es) (λ t. (entry_at es t).priority) ≡ true → table_fine (fresh_state sites es) ≡ true
  unfolding table_fine fresh_state count_fine homes_fine priorities_differ
  fresh_table hs hn hh hp =
      let fits = leb-true (length es) max_txns (both_right (nat_le 1 (length es)) _ hn) in
      both _ _ hs
      (both _ _ hn
      (both _ _
      (all_same (length es) _ _ (λ t l. ap (λ (h : ℕ). nat_lt h sites) (fresh_entry t fits l).0) ∙ hh)
      (all_same (length es) _ _ (λ t l.
      all_same t _ _ (λ u m.
      ap₂ (λ (a b : ℕ). not (a == b)) (fresh_entry u fits (omega arith)).1 (fresh_entry t fits l).1))
      ∙ hp)))

  -- and then all the rest is in range
  fresh_ranged : table_fine (fresh_state sites es) ≡ true → InRange (fresh_state sites es)
  unfolding fresh_state
  fresh_ranged h =
      let few : sites ≤ max_sites = sites_fit (fresh_state sites es) h in
      let fits : length es ≤ max_txns = count_fits (fresh_state sites es) h in
      record {
        table = h;
        txn = λ t l.
            let m : t < length es = l in
            rw (fresh_txn_lem t (omega arith)) (record {
              missing = rw (fresh_none t).0 (below_none sites);
              noted = λ o b. rw ((fresh_none t).1, get_or-replicate {A = ℕ} objects o 0 0 b) (omega arith);
            });
        site = λ i l.
            let m : i < sites = l in
            rw (fresh_row_lem i (omega arith), get_or-replicate max_sites i empty_place no_place (omega arith)) (fresh_site i fits);
      }

-- ---- the laws

-- whether a setup accepts or not, its state has the lengths
pub setup_shaped : (sites : ℕ) (es : List Entry) → Shaped (setup sites es).state
unfolding setup
setup_shaped sites es =
    cond_keeps Shaped (setup_answer sites es == 0) (fresh_state sites es) empty_state (λ e. fresh_shaped sites es)
    (λ e. empty_shaped)

-- an accepted setup gives a state in range
pub setup_ranged : (sites : ℕ) (es : List Entry) → setup_answer sites es ≡ 0
    → (Shaped (setup sites es).state) × (in_range (setup sites es).state ≡ true)
unfolding setup setup_checks none_applies
setup_ranged sites es h =
    let homes = homes_fine sites (length es) (λ t. (entry_at es t).home) in
    let priorities = priorities_differ (length es) (λ t. (entry_at es t).priority) in
    let a = simp not-not at ((setup_in_order sites es 4).0 h).0 in
    let b = both_right (sites_fine sites) _ a in
    let c = both_right (count_fine (length es)) _ b in
    let d = both_right homes _ c in
    let table =
    fresh_table sites es (both_left _ _ a) (both_left _ _ b) (both_left _ _ c) (both_left priorities true d) in
    let ranged : in_range (setup sites es).state ≡ true =
    rw (eq-eqb (setup_answer sites es) 0 h) (range_in (fresh_state sites es) (fresh_ranged sites es table)) in
    (setup_shaped sites es, ranged)
