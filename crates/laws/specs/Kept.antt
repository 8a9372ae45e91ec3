-- What may happen to a state, each with what it keeps: the lengths, and the facts of the range test.
use Rattle.std.specs.Prelude.{ℕ, ◌<◌, ◌≡◌, refl, cond, ◌&&◌, List, set, nat_lt, slice_index_or}
use Rattle.std.proofs.Common.{sym, ap, ap₂, ◌∙◌, arith, get_or-set_same, get_or-set_other, ltb-true}
use Rattle.std.proofs.Math.Path.{fun_ext}
use Rattle.sets.specs.Set.{has, none}
use Rattle.protocol.specs.State.{max_sites, row_at, place_at, txn_at, txn_in, no_row, no_place, no_txn, with_row, with_places, with_place, with_txn, with_channel}
use Rattle.protocol.specs.Setup.{sites_fine, count_fine, homes_fine, priorities_differ}
use Rattle.protocol.specs.Range.{table_fine}
use Rattle.protocol.specs.Channel.{put, delivered, others, multicast}
use Rattle.protocol.specs.declared.Message.{Message}
use Rattle.protocol.specs.declared.Row.{Row}
use Rattle.protocol.specs.declared.Place.{Place}
use Rattle.protocol.specs.declared.Txn.{Txn}
use Rattle.protocol.specs.declared.State.{State}
use Rattle.laws.specs.Tests.{Same, same, other, same?, both_left, both_right}
use Rattle.laws.specs.Lists.{all_at}
use Rattle.laws.specs.Read.{cond_keeps, set_keeps, each_keeps}
use Rattle.laws.specs.Shape.{TxnShaped, Shaped}
use Rattle.laws.specs.State.{site_shaped, txn_shaped, delivered_shaped}
use Rattle.laws.specs.InRange.{Below, below_none, TxnFine, SiteFine, InRange, sites_fit, count_fits}
use Rattle.laws.specs.Site.{Sender, put_fine, with_channel_lem, SiteKept}

-- a state with its lengths and the facts of the range test
pub record Fine (s : State) : Type 0 where
  pub shaped : Shaped s
  pub ranged : InRange s

-- a transaction x with its length and the facts, that keeps the home and the priority of the one that stood there
pub record TxnKept (sites n : ℕ) (old x : Txn) : Type 0 where
  pub shaped : TxnShaped x
  pub fine : TxnFine sites n x
  pub home : x.home ≡ old.home
  pub priority : x.priority ≡ old.priority

-- a transaction as it stands
pub txn_stands : {s : State} → Fine s → (t : ℕ) → t < s.count → TxnKept s.sites s.count (txn_at s t) (txn_at s t)
txn_stands {s} f t h = record {
  shaped = f.shaped.txn t (omega (arith, count_fits s f.ranged.table));
  fine = f.ranged.txn t h;
  home = refl;
  priority = refl;
}

-- a site as it stands
pub site_stands : {s : State} → Fine s → (i : ℕ) → i < s.sites
    → SiteKept s.sites s.count s.txns i (row_at s i) (place_at s i)
site_stands {s} f i h =
    let l : i < max_sites = omega (arith, sites_fit s f.ranged.table) in
    record { row = f.shaped.row i l; place = f.shaped.place i l; fine = f.ranged.site i h }

-- every home is a site
pub home_fits : (s : State) → Fine s → (t : ℕ) → t < s.count → (txn_at s t).home < s.sites
unfolding table_fine homes_fine
home_fits s f t ht =
    let rest = both_right (count_fine s.count) _ (both_right (sites_fine s.sites) _ f.ranged.table) in
    ltb-true (txn_at s t).home s.sites
    (all_at s.count (λ t. nat_lt (txn_at s t).home s.sites) t (both_left _ _ rest) ht)

-- of the other transactions a site asks only their homes
homed : {sites n : ℕ} {xs : List Txn} {i : ℕ} {r : Row} {p : Place} (xs' : List Txn) → SiteFine sites n xs i r p
    → ((u : ℕ) → (txn_in xs' u).home ≡ (txn_in xs u).home) → SiteFine sites n xs' i r p
homed xs' f e = record {
  statuses = f.statuses;
  channel = f.channel;
  versions = f.versions;
  queue = λ u m.
      let q = f.queue u m in record { known = q.known; away = λ h. q.away (sym (e u) ∙ h); idles = q.idles };
  log = f.log;
}

-- transaction t gets other contents
pub txn_anew : (s : State) (t : ℕ) {x : Txn} → Fine s → TxnKept s.sites s.count (txn_at s t) x → Fine (with_txn s t x)
unfolding table_fine
txn_anew s t {x} f y = record {
  shaped = txn_shaped s t x f.shaped y.shaped;
  ranged = record {
    table =
        ap₂ (λ (a b : ℕ → ℕ).
        sites_fine s.sites
        && (count_fine s.count && (homes_fine s.sites s.count a && priorities_differ s.count b)))
        (fun_ext homes) (fun_ext (same_part (λ z. z.priority) y.priority))
        ∙ f.ranged.table;
    txn = λ u l.
        set_keeps (TxnFine s.sites s.count) s.txns t u x no_txn (λ e. y.fine) (f.ranged.txn u l);
    site = λ j l. homed (set s.txns t x) (f.ranged.site j l) homes;
  };
}
  where
    same_part : (part : Txn → ℕ) → part x ≡ part (txn_at s t) → (u : ℕ) → part (txn_in (set s.txns t x) u) ≡ part (txn_at s u)
    same_part part e u =
        set_keeps (λ (z : Txn). part z ≡ part (txn_at s u)) s.txns t u x no_txn
        (λ o. e ∙ ap (λ (v : ℕ). part (txn_at s v)) (sym o)) refl

    homes : (u : ℕ) → (txn_in (set s.txns t x) u).home ≡ (txn_at s u).home
    homes = same_part (λ z. z.home) y.home

-- site i gets other statuses and other contents
pub site_anew : (s : State) (i : ℕ) {r : Row} {p : Place} → Fine s → i < s.sites
    → SiteKept s.sites s.count s.txns i r p → Fine (with_place (with_row s i r) i p)
unfolding table_fine
site_anew s i {r} {p} f h k = record {
  shaped = site_shaped s i r p f.shaped k.row k.place;
  ranged =
      record { table = f.ranged.table; txn = f.ranged.txn; site = λ j l. site j l (same? j i) };
}
  where
    site : (j : ℕ) → j < s.sites → Same j i
        → SiteFine s.sites s.count s.txns j (slice_index_or (set s.rows i r) j no_row) (slice_index_or (set s.places i p) j no_place)
    site j l (same e) =
        let fits = sites_fit s f.ranged.table in
        rw (
          e,
          get_or-set_same s.rows i r no_row (omega (arith, f.shaped.rows)),
          get_or-set_same s.places i p no_place (omega (arith, f.shaped.places)),
        )
        k.fine
    site j l (other d) =
        rw (get_or-set_other s.rows i j r no_row d, get_or-set_other s.places i j p no_place d) (f.ranged.site j l)

-- messages about transactions of the table are delivered
pub delivered_fine : (m : Message) (to : ℕ → ℕ) (s : State) → Fine s → Sender s.sites m
    → ((j : ℕ) → Below s.count (to j)) → Fine (with_places s (delivered m to s.places))
unfolding delivered table_fine
delivered_fine m to s f a b = record {
  shaped = delivered_shaped m to s f.shaped;
  ranged = record {
    table = f.ranged.table;
    txn = f.ranged.txn;
    site = λ j l.
        let g = f.ranged.site j l in
        each_keeps (SiteFine s.sites s.count s.txns j (row_at s j))
        (λ j p. with_channel p (put m (to j) p.channel)) s.places j no_place
        (with_channel_lem g _ (put_fine s.sites s.count m (to j) (place_at s j).channel a (b j) g.channel)) g;
  };
}

-- a message about transactions of the table goes from site i to all other sites
pub multicast_fine : (m : Message) (i ts : ℕ) (s : State) → Fine s → Sender s.sites m → Below s.count ts
    → Fine (multicast m i ts s)
multicast_fine m i ts s f a b =
    delivered_fine m (λ j. cond (has (others s i) j) ts none) s f a (λ j.
    cond_keeps (Below s.count) (has (others s i) j) ts none (λ e. b) (λ e. below_none s.count))
