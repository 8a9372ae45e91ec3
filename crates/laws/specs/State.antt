-- The changes of which every action is made keep the lengths of a state: other contents for one site, other contents for
-- one transaction, messages delivered.
use Rattle.std.specs.Prelude.{ℕ, ◌<◌, ◌≡◌, refl, cond, length}
use Rattle.std.proofs.Common.{◌∙◌, length-set}
use Rattle.std.proofs.lemmas.List.{set-get_or}
use Rattle.sets.specs.Set.{has, with}
use Rattle.protocol.specs.State.{max_sites, no_row, no_place, no_txn, row_at, place_at, row_with, with_row, with_status, with_place, with_places, with_txn, with_channel}
use Rattle.protocol.specs.Channel.{ready_with, put, delivered}
use Rattle.protocol.specs.declared.Message.{Message}
use Rattle.protocol.specs.declared.Message.TheVariants.{Remote, Ready, Commit, Abort}
use Rattle.protocol.specs.declared.Row.{Row}
use Rattle.protocol.specs.declared.Channel.{Channel}
use Rattle.protocol.specs.declared.Place.{Place}
use Rattle.protocol.specs.declared.Txn.{Txn}
use Rattle.protocol.specs.declared.State.{State}
use Rattle.laws.specs.Lists.{length-each}
use Rattle.laws.specs.Read.{set_keeps, each_keeps}
use Rattle.laws.specs.Shape.{RowShaped, PlaceShaped, TxnShaped, Shaped}

-- site i gets the statuses r and the contents p
pub site_shaped : (s : State) (i : ℕ) (r : Row) (p : Place) → Shaped s → RowShaped r → PlaceShaped p
    → Shaped (with_place (with_row s i r) i p)
site_shaped s i r p h hr hp = record {
  rows = length-set s.rows i r ∙ h.rows;
  row = λ j l. set_keeps RowShaped s.rows i j r no_row (λ e. hr) (h.row j l);
  places = length-set s.places i p ∙ h.places;
  place = λ j l. set_keeps PlaceShaped s.places i j p no_place (λ e. hp) (h.place j l);
  txns = h.txns;
  txn = h.txn;
}

-- site i gets the contents p; and t takes the status v there
pub place_shaped : (s : State) (i : ℕ) (p : Place) → Shaped s → i < max_sites → PlaceShaped p → Shaped (with_place s i p)
place_shaped s i p h l k = rw (set-get_or s.rows i no_row) at (site_shaped s i (row_at s i) p h (h.row i l) k)

pub status_shaped : (s : State) (i t v : ℕ) → Shaped s → i < max_sites → Shaped (with_status s i t v)
status_shaped s i t v h l =
    rw (set-get_or s.places i no_place) at
    (site_shaped s i (row_with (row_at s i) t v) (place_at s i) h
    (record { status = length-set (row_at s i).status t v ∙ (h.row i l).status }) (h.place i l))

-- transaction t gets the contents x
pub txn_shaped : (s : State) (t : ℕ) (x : Txn) → Shaped s → TxnShaped x → Shaped (with_txn s t x)
txn_shaped s t x h hx = record {
  rows = h.rows;
  row = h.row;
  places = h.places;
  place = h.place;
  txns = length-set s.txns t x ∙ h.txns;
  txn = λ u l. set_keeps TxnShaped s.txns t u x no_txn (λ e. hx) (h.txn u l);
}

-- messages put into a channel keep its list of senders as long as it was
put-length : (m : Message) (ts : ℕ) (c : Channel) → length (put m ts c).ready ≡ length c.ready
unfolding put ready_with
put-length Remote ts c = refl
put-length (Ready k) ts c = length-each (λ t ks. cond (has ts t) (with ks k) ks) c.ready
put-length Commit ts c = refl
put-length Abort ts c = refl

-- messages are delivered
pub delivered_shaped : (m : Message) (to : ℕ → ℕ) (s : State) → Shaped s
    → Shaped (with_places s (delivered m to s.places))
unfolding delivered
delivered_shaped m to s h = record {
  rows = h.rows;
  row = h.row;
  places = length-each put_to s.places ∙ h.places;
  place = λ j l. each_keeps PlaceShaped put_to s.places j no_place (put_shaped j _ (h.place j l)) (h.place j l);
  txns = h.txns;
  txn = h.txn;
}
  where
    put_to : ℕ → Place → Place
    put_to j p = with_channel p (put m (to j) p.channel)

    put_shaped : (j : ℕ) (p : Place) → PlaceShaped p → PlaceShaped (put_to j p)
    put_shaped j p f = record {
      entries = f.entries;
      versions = f.versions;
      ready = put-length m (to j) p.channel ∙ f.ready;
    }
