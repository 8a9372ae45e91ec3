-- The lengths of the lists that a state holds. Every state that code has in hand has them, for its arrays do; setup gives
-- them and every event keeps them.
use Rattle.std.specs.Prelude.{ℕ, ◌<◌, ◌≡◌, length}
use Rattle.protocol.specs.State.{max_sites, max_txns, objects, row_at, place_at, txn_at}
use Rattle.protocol.specs.declared.Row.{Row}
use Rattle.protocol.specs.declared.Place.{Place}
use Rattle.protocol.specs.declared.Txn.{Txn}
use Rattle.protocol.specs.declared.State.{State}

pub record RowShaped (r : Row) : Type 0 where
  pub status : length r.status ≡ max_txns

pub record PlaceShaped (p : Place) : Type 0 where
  pub entries : length p.log.entries ≡ max_txns
  pub versions : length p.versions ≡ objects
  pub ready : length p.channel.ready ≡ max_txns

pub record TxnShaped (x : Txn) : Type 0 where
  pub noted : length x.noted ≡ objects

pub record Shaped (s : State) : Type 0 where
  pub rows : length s.rows ≡ max_sites
  pub row : (i : ℕ) → i < max_sites → RowShaped (row_at s i)
  pub places : length s.places ≡ max_sites
  pub place : (i : ℕ) → i < max_sites → PlaceShaped (place_at s i)
  pub txns : length s.txns ≡ max_txns
  pub txn : (t : ℕ) → t < max_txns → TxnShaped (txn_at s t)
