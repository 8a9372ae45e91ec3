-- What owning a state tells of the lists in it: they have the lengths of the arrays.
use Rattle.std.specs.Prelude.{slice_index_or}
use mathlib.Core.Path.{◌≡◌, refl, sym, subst}
use mathlib.Core.List.{List, [], ◌∷◌}
use Prim.Native.Nat.{ℕ, zero, suc, ◌<◌}
use native.Mathlib.Nat.{not-suc-le-zero, le_of_suc-le-suc}
use lib.ListN.{length}
use base.Fml.{Fml}
use mir.Val.{Val}
use denote.Laws.{Is}
use denote.Shadow.{shadow}
use denote.Array.{each}
use borrow.Author.Rules.{rules}
use Rattle.protocol.specs.State.{no_row, no_place, no_txn}
use Rattle.protocol.specs.declared.State.{State}
use Rattle.protocol.specs.declared.Row.{Row}
use Rattle.protocol.specs.declared.Place.{Place}
use Rattle.protocol.specs.declared.Txn.{Txn}
use Rattle.laws.specs.Shape.{RowShaped, PlaceShaped, TxnShaped, Shaped}
use Rattle.protocol.specs.contracts.State as state
use Rattle.protocol.specs.contracts.Row as row
use Rattle.protocol.specs.contracts.Place as place
use Rattle.protocol.specs.contracts.Txn as txn

-- what owning one element tells, owning an array of them tells of each
each_at : {A : Type 0} (own : A → List Val → Fml) (P : A → Type 0)
    → ((x : A) (vs : List Val) → shadow (own x vs) → P x) → (xs : List A) (us : List Val) (n i : ℕ) (d : A)
    → length xs ≡ n → shadow (each A own xs us) → i < n → P (slice_index_or xs i d)
each_at own P f [] us n i d e p l = absurd (not-suc-le-zero (subst (λ (m : ℕ). i < m) (sym e) l))
each_at own P f (x ∷ xs) [] n i d e p l = absurd p
each_at own P f (x ∷ xs) (u ∷ us) n zero d e p l = f x (u ∷ []) p.0
each_at own P f (x ∷ xs) (u ∷ us) n (suc i) d e p l =
    each_at own P f xs us (length xs) i d refl p.1 (le_of_suc-le-suc (subst (λ (m : ℕ). suc i < m) (sym e) l))

row_shaped : (r : Row) (vs : List Val) → Is row.the_row r vs → RowShaped r
row_shaped r vs g = record { status = search rules }

place_shaped : (p : Place) (vs : List Val) → Is place.the_row p vs → PlaceShaped p
place_shaped p vs g = record { entries = search rules; versions = search rules; ready = search rules }

txn_shaped : (x : Txn) (vs : List Val) → Is txn.the_row x vs → TxnShaped x
txn_shaped x vs g = record { noted = search rules }

pub shaped : (s : State) (vs : List Val) → Is state.the_row s vs → Shaped s
shaped s vs g =
    let rs = g.1.1.1.1.0.1 in
    let ps = g.1.1.1.1.1.0.1 in
    let xs = g.1.1.1.1.1.1.0.1 in
    record {
      rows = rs.0.1;
      row = λ i l. each_at (row.the_row).own_val RowShaped row_shaped s.rows _ 8 i no_row rs.0.1 rs.1 l;
      places = ps.0.1;
      place = λ i l. each_at (place.the_row).own_val PlaceShaped place_shaped s.places _ 8 i no_place ps.0.1 ps.1 l;
      txns = xs.0.1;
      txn = λ t l. each_at (txn.the_row).own_val TxnShaped txn_shaped s.txns _ 32 t no_txn xs.0.1 xs.1 l;
    }
