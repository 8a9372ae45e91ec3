-- The events that a list of numbers holds, one after the other: each is that of the next seven numbers.
use Rattle.std.specs.Prelude.{slice_index_or}
use Rattle.std.specs.Simd.{first_chunks}
use Prim.Native.Nat.{ℕ, zero, suc, ◌/◌, ◌<◌}
use mathlib.Core.Path.{◌≡◌, refl}
use mathlib.Core.List.{List, [], ◌∷◌}
use native.Mathlib.Omega.{arith}
use lib.ListN.{length, drop}
use Rattle.protocol.specs.Run.{events_of}
use Rattle.protocol.specs.Run.{event_in}

abbrev pub chunks : List ℕ → List (List ℕ)
chunks l = first_chunks 7 (length l / 7) l

seven : (a i t x f r w : ℕ) (l : List ℕ) → length (a ∷ i ∷ t ∷ x ∷ f ∷ r ∷ w ∷ l) / 7 ≡ suc (length l / 7)
seven a i t x f r w l = omega arith

-- from event k on
pub events_from : (l : List ℕ) (k : ℕ) → k < length l / 7
    → drop k (events_of l) ≡ event_in (slice_index_or (chunks l) k []) ∷ drop (suc k) (events_of l)
unfolding events_of
events_from [] k h = absurd (omega arith)
events_from (a ∷ []) k h = absurd (omega arith)
events_from (a ∷ i ∷ []) k h = absurd (omega arith)
events_from (a ∷ i ∷ t ∷ []) k h = absurd (omega arith)
events_from (a ∷ i ∷ t ∷ x ∷ []) k h = absurd (omega arith)
events_from (a ∷ i ∷ t ∷ x ∷ f ∷ []) k h = absurd (omega arith)
events_from (a ∷ i ∷ t ∷ x ∷ f ∷ r ∷ []) k h = absurd (omega arith)
events_from (a ∷ i ∷ t ∷ x ∷ f ∷ r ∷ w ∷ l) zero h = rw (seven a i t x f r w l) refl
events_from (a ∷ i ∷ t ∷ x ∷ f ∷ r ∷ w ∷ l) (suc k) h = rw (seven a i t x f r w l) (events_from l k (omega arith))
