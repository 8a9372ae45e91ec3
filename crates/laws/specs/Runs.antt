-- A run that starts in the state of an accepted setup: it is not refused, and has one answer an event.
use Rattle.std.specs.Prelude.{ℕ, ◌≤◌, ◌/◌, ◌≡◌, refl, Bool, true, false, cond, List, [], ◌∷◌, length, take, nat_le}
use Rattle.std.proofs.Common.{arith, le-ltb}
use Rattle.protocol.specs.State.{max_txns, max_events}
use Rattle.protocol.specs.Check.{first_of}
use Rattle.protocol.specs.Setup.{sites_fine, setup, setup_of}
use Rattle.protocol.specs.Range.{in_range}
use Rattle.protocol.specs.Answer.{step}
use Rattle.protocol.specs.Run.{events_of, answers_of, run_checks, run_answer}
use Rattle.protocol.specs.declared.Entry.{Entry}
use Rattle.protocol.specs.declared.Event.{Event}
use Rattle.protocol.specs.declared.State.{State}
use Rattle.laws.specs.Tests.{Test, yes_so, not_so, test}
use Rattle.laws.specs.Shape.{Shaped}
use Rattle.laws.specs.Begun.{setup_ranged}

-- a list of numbers holds as many events as groups of seven
pub events-length : (l : List ℕ) → length (events_of l) ≡ length l / 7
unfolding events_of
events-length [] = refl
events-length (a ∷ []) = refl
events-length (a ∷ i ∷ []) = refl
events-length (a ∷ i ∷ t ∷ []) = refl
events-length (a ∷ i ∷ t ∷ k ∷ []) = refl
events-length (a ∷ i ∷ t ∷ k ∷ f ∷ []) = refl
events-length (a ∷ i ∷ t ∷ k ∷ f ∷ r ∷ []) = refl
events-length (a ∷ i ∷ t ∷ k ∷ f ∷ r ∷ w ∷ l) = let h = events-length l in omega arith

-- "one answer an event"
pub answers_length : (s : State) (es : List Event) → length (answers_of s es) ≡ length es
unfolding answers_of
answers_length s [] = refl
answers_length s (e ∷ es) = let h = answers_length (step s e).state es in omega arith

-- at most 1,024 events with room for their answers, in a state in range
pub run-goes : (s : State) (es : List Event) (room : ℕ) → length es ≤ max_events → length es ≤ room → in_range s ≡ true
    → run_answer s es room ≡ 0
unfolding run_answer run_checks first_of
run-goes s es room few fits h = rw (le-ltb max_events (length es) few, le-ltb room (length es) fits, h)

-- an accepted setup whose entries are handed over by value gives a state in range
pub setup_of_ranged : (sites n : ℕ) (es : List Entry) → (setup_of sites n es).answer ≡ 0
    → (Shaped (setup_of sites n es).state) × (in_range (setup_of sites n es).state ≡ true)
unfolding setup_of setup
setup_of_ranged sites n es h = go (test (nat_le n max_txns))
  where
    go : Test (nat_le n max_txns) → (Shaped (setup_of sites n es).state) × (in_range (setup_of sites n es).state ≡ true)
    go (yes_so b) = rw b (setup_ranged sites (take n es) (rw b at h))
    go (not_so b) = absurd (refused (sites_fine sites) (rw b at h))
      where
        refused : (c : Bool) → ◌≡◌ {A = ℕ} (cond c 22 21) 0 → ⊥
        refused true e = omega arith
        refused false e = omega arith
