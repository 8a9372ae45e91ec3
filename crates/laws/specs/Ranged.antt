-- Every event keeps a state in range and its counts, and so does every list of events.
use Rattle.std.specs.Prelude.{◌≡◌, refl, true, List, [], ◌∷◌}
use Rattle.std.proofs.Common.{◌∙◌}
use Rattle.protocol.specs.Range.{in_range}
use Rattle.protocol.specs.Answer.{action_of, answer, done, step}
use Rattle.protocol.specs.Run.{state_after}
use Rattle.protocol.specs.declared.Event.{Event}
use Rattle.protocol.specs.declared.State.{State}
use Rattle.laws.specs.Tests.{Same, same, other, same?}
use Rattle.laws.specs.Shape.{Shaped}
use Rattle.laws.specs.InRange.{range_out, range_in}
use Rattle.laws.specs.Kept.{Fine}
use Rattle.laws.specs.Actions.{effect_fine, effect_counts}
use Rattle.laws.specs.Enabled.{done_exactly, doable, step-done, step-refused}

-- an event that is done keeps a state in range
done_fine : (s : State) (e : Event) → Fine s → answer s e ≡ 0 → Fine (done s e).state
unfolding done
done_fine s e f h =
    let d = doable s e h in effect_fine s e.site e.txn f d.site d.txn (action_of e) d.on

-- an event that is done finds the state in range, and a refused one leaves it as it is; so what a state in range has is
-- kept
kept : (P : State → Type 0) → ((s : State) → Fine s → P s) → (s : State) (e : Event) → Shaped s → P s
    → P (step s e).state
kept P g s e h p = go (same? (answer s e) 0)
  where
    go : Same (answer s e) 0 → P (step s e).state
    go (same z) =
        rw (step-done s e z)
        (g (done s e).state
        (done_fine s e (record { shaped = h; ranged = range_out s ((done_exactly s e).0 z).0 }) z))
    go (other n) = rw (step-refused s e n) p

-- every event keeps the lengths of a state
pub step_shaped : (s : State) (e : Event) → Shaped s → Shaped (step s e).state
step_shaped s e h = kept Shaped (λ s' f. f.shaped) s e h h

-- every event keeps a state in range
pub step_ranged : (s : State) (e : Event) → Shaped s → in_range s ≡ true → in_range (step s e).state ≡ true
step_ranged s e h r = kept (λ s'. in_range s' ≡ true) (λ s' f. range_in s' f.ranged) s e h r

-- and so does every list of events
pub after_ranged : (s : State) (es : List Event) → Shaped s → in_range s ≡ true
    → (Shaped (state_after s es)) × (in_range (state_after s es) ≡ true)
unfolding state_after
after_ranged s [] h r = (h, r)
after_ranged s (e ∷ es) h r = after_ranged (step s e).state es (step_shaped s e h) (step_ranged s e h r)

-- every event keeps the counts
pub step_counts : (s : State) (e : Event) → ((step s e).state.sites ≡ s.sites) × ((step s e).state.count ≡ s.count)
step_counts s e = go (same? (answer s e) 0)
  where
    go : Same (answer s e) 0 → ((step s e).state.sites ≡ s.sites) × ((step s e).state.count ≡ s.count)
    go (same z) = rw (step-done s e z) (unfold done in (effect_counts (action_of e) s e.site e.txn))
    go (other n) = rw (step-refused s e n) (refl, refl)

-- and so does every list of events
pub after_counts : (s : State) (es : List Event)
    → ((state_after s es).sites ≡ s.sites) × ((state_after s es).count ≡ s.count)
unfolding state_after
after_counts s [] = (refl, refl)
after_counts s (e ∷ es) =
    let first = step_counts s e in
    let rest = after_counts (step s e).state es in
    (rest.0 ∙ first.0, rest.1 ∙ first.1)
