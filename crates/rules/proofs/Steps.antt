-- What an event returns, by the number that its checks give, and how large its numbers can be.
use Rattle.std.specs.Prelude.{nat_le}
use Prim.Native.Nat.{ℕ, ◌≤◌, zero-le}
use mathlib.Core.Path.{◌≡◌, refl, sym, ap, ◌∙◌}
use mathlib.Core.Bool.{Bool, true, false, cond, ◌&&◌}
use mathlib.Core.List.{List, [], ◌∷◌}
use native.Mathlib.Omega.{arith}
use borrow.Author.Tests.{leb-true}
use Rattle.sets.specs.Laws.{size_le}
use Rattle.protocol.specs.Check.{Check, first_of}
use Rattle.protocol.specs.Range.{in_range}
use Rattle.protocol.specs.Channel.{others}
use Rattle.protocol.specs.Scan.{scan, scan_leaves}
use Rattle.protocol.specs.Figure.{effect}
use Rattle.protocol.specs.Answer.{action_of, no_action, checks_in_range, checks, answer, Stepped, refused, done, step}
use Rattle.protocol.specs.declared.Message.TheVariants.{Remote, Ready, Commit, Abort}
use Rattle.protocol.specs.declared.Action.{Action}
use Rattle.protocol.specs.declared.Action.TheVariants.{Create, BeginOperation, EndOperation, BeginCommit, EndCommit, LocalAbort, Receive, ExecuteRemote, Discard}
use Rattle.protocol.specs.declared.Scan.{Scan}
use Rattle.protocol.specs.declared.Done.{Done}
use Rattle.protocol.specs.declared.Event.{Event}
use Rattle.protocol.specs.declared.State.{State}
use Rattle.laws.specs.Tests.{Same, same, other, same?, both_left, both_right}
use Rattle.laws.specs.Enabled.{step-done, step-refused}
use Rattle.rules.proofs.Bounds.{few_times}
use Rattle.rules.proofs.Checks.{misplaced_in, refusal_in, refused_unknown, refused_misplaced, refused_by_action}

-- ---- how large the numbers can be

-- no number of the table is above n
none_above : ℕ → List Check → Bool
none_above n [] = true
none_above n (c ∷ l) = nat_le c.number n && none_above n l

-- .. so the first that applies is not
first_below : (n : ℕ) (l : List Check) → none_above n l ≡ true → first_of l ≤ n
unfolding first_of none_above
first_below n [] h = zero-le
first_below n (c ∷ l) h =
    go c.applies (first_below n l (both_right (nat_le c.number n) (none_above n l) h))
  where
    go : (b : Bool) → first_of l ≤ n → cond b c.number (first_of l) ≤ n
    go true r = leb-true c.number n (both_left (nat_le c.number n) (none_above n l) h)
    go false r = r

-- a scan sends an abort about each transaction of a set to each other site, and a ready about each of another set
scan_few : (s : State) (i : ℕ) (c : Scan) → (scan_leaves s i c).sent ≤ 1056
unfolding scan_leaves
scan_few s i c =
    omega (arith, few_times _ _ c.aborts (others s i) refl refl, size_le 32 c.readies)

-- .. and every other action at most one message to each other site
sent_few : (a : Action) (s : State) (i t : ℕ) → (effect a s i t).sent ≤ 1056
unfolding effect scan
sent_few Create s i t = zero-le
sent_few (BeginOperation r w) s i t = zero-le
sent_few EndOperation s i t = zero-le
sent_few BeginCommit s i t = omega (arith, size_le 32 (others s i))
sent_few EndCommit s i t = omega (arith, size_le 32 (others s i))
sent_few LocalAbort s i t = zero-le
sent_few (Receive Remote) s i t = zero-le
sent_few (Receive (Ready k)) s i t = zero-le
sent_few (Receive Commit) s i t = zero-le
sent_few (Receive Abort) s i t = zero-le
sent_few ExecuteRemote s i t = scan_few s i _
sent_few (Discard m) s i t = zero-le

module _ (s : State) (e : Event) where
  -- the answer of an event is at most 11, and it sends at most 1,056 messages
  step_few : ((step s e).answer ≤ 11) × ((step s e).sent ≤ 1056)
  unfolding answer checks checks_in_range none_above done
  step_few = go (same? (answer s e) 0)
    where
      go : Same (answer s e) 0 → ((step s e).answer ≤ 11) × ((step s e).sent ≤ 1056)
      go (same z) = rw (step-done s e z) (zero-le, sent_few (action_of e) s e.site e.txn)
      go (other d) = rw (step-refused s e d) (first_below 11 (checks s e) refl, zero-le)

  pub few_step : (r : Stepped) → r ≡ step s e → (r ≡ step s e) × (r.answer ≤ 11) × (r.sent ≤ 1056)
  few_step r h = (h, rw h step_few.0, rw h step_few.1)

  -- ---- what an event returns in a state in range

  module _ (fine : in_range s ≡ true) where
    answer_is : answer s e ≡ first_of (checks_in_range s e)
    unfolding answer checks first_of
    answer_is = rw fine

    -- refused with the number n that the checks give
    refused-with : (n : ℕ) → (n ≡ 0 → ⊥) → first_of (checks_in_range s e) ≡ n → refused n s ≡ step s e
    refused-with n d h =
        let a : answer s e ≡ n = answer_is ∙ h in
        sym (step-refused s e (λ z. d (sym a ∙ z)) ∙ ap (λ (m : ℕ). refused m s) a)

    pub step_unknown : no_action e ≡ true → refused 2 s ≡ step s e
    step_unknown h = refused-with 2 (λ z. omega arith) (refused_unknown s e h)

    pub step_misplaced : no_action e ≡ false → (n : ℕ) → n ≡ misplaced_in s e → (n ≡ 0 → ⊥) → refused n s ≡ step s e
    step_misplaced h n p d = refused-with n d (refused_misplaced s e h (λ z. d (p ∙ z)) ∙ sym p)

    module _ (known : no_action e ≡ false) (well : misplaced_in s e ≡ 0) where
      own : first_of (checks_in_range s e) ≡ refusal_in s e
      own = refused_by_action s e known well

      pub step-not_enabled : (k : ℕ) → k ≡ refusal_in s e → (k ≡ 0 → ⊥) → refused k s ≡ step s e
      step-not_enabled k p d = refused-with k d (own ∙ sym p)

      pub step-enabled : refusal_in s e ≡ 0 → (d : Done) → d ≡ effect (action_of e) s e.site e.txn
          → record { answer = 0; sent = d.sent; state = d.state } ≡ step s e
      unfolding done
      step-enabled p d q = rw q (sym (step-done s e (answer_is ∙ own ∙ p)))
