-- A run under way: what the whole list of events gives is what has been done so far, followed by what the rest gives.
use Rattle.std.specs.Prelude.{nat_lt}
use Prim.Native.Nat.{ℕ, suc, ◌+◌, ◌<◌, ◌≤◌}
use mathlib.Core.Path.{◌≡◌, refl, sym, ap, ap₂, ◌∙◌}
use mathlib.Core.Bool.{Bool, true, false, not, cond}
use mathlib.Core.List.{List, [], ◌∷◌, ◌++◌, append_assoc, append-nil}
use native.Mathlib.Nat.{add_assoc, add-zero, le_refl}
use native.Mathlib.Numerals.{add-one}
use native.Mathlib.Omega.{arith}
use lib.ListN.{length, take, drop, set, drop_of_length-le, take-append-drop}
use lib.Seq.{take-suc-set, drop-set-lt, drop-drop}
use borrow.Author.Tests.{ltb-false}
use Rattle.protocol.specs.State.{max_events}
use Rattle.protocol.specs.Check.{first_of}
use Rattle.protocol.specs.Range.{in_range}
use Rattle.protocol.specs.Answer.{Stepped, step}
use Rattle.protocol.specs.Run.{state_after, sent_by, answers_of, Ran, run_checks, run_answer, run, answers_after}
use Rattle.protocol.specs.declared.Event.{Event}
use Rattle.protocol.specs.declared.State.{State}
use Rattle.laws.specs.Tests.{Test, yes_so, not_so, test}
use Rattle.laws.specs.Shape.{Shaped}
use Rattle.laws.specs.Enabled.{run-done, run-refused, answers_written, answers_kept}
use Rattle.laws.specs.Ranged.{step_shaped, step_ranged}
use Rattle.rules.specs.Events.{run_refusal}

module _ (s : State) (es : List Event) (old : List ℕ) where
  -- after k events: the state, the messages sent, and what the places for answers hold
  pub record Going (k : ℕ) (state : State) (sent : ℕ) (out : List ℕ) : Type 0 where
    pub shaped : Shaped state
    pub ranged : in_range state ≡ true
    pub last : state_after s es ≡ state_after state (drop k es)
    pub sum : sent_by s es ≡ sent + sent_by state (drop k es)
    pub answers : answers_of s es ≡ take k out ++ answers_of state (drop k es)
    pub beyond : drop k out ≡ drop k old

  pub going_begun : Shaped s → in_range s ≡ true → Going 0 s 0 old
  going_begun h r = record {
    shaped = h;
    ranged = r;
    last = refl;
    sum = omega arith;
    answers = refl;
    beyond = refl;
  }

  -- one event more
  pub going_turned : (k : ℕ) (state : State) (sent : ℕ) (out : List ℕ) (e : Event) (r : Stepped) → Going k state sent out
      → drop k es ≡ e ∷ drop (suc k) es → k < length out → r ≡ step state e
      → Going (k + 1) r.state (sent + r.sent) (set out k r.answer)
  unfolding state_after sent_by answers_of
  going_turned k state sent out e r g d here q =
      let next : drop (suc k) out ≡ drop (suc k) old =
      ap (λ (n : ℕ). drop n out) (sym (add-one k)) ∙ sym (drop-drop 1 k out) ∙ ap (drop 1) g.beyond ∙ drop-drop 1 k old
      ∙ ap (λ (n : ℕ). drop n old) (add-one k) in
      rw (add-one k, q)
      (record {
        shaped = step_shaped state e g.shaped;
        ranged = step_ranged state e g.shaped g.ranged;
        last = rw d at g.last;
        sum =
            (rw d at g.sum)
            ∙ sym (add_assoc sent (step state e).sent (sent_by (step state e).state (drop (suc k) es)));
        answers =
            (rw d at g.answers)
            ∙ sym (ap (λ (x : List ℕ). x ++ answers_of (step state e).state (drop (suc k) es)) (take-suc-set out k (step state e).answer here)
            ∙ append_assoc (take k out) ((step state e).answer ∷ []) (answers_of (step state e).state (drop (suc k) es)));
        beyond = drop-set-lt (suc k) out k (step state e).answer (le_refl (suc k)) ∙ next;
      })

  -- all events
  module _ (k : ℕ) (state : State) (sent : ℕ) (out : List ℕ) (g : Going k state sent out) (all : length es ≤ k) where
    over : drop k es ≡ []
    over = drop_of_length-le es all

    going_last : state_after s es ≡ state
    unfolding state_after
    going_last = rw over at g.last

    going_sum : sent_by s es ≡ sent
    unfolding sent_by
    going_sum = (rw over at g.sum) ∙ add-zero sent

    going_answers : answers_of s es ++ drop k old ≡ out
    unfolding answers_of
    going_answers =
        ap₂ (λ (x y : List ℕ). x ++ y) ((rw over at g.answers) ∙ append-nil (take k out)) (sym g.beyond)
        ∙ take-append-drop k out

  -- what is returned and written when all events have been taken
  pub finished : (k : ℕ) (state : State) (sent : ℕ) (out : List ℕ) → Going k state sent out → k ≡ length es
      → (◌≡◌ {A = Ran} (record { answer = 0; sent = sent; state = state })
      (record { answer = 0; sent = sent_by s es; state = state_after s es }))
      × (out ≡ answers_of s es ++ drop (length es) old)
  finished k state sent out g e =
      let all : length es ≤ k = omega arith in (
        rw (going_last k state sent out g all, going_sum k state sent out g all),
        sym (rw (← e) (going_answers k state sent out g all)),
      )

-- ---- what a run returns and writes

-- a run that is not refused
pub run_fine : (n room : ℕ) (s : State) → run_refusal n room s ≡ 0 → (in_range s ≡ true) × (n ≤ max_events) × (n ≤ room)
unfolding first_of
run_fine n room s h = go (in_range s) (test (nat_lt max_events n)) (test (nat_lt room n)) h
  where
    go : (b : Bool) → Test (nat_lt max_events n) → Test (nat_lt room n)
        → ◌≡◌ {A = ℕ} (cond (nat_lt max_events n) 31 (cond (nat_lt room n) 32 (cond (not b) 1 0))) 0
        → (b ≡ true) × (n ≤ max_events) × (n ≤ room)
    go b (yes_so p) r h = absurd (let z : ◌≡◌ {A = ℕ} 31 0 = rw p at h in omega arith)
    go b (not_so p) (yes_so q) h = absurd (let z : ◌≡◌ {A = ℕ} 32 0 = rw (p, q) at h in omega arith)
    go true (not_so p) (not_so q) h = (refl, ltb-false max_events n p, ltb-false room n q)
    go false (not_so p) (not_so q) h = absurd (let z : ◌≡◌ {A = ℕ} 1 0 = rw (p, q) at h in omega arith)

module _ (s : State) (es : List Event) (old : List ℕ) (n : ℕ) (count : length es ≡ n) where
  answer_is : run_answer s es (length old) ≡ run_refusal n (length old) s
  unfolding run_answer run_checks
  answer_is = rw count

  -- what is promised of the result r and of the places for answers
  abbrev pub Promised : Ran → List ℕ → Type 0
  Promised r out = (r ≡ run s es (length old)) × (out ≡ answers_after s es old)

  pub refused : (k : ℕ) → k ≡ run_refusal n (length old) s → (k ≡ 0 → ⊥)
      → Promised (record { answer = k; sent = 0; state = s }) old
  refused k e z =
      let no : run_answer s es (length old) ≡ 0 → ⊥ = λ h. z (e ∙ sym answer_is ∙ h) in
      (sym (run-refused s es (length old) no ∙ rw (answer_is, e)), sym (answers_kept s es old no))

  pub completed : run_refusal n (length old) s ≡ 0 → (r : Ran) (out : List ℕ)
      → r ≡ record { answer = 0; sent = sent_by s es; state = state_after s es }
      → out ≡ answers_of s es ++ drop (length es) old → Promised r out
  completed z r out p q =
      let yes : run_answer s es (length old) ≡ 0 = answer_is ∙ z in
      (p ∙ sym (run-done s es (length old) yes), q ∙ sym (answers_written s es old yes))
