-- Demand 2: "An action is enabled exactly when Figure 2 enables it .. and then does exactly what the figure says".
-- What an event and a run answer, which of them are refused, and what a refusal leaves; and the empty state.
use Prim.Native.Nat.{ℕ, zero, suc, ◌-◌, ◌≤◌, ◌<◌}
use Rattle.std.specs.Prelude.{◌≡◌, refl, Bool, false, not, cond, ◌&&◌, ◌||◌, ◌↔◌, List, [], ◌∷◌, ◌++◌, length, take, drop, ◌==◌, nat_lt, slice_index_or, nat_le}
use Rattle.std.proofs.Math.Path.{sym, subst}
use Rattle.std.proofs.Common.{ap, ◌∙◌}
use Rattle.std.proofs.Math.Bool.{true, not-not, and-true, and-false, or-false, and_assoc, and-eq-true_iff}
use Rattle.std.proofs.lemmas.Bool.{false≢true}
use Rattle.std.proofs.Math.Logic.Iff.{trans as Iff-trans}
use native.Mathlib.Omega.{arith}
use borrow.Author.Tests.{eqb-true, eq-eqb, ne_eqb, leb-true, ltb-true, not-true}
use Rattle.protocol.specs.Lists.{table, table_from}
use Rattle.protocol.specs.State.{max_events, empty_state}
use Rattle.protocol.specs.Check.{Check, given, first_of}
use Rattle.protocol.specs.Setup.{sites_fine, setup_checks, setup_answer}
use Rattle.protocol.specs.Range.{table_fine, in_range}
use Rattle.protocol.specs.Figure.{enabled}
use Rattle.protocol.specs.Answer.{action_of, no_action, no_site, no_transaction, ill_filled, home_met, wrong_home, wrong_status, wrong_missing, message_there, no_message, lock_clash, no_scan, checks_in_range, checks, answer, refused, done, step}
use Rattle.protocol.specs.Run.{state_after, answers_of, sent_by, run_checks, run_answer, run, answers_after}
use Rattle.protocol.specs.declared.Entry.{Entry}
use Rattle.protocol.specs.declared.Event.{Event}
use Rattle.protocol.specs.declared.State.{State}
use Rattle.laws.specs.Tests.{both, both_left, both_right, Same, same, other, same?}
use Rattle.laws.specs.Lists.{get_or-table}

-- ---- tests: what the proofs below need of them

pub eqb_sym : (n m : ℕ) → (n == m) ≡ (m == n)
eqb_sym n m = go (same? n m)
  where
    go : Same n m → (n == m) ≡ (m == n)
    go (same e) = eq-eqb n m e ∙ sym (eq-eqb m n (sym e))
    go (other d) = ne_eqb n m d ∙ sym (ne_eqb m n (λ e. d (sym e)))

not-or : (a b : Bool) → not (a || b) ≡ (not a && not b)
not-or true b = refl
not-or false b = refl

-- two numbers are equal exactly when the test b passes, where b is the test of their equality
exactly : (n m : ℕ) (b : Bool) → (n == m) ≡ b → (n ≡ m) ↔ (b ≡ true)
exactly n m b h = (λ e. sym h ∙ eq-eqb n m e, λ e. eqb-true n m (h ∙ e))

-- ---- the order of the checks

-- line k of a table of checks, from 0; past the last line stands 0, "done", which always applies
abbrev pub line_at : List Check → ℕ → Check
line_at l k = slice_index_or l k (given 0 true)

-- no line of the table applies
unfoldable pub none_applies : List Check → Bool
none_applies [] = true
none_applies (c ∷ l) = not c.applies && none_applies l

-- the table l decides the answer n: n is the number of line k exactly when that line applies and none before it does.
-- With k past the last line: n is 0 exactly when no line applies.
abbrev pub Decides : List Check → ℕ → Type 0
Decides l n =
    (k : ℕ) → (n ≡ (line_at l k).number) ↔ ((none_applies (take k l) ≡ true) × ((line_at l k).applies ≡ true))

-- n is neither 0 nor a number of the table
fresh : ℕ → List Check → Bool
fresh n [] = not (n == 0)
fresh n (c ∷ l) = not (n == c.number) && fresh n l

-- no number of the table is 0 or stands twice
distinct : List Check → Bool
distinct [] = true
distinct (c ∷ l) = fresh c.number l && distinct l

-- a fresh number is that of no line
fresh_line : (n : ℕ) (l : List Check) (k : ℕ) → fresh n l ≡ true → (n == (line_at l k).number) ≡ false
unfolding fresh
fresh_line n [] k h = not-true (n == 0) h
fresh_line n (c ∷ l) zero h = not-true (n == c.number) (both_left (not (n == c.number)) (fresh n l) h)
fresh_line n (c ∷ l) (suc k) h = fresh_line n l k (both_right (not (n == c.number)) (fresh n l) h)

-- the first number that applies stands on some line
first_line : (l : List Check) → (k : ℕ) × (first_of l ≡ (line_at l k).number)
unfolding first_of
first_line [] = (0, refl)
first_line (c ∷ l) = go c.applies (first_line l)
  where
    go : (b : Bool) → (k : ℕ) × (first_of l ≡ (line_at l k).number)
        → (k : ℕ) × (cond b c.number (first_of l) ≡ (line_at (c ∷ l) k).number)
    go true r = (0, refl)
    go false r = (suc r.0, r.1)

-- .. and that is line k exactly when line k applies and none before it does
first_at : (l : List Check) (k : ℕ) → distinct l ≡ true
    → (first_of l == (line_at l k).number) ≡ (none_applies (take k l) && (line_at l k).applies)
unfolding distinct none_applies first_of
first_at [] zero d = refl
first_at [] (suc k) d = refl
first_at (c ∷ l) zero d = go c.applies
  where
    go : (b : Bool) → (cond b c.number (first_of l) == c.number) ≡ b
    go true = eq-eqb c.number c.number refl
    go false =
        rw ((first_line l).1, eqb_sym)
        (fresh_line c.number l (first_line l).0 (both_left (fresh c.number l) (distinct l) d))
first_at (c ∷ l) (suc k) d = go c.applies (first_at l k (both_right (fresh c.number l) (distinct l) d))
  where
    go : (b : Bool) → (first_of l == (line_at l k).number) ≡ (none_applies (take k l) && (line_at l k).applies)
        → (cond b c.number (first_of l) == (line_at l k).number)
        ≡ (not b && none_applies (take k l) && (line_at l k).applies)
    go true h = fresh_line c.number l k (both_left (fresh c.number l) (distinct l) d)
    go false h = h

-- .. so a table with distinct numbers decides the first that applies
first_decides : (l : List Check) → distinct l ≡ true → Decides l (first_of l)
first_decides l d k =
    let before : Bool = none_applies (take k l) in
    let here : Bool = (line_at l k).applies in
    Iff-trans (exactly (first_of l) (line_at l k).number (before && here) (first_at l k d)) (and-eq-true_iff before here)

-- "given exactly when .. Checks run in the order of the table": the answer of an event, 1 to 11 or 0
pub checked_in_order : (s : State) (e : Event) → Decides (checks s e) (answer s e)
unfolding answer checks checks_in_range distinct fresh
checked_in_order s e = first_decides (checks s e) refl

-- "A run checks 31, then 32, then the state once (answer 1)": the answer of a run
pub run_in_order : (s : State) (es : List Event) (room : ℕ) → Decides (run_checks s es room) (run_answer s es room)
unfolding run_answer run_checks distinct fresh
run_in_order s es room = first_decides (run_checks s es room) refl

-- the answer of a setup, by the lines 21, 22, 23 and 25 of the same table
pub setup_in_order : (sites : ℕ) (es : List Entry) → Decides (setup_checks sites es) (setup_answer sites es)
unfolding setup_answer setup_checks distinct fresh
setup_in_order sites es = first_decides (setup_checks sites es) refl

-- ---- when an event is done

-- the event is well filled: it passes the checks 2 to 5
unfoldable pub well_formed : State → Event → Bool
well_formed s e = not (no_action e) && (not (no_site s e) && (not (no_transaction s e) && not (ill_filled s.sites e)))

-- the event passes the checks 6 to 11
allowed : State → Event → Bool
allowed s e = none_applies (drop 5 (checks s e))

-- the event with the action a
abbrev pub numbered : Event → ℕ → Event
numbered e a = record {
  action = a;
  site = e.site;
  txn = e.txn;
  kind = e.kind;
  from = e.from;
  reads = e.reads;
  writes = e.writes;
}

module _ (s : State) (e : Event) where
  -- with the action a the event passes the checks 6 to 11; with the action a the figure enables it
  abbrev checked : ℕ → Bool
  checked a = allowed s (numbered e a)

  abbrev figured : ℕ → Bool
  figured a = enabled (action_of (numbered e a)) s e.site e.txn

  -- the two are one test for the actions 1 to 12, all of which are computed at once
  twelve : table 12 (λ k. checked (suc k)) ≡ table 12 (λ k. figured (suc k))
  unfolding allowed checks checks_in_range none_applies wrong_home home_met wrong_status wrong_missing no_message message_there lock_clash
      no_scan action_of enabled table_from
  twelve =
      simp (not-not, not-or, or-false, and-true)

  one_of_twelve : (k : ℕ) → k < 12 → checked (suc k) ≡ figured (suc k)
  one_of_twelve k l =
      sym (get_or-table (λ j. checked (suc j)) 12 k false l) ∙ ap (λ (bs : List Bool). slice_index_or bs k false) twelve
      ∙ get_or-table (λ j. figured (suc j)) 12 k false l

  -- .. so they are one test for the event's own action, where the check 2 passes
  allowed_enabled : not (no_action e) ≡ true → allowed s e ≡ enabled (action_of e) s e.site e.txn
  unfolding no_action
  allowed_enabled h =
      let a : ℕ = e.action in
      let known : (nat_le 1 a && nat_le a 12) ≡ true = sym (not-not (nat_le 1 a && nat_le a 12)) ∙ h in
      let low : 1 ≤ a = leb-true 1 a (both_left (nat_le 1 a) (nat_le a 12) known) in
      let high : a ≤ 12 = leb-true a 12 (both_right (nat_le 1 a) (nat_le a 12) known) in
      let back : suc (a - 1) ≡ a = omega arith in
      subst (λ (n : ℕ). checked n ≡ figured n) back (one_of_twelve (a - 1) (omega arith))

-- the eleven checks in three groups: the check 1 (r), the checks 2 to 5 (a to d), and the checks 6 to 11 (m), which are
-- the figure's test (x) where the check 2 passes
three_groups : (r a b c d m x : Bool) → (a ≡ true → m ≡ x)
    → (not (not r) && (a && (b && (c && (d && m)))) && true) ≡ (r && (a && (b && (c && d)) && x))
three_groups false a b c d m x h = refl
three_groups true false b c d m x h = refl
three_groups true true b c d m x h = simp (h refl, and-true, and_assoc)

all_three : (a b c : Bool) → (a && (b && c) ≡ true) ↔ ((a ≡ true) × (b ≡ true) × (c ≡ true))
all_three a b c = (apart, λ p. both a (b && c) p.0 (both b c p.1 p.2))
  where
    apart : a && (b && c) ≡ true → (a ≡ true) × (b ≡ true) × (c ≡ true)
    apart h =
        let p = (and-eq-true_iff a (b && c)).0 h in
        let q = (and-eq-true_iff b c).0 p.1 in
        (p.0, q.0, q.1)

-- "An action is enabled exactly when Figure 2 enables it": over all twelve actions, an event is answered 0, "done",
-- exactly when the state is in range, the event is well filled, and the figure enables its action there
pub done_exactly : (s : State) (e : Event)
    → (answer s e ≡ 0)
    ↔ ((in_range s ≡ true) × (well_formed s e ≡ true) × (enabled (action_of e) s e.site e.txn ≡ true))
unfolding answer checks checks_in_range none_applies allowed well_formed distinct fresh
done_exactly s e =
    let on : Bool = enabled (action_of e) s e.site e.txn in
    Iff-trans
    (exactly (answer s e) 0 (in_range s && (well_formed s e && on))
    (first_at (checks s e) 11 refl
    ∙ three_groups (in_range s) (not (no_action e)) (not (no_site s e)) (not (no_transaction s e)) (not (ill_filled s.sites e))
    (allowed s e) on (allowed_enabled s e)))
    (all_three (in_range s) (well_formed s e) on)

-- an event that is done is about a site and a transaction that there are, and the figure enables its action
pub record Doable (s : State) (e : Event) : Type 0 where
  pub site : e.site < s.sites
  pub txn : e.txn < s.count
  pub on : enabled (action_of e) s e.site e.txn ≡ true

pub doable : (s : State) (e : Event) → answer s e ≡ 0 → Doable s e
unfolding well_formed no_site no_transaction
doable s e h =
    let a = (done_exactly s e).0 h in
    let b = simp not-not at (both_right (not (no_action e)) _ a.1) in
    let c = both_right (nat_lt e.site s.sites) _ b in
    record {
      site = ltb-true e.site s.sites (both_left _ _ b);
      txn = ltb-true e.txn s.count (both_left _ (not (ill_filled s.sites e)) c);
      on = a.2;
    }

-- ---- what an event returns

-- ".. and then does exactly what the figure says": an event that is done returns the figure's effect
pub step-done : (s : State) (e : Event) → answer s e ≡ 0 → step s e ≡ done s e
unfolding step
step-done s e h = rw h

-- "A refused event returns only its number and an unchanged state"
pub step-refused : (s : State) (e : Event) → (answer s e ≡ 0 → ⊥) → step s e ≡ refused (answer s e) s
unfolding step
step-refused s e n = rw ne_eqb

-- ---- what a run returns

-- "Else it goes on past refused events": a run that is not refused returns the last state and the sum of the messages
pub run-done : (s : State) (es : List Event) (room : ℕ) → run_answer s es room ≡ 0
    → run s es room ≡ record { answer = 0; sent = sent_by s es; state = state_after s es }
unfolding run
run-done s es room h = rw h

-- ".. writes one answer an event, and keeps the places beyond"
pub answers_written : (s : State) (es : List Event) (old : List ℕ) → run_answer s es (length old) ≡ 0
    → answers_after s es old ≡ answers_of s es ++ drop (length es) old
unfolding answers_after
answers_written s es old h = rw h

-- "When one of these refuses, the state is returned as given, the message sum is 0"
pub run-refused : (s : State) (es : List Event) (room : ℕ) → (run_answer s es room ≡ 0 → ⊥)
    → run s es room ≡ record { answer = run_answer s es room; sent = 0; state = s }
unfolding run
run-refused s es room n = rw ne_eqb

-- ".. and no answer place is written"
pub answers_kept : (s : State) (es : List Event) (old : List ℕ) → (run_answer s es (length old) ≡ 0 → ⊥)
    → answers_after s es old ≡ old
unfolding answers_after
answers_kept s es old n = rw ne_eqb

-- ---- a state that is not in range, and the empty state

-- "1 the state is not in range": the first line of the table, so it hides every other number of an event
pub out_answer : (s : State) (e : Event) → in_range s ≡ false → answer s e ≡ 1
unfolding checks none_applies
out_answer s e h = (checked_in_order s e 0).1 (refl, ap not h)

-- .. and the event is refused with it
pub out_step : (s : State) (e : Event) → in_range s ≡ false → step s e ≡ refused 1 s
out_step s e h =
    step-refused s e (λ z. omega (arith, out_answer s e h)) ∙ ap (λ (n : ℕ). refused n s) (out_answer s e h)

-- a run from such a state is refused too
pub out_run : (s : State) (es : List Event) (room : ℕ) → in_range s ≡ false → run_answer s es room ≡ 0 → ⊥
unfolding run_checks none_applies
out_run s es room h z = false≢true (simp (h, and-false) at ((run_in_order s es room 3).0 z).0)

-- "the empty state: no sites, no transactions", which is not in range
pub empty_out : in_range empty_state ≡ false
unfolding in_range table_fine sites_fine empty_state
empty_out = refl

-- .. so every event there is refused
pub empty_step : (e : Event) → step empty_state e ≡ refused 1 empty_state
empty_step e = out_step empty_state e empty_out

-- the answer of a run from the empty state: "31, then 32, then the state once (answer 1)", which here always applies
abbrev pub empty_answer : List Event → ℕ → ℕ
empty_answer es room =
    first_of (given 31 (nat_lt max_events (length es)) ∷ given 32 (nat_lt room (length es)) ∷ given 1 true ∷ [])

empty_answer_lem : (es : List Event) (room : ℕ) → run_answer empty_state es room ≡ empty_answer es room
unfolding run_answer run_checks
empty_answer_lem es room = rw empty_out

-- .. so it is never 0
pub empty_refused : (es : List Event) (room : ℕ) → empty_answer es room ≡ 0 → ⊥
empty_refused es room z = out_run empty_state es room empty_out (empty_answer_lem es room ∙ z)

-- "the state is returned as given, the message sum is 0": a run from the empty state
pub empty_run : (es : List Event) (room : ℕ)
    → run empty_state es room ≡ record { answer = empty_answer es room; sent = 0; state = empty_state }
empty_run es room = rw (← empty_answer_lem es room) (run-refused empty_state es room (out_run empty_state es room empty_out))

-- ".. and no answer place is written" by it
pub empty_kept : (es : List Event) (old : List ℕ) → answers_after empty_state es old ≡ old
empty_kept es old = answers_kept empty_state es old (out_run empty_state es (length old) empty_out)
