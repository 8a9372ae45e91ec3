-- What the code of a rehearsal does at each turn is what the report of a text says.
use Rattle.std.proofs.Common.{◌≡◌, ℕ, ◌+◌, ◌*◌, ◌/◌, ◌<◌, ◌≤◌, true, false, List, ◌++◌, length, take, drop, Result, Ok, Err, refl, sym, ap, ◌∙◌, arith, le-ltb, lt-ltb, ne_eqb}
use lib.Seq.{sets, sets-eq, take-append_seam}
use Rattle.protocol.specs.State.{max_sites, max_txns, max_events}
use Rattle.protocol.specs.Setup.{setup_of}
use Rattle.protocol.specs.Range.{in_range}
use Rattle.protocol.specs.Run.{events_of, state_after, answers_of, sent_by, run_answer, run, answers_after}
use Rattle.protocol.specs.declared.Entry.{Entry}
use Rattle.protocol.specs.declared.Event.{Event}
use Rattle.protocol.specs.Run.{Ran}
use Rattle.protocol.specs.Setup.{Started}
use Rattle.protocol.specs.Refusals.{number_of, answer_of, sent_of, started}
use Rattle.laws.specs.Numbers.{number_of-some}
use Rattle.protocol.specs.declared.Answered.{Answered}
use Rattle.protocol.specs.declared.Refusal.{Refusal}
use Rattle.protocol.specs.declared.State.{State}
use Rattle.std.specs.Result.{result_unwrap_or}
use Rattle.laws.specs.Shape.{Shaped}
use Rattle.laws.specs.Enabled.{run-done, answers_written}
use Rattle.laws.specs.Ranged.{after_counts}
use Rattle.laws.specs.Runs.{events-length, answers_length, run-goes, setup_of_ranged}
use Rattle.text.specs.Written.{bytes}
use Rattle.scenario.specs.Format.{read_text, whole, entries_of}
use Rattle.scenario.specs.Put.{end_lines}
use Rattle.scenario.specs.Report.{max_text, line_of, run_lines, outcome_of, read_report, report_of, reported, reported_in, Reported}
use Rattle.scenario.specs.Room.{last_fits}
use Rattle.scenario.specs.declared.Reading.{Reading}

-- a run from a state in range whose answers have room for 1,024: what is returned, and what the answers then hold
module _ (s : State) (numbers : List ℕ) (h : Shaped s) (r : in_range s ≡ true) (few : length numbers ≤ 7 * max_events)
    (old answers : List ℕ) (ran : Ran) (f : answers ≡ answers_after s (events_of numbers) old)
    (e : ran ≡ run s (events_of numbers) (length old)) (room : max_events ≤ length old) where
  abbrev events : List Event
  events = events_of numbers

  goes : run_answer s events (length old) ≡ 0
  goes = run-goes s events (length old) (omega (arith, events-length numbers)) (omega (arith, events-length numbers)) r

  ends : ran ≡ record { answer = 0; sent = sent_by s events; state = state_after s events }
  ends = e ∙ run-done s events (length old) goes

  -- the last state has no more sites and transactions than a setup takes
  pub ends_fit : (ran.state.sites ≤ max_sites) × (ran.state.count ≤ max_txns)
  ends_fit = rw ends (last_fits s numbers h r few)

  -- the first of the places for answers hold those of the events, so the lines are those of the run
  pub lines : end_lines (take (length numbers / 7) answers) ran.state ran.sent ≡ run_lines s numbers
  unfolding end_lines run_lines
  lines =
      let n : length numbers / 7 ≡ length (answers_of s events) =
      omega (arith, events-length numbers, answers_length s events) in
      let first : take (length numbers / 7) answers ≡ answers_of s events =
      rw (f, answers_written s events old goes, n) (take-append_seam (answers_of s events) (drop (length events) old)) in
      rw (first, ends, (after_counts s events).0)

-- where a run is refused it has sent nothing
pub sent_or_none : (o : Result ℕ Refusal) → result_unwrap_or o 0 ≡ sent_of o
sent_or_none (Ok n) = refl
sent_or_none (Err k) = refl

-- ---- the outcome of what was read: b is the setup of the entries es

-- what is to be printed of it
abbrev outcome : Reading → List ℕ → List ℕ → List ℕ
outcome m homes numbers = outcome_of (setup_of m.sites m.count (entries_of homes)) m.events numbers

module _ (m : Reading) (homes numbers : List ℕ) {es : List Entry} {b : Answered (Unit {0})} (d : es ≡ entries_of homes)
    (e : started b ≡ setup_of m.sites m.count es) where
  pub setup-refused : (k : Refusal) → b.outcome ≡ Err k → line_of (bytes "setup=") (number_of k) ≡ outcome m homes numbers
  unfolding outcome_of
  setup-refused k h =
      let a : answer_of b.outcome ≡ number_of k = ap answer_of h in
      rw (← d, ← e, a, ne_eqb (number_of k) 0 (number_of-some k))

  module _ (h : b.outcome ≡ Ok tt) where
    z : answer_of b.outcome ≡ 0
    z = ap answer_of h

    pub too_many : max_events < m.events → line_of (bytes "setup=") 31 ≡ outcome m homes numbers
    unfolding outcome_of
    too_many g = rw (← d, ← e, z, lt-ltb max_events m.events g)

    pub runs : m.events ≤ max_events → run_lines b.state (take (7 * m.events) numbers) ≡ outcome m homes numbers
    unfolding outcome_of
    runs g = rw (← d, ← e, z, le-ltb max_events m.events g)

    -- the state of a setup that was done
    pub begun : (Shaped b.state) × (in_range b.state ≡ true)
    begun = let n = setup_of_ranged m.sites m.count es (sym (ap (λ (x : Started). x.answer) e) ∙ z) in rw (← e) at n

-- ---- the report of a text

module _ (t : List ℕ) where
  pub too_long : max_text < length t → line_of (bytes "fault=") 0 ≡ report_of t
  unfolding report_of
  too_long h = rw (lt-ltb max_text (length t) h)

  module _ (h : length t ≤ max_text) (m : Reading) (e : m ≡ (read_text t).reading) where
    pub read_fault : whole m.want ≡ false → line_of (bytes "fault=") m.line ≡ report_of t
    unfolding report_of read_report
    read_fault w = rw (le-ltb max_text (length t) h, ← e, w)

    pub read_whole : (homes numbers : List ℕ) → homes ≡ (read_text t).homes → numbers ≡ (read_text t).numbers
        → whole m.want ≡ true
        → outcome_of (setup_of m.sites m.count (entries_of homes)) m.events numbers ≡ report_of t
    unfolding report_of read_report
    read_whole homes numbers f g w = rw (le-ltb max_text (length t) h, ← e, ← f, ← g, w)

-- ---- a report l at the start of bytes that held old

module _ (l old : List ℕ) where
  -- there are too few
  pub short : {n : ℕ} → n ≡ length l → length old < n → Reported l old (Err (record {})) old
  unfolding reported reported_in
  short e h =
      let b = lt-ltb (length old) (length l) (omega arith) in
      record { result = rw b refl; bytes = rw b refl }

  -- it is stored
  pub stored : {n : ℕ} {o : List ℕ} → n ≡ length l → o ≡ sets old 0 l → n ≤ length old → Reported l old (Ok n) o
  unfolding reported reported_in
  stored e f h =
      let b = le-ltb (length old) (length l) (omega arith) in
      record { result = rw (b, e) refl; bytes = rw (b, f) refl }

  start : length l ≤ length old → sets old 0 l ≡ l ++ drop (length l) old
  start h =
      let z : 0 + length l ≡ length l = omega arith in
      sets-eq l old 0 (omega arith) ∙ ap (λ (k : ℕ). l ++ drop k old) z

  -- so many of the bytes are the report
  pub first : {n : ℕ} {o : List ℕ} → n ≡ length l → o ≡ sets old 0 l → n ≤ length old → take n o ≡ l
  first e f h = rw (f, e, start (omega arith)) (take-append_seam l (drop (length l) old))

  -- copied, they are stored
  pub copied : {n : ℕ} {d : List ℕ} → n ≡ length l → d ≡ l → n ≤ length old → d ++ drop n old ≡ sets old 0 l
  copied e f h = rw (f, e) (sym (start (omega arith)))
