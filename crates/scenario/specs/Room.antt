-- How long a report can be: report_room bytes suffice for every text.
use Rattle.std.specs.Prelude.{◌≡◌, ℕ, zero, suc, ◌+◌, ◌-◌, ◌*◌, ◌<◌, ◌≤◌, true, cond, List, [], ◌∷◌, ◌++◌, length, take, ◌==◌, nat_lt, refl, Result}
use Rattle.std.specs.Result.{result_unwrap_or}
use Rattle.std.proofs.Common.{sym, ap, ◌∙◌, append_assoc, append-nil, length-append, ltb-false, eqb-true}
use native.Mathlib.Omega.{arith}
use Rattle.std.proofs.Math.ListN.{length-take}
use Rattle.std.proofs.Math.Seq.{length-sets}
use Rattle.protocol.specs.State.{max_sites, max_txns, max_events, row_at, place_at, log_of}
use Rattle.protocol.specs.Setup.{setup_of}
use Rattle.protocol.specs.Range.{in_range}
use Rattle.protocol.specs.Run.{events_of, state_after, answers_of, sent_by}
use Rattle.protocol.specs.declared.Entry.{Entry}
use Rattle.protocol.specs.declared.Row.{Row}
use Rattle.protocol.specs.declared.Place.{Place}
use Rattle.protocol.specs.declared.State.{State}
use Rattle.text.specs.Written.{bytes}
use Rattle.text.specs.Decimal.{digits}
use Rattle.text.specs.Laws.{digits-length}
use Rattle.laws.specs.Tests.{Test, yes_so, not_so, test}
use Rattle.laws.specs.Read.{cond_keeps}
use Rattle.laws.specs.Shape.{Shaped}
use Rattle.laws.specs.InRange.{sites_fit, count_fits, range_out}
use Rattle.laws.specs.Ranged.{after_ranged, after_counts}
use Rattle.laws.specs.Runs.{events-length, answers_length, setup_of_ranged}
use Rattle.scenario.specs.Format.{read_text, whole, entries_of}
use Rattle.scenario.specs.Put.{site_of}
use Rattle.scenario.specs.Report.{max_text, report_room, line_of, others_of, commas_of, list_of, answer_lines, site_lines, run_lines, outcome_of, read_report, report_of, reported, reported_in, Reported}
use Rattle.scenario.specs.declared.ShortBuffer.{ShortBuffer}

-- ---- a line

-- a line is its key, its decimal and a line feed
pub line_length : (key : List ℕ) (n : ℕ) → length (line_of key n) ≡ length key + length (digits n) + 1
unfolding line_of
line_length key n = omega (arith, length-append key (digits n ++ (10 ∷ [])), length-append (digits n) (10 ∷ []))

-- a decimal has at most ten digits
pub line_room : (key : List ℕ) (n : ℕ) → length (line_of key n) ≤ length key + 11
line_room key n = omega (arith, line_length key n, digits-length n)

-- an answer is a line with a key of seven bytes
answer_room : (n : ℕ) → length (line_of (bytes "answer=") n) ≤ 18
unfolding bytes
answer_room n = line_room (bytes "answer=") n

-- so many answers
pub answers_room : (l : List ℕ) → length (answer_lines l) ≤ 18 * length l
unfolding answer_lines
answers_room [] = omega arith
answers_room (a ∷ l) =
    let r = answers_room l in
    omega (arith, length-append (line_of (bytes "answer=") a) (answer_lines l), answer_room a)

-- ---- a list

-- each decimal has a comma before it ..
others_room : (l : List ℕ) → length (others_of l) ≤ 11 * length l
unfolding others_of
others_room [] = omega arith
others_room (n ∷ l) =
    let r = others_room l in
    omega (arith, length-append (digits n) (others_of l), digits-length n)

-- .. but the first
pub commas_room : (l : List ℕ) → length (commas_of l) ≤ 11 * length l
unfolding commas_of
commas_room [] = omega arith
commas_room (n ∷ l) = omega (arith, length-append (digits n) (others_of l), digits-length n, others_room l)

-- a list is its key, its decimals with commas and a line feed
pub list_length : (key l : List ℕ) → length (list_of key l) ≡ length key + length (commas_of l) + 1
unfolding list_of
list_length key l = omega (arith, length-append key (commas_of l ++ (10 ∷ [])), length-append (commas_of l) (10 ∷ []))

-- ---- a site

-- a line of at most 32 numbers, with a key of seven bytes or fewer
status_room : (l : List ℕ) → length l ≤ 32 → length (list_of (bytes "status=") l) ≤ 360
unfolding bytes
status_room l h = omega (arith, list_length (bytes "status=") l, commas_room l)

log_room : (l : List ℕ) → length l ≤ 32 → length (list_of (bytes "log=") l) ≤ 360
unfolding bytes
log_room l h = omega (arith, list_length (bytes "log=") l, commas_room l)

-- a site is two lines ..
pub site_length : (count : ℕ) (r : Row) (p : Place)
    → length (site_of count r p)
    ≡ length (list_of (bytes "status=") (take count r.status)) + length (list_of (bytes "log=") (log_of p))
unfolding site_of
site_length count r p =
    length-append (list_of (bytes "status=") (take count r.status)) (list_of (bytes "log=") (log_of p))

-- .. each of at most 32 numbers
pub site_room : (count : ℕ) (r : Row) (p : Place) → count ≤ 32 → length (log_of p) ≤ 32
    → length (site_of count r p) ≤ 720
site_room count r p h g =
    omega (
      arith,
      site_length count r p,
      status_room (take count r.status) (omega (arith, length-take count r.status)),
      log_room (log_of p) g,
    )

-- ---- all sites

-- the first of several sites, and the others
pub sites_first : (n i : ℕ) (s : State)
    → site_lines (suc n) i s ≡ site_of s.count (row_at s i) (place_at s i) ++ site_lines n (suc i) s
unfolding site_lines site_of
sites_first n i s =
    sym
    (append_assoc (list_of (bytes "status=") (take s.count (row_at s i).status))
    (list_of (bytes "log=") (log_of (place_at s i)))
    (site_lines n (suc i) s))

-- no site at all
pub sites_none : (i : ℕ) (s : State) → site_lines 0 i s ≡ []
unfolding site_lines
sites_none i s = refl

-- some sites, and the others
pub sites_split : (m n i : ℕ) (s : State) → site_lines (m + n) i s ≡ site_lines m i s ++ site_lines n (i + m) s
sites_split zero n i s =
    let e : i + 0 ≡ i = omega arith in
    let z : 0 + n ≡ n = omega arith in
    rw (sites_none, e, z)
sites_split (suc m) n i s =
    let e : i + suc m ≡ suc i + m = omega arith in
    let z : suc m + n ≡ suc (m + n) = omega arith in
    let w = site_of s.count (row_at s i) (place_at s i) in
    rw (e, z)
    (sites_first (m + n) i s ∙ ap (λ (l : List ℕ). w ++ l) (sites_split m n (suc i) s)
    ∙ sym (append_assoc w (site_lines m (suc i) s) (site_lines n (suc i + m) s))
    ∙ ap (λ (l : List ℕ). l ++ site_lines n (suc i + m) s) (sym (sites_first m i s)))

-- one site more
pub sites_next : (i : ℕ) (s : State)
    → site_lines (i + 1) 0 s ≡ site_lines i 0 s ++ site_of s.count (row_at s i) (place_at s i)
sites_next i s =
    let z : 0 + i ≡ i = omega arith in
    sites_split i 1 0 s
    ∙ ap (λ (k : ℕ). site_lines i 0 s ++ site_lines 1 k s) z
    ∙ ap (λ (l : List ℕ). site_lines i 0 s ++ l)
    (sites_first 0 i s ∙ ap (λ (l : List ℕ). site_of s.count (row_at s i) (place_at s i) ++ l) (sites_none (suc i) s)
    ∙ append-nil (site_of s.count (row_at s i) (place_at s i)))

-- some sites and the next are no longer than all
pub sites_part : (n i : ℕ) (s : State) → i < n
    → length (site_lines i 0 s) + length (site_of s.count (row_at s i) (place_at s i)) ≤ length (site_lines n 0 s)
sites_part n i s h =
    let e : i + 1 + (n - (i + 1)) ≡ n = omega arith in
    omega (
      arith,
      ap length (sites_next i s),
      length-append (site_lines i 0 s) (site_of s.count (row_at s i) (place_at s i)),
      ap (λ (k : ℕ). length (site_lines k 0 s)) e,
      ap length (sites_split (i + 1) (n - (i + 1)) 0 s),
      length-append (site_lines (i + 1) 0 s) (site_lines (n - (i + 1)) (0 + (i + 1)) s),
    )

-- n sites from site i on, each with at most 32 numbers in its log
pub sites_room : (n i : ℕ) (s : State) → s.count ≤ 32
    → ((k : ℕ) → i ≤ k → k < i + n → length (log_of (place_at s k)) ≤ 32)
    → length (site_lines n i s) ≤ 720 * n
sites_room zero i s h g = omega (arith, ap length (sites_none i s))
sites_room (suc n) i s h g =
    let r = sites_room n (suc i) s h (λ k a b. g k (omega arith) (omega arith)) in
    omega (
      arith,
      ap length (sites_first n i s),
      length-append (site_of s.count (row_at s i) (place_at s i)) (site_lines n (suc i) s),
      site_room s.count (row_at s i) (place_at s i) h (g i (omega arith) (omega arith)),
    )

-- ---- a whole report: the answers, the sites and the messages

-- the messages are a line with a key of nine bytes
messages_room : (n : ℕ) → length (line_of (bytes "messages=") n) ≤ 20
unfolding bytes
messages_room n = line_room (bytes "messages=") n

-- its parts
pub report_length : (l : List ℕ) (n : ℕ) (s : State) (m : ℕ)
    → length (answer_lines l ++ (site_lines n 0 s ++ line_of (bytes "messages=") m))
    ≡ length (answer_lines l) + (length (site_lines n 0 s) + length (line_of (bytes "messages=") m))
report_length l n s m =
    length-append (answer_lines l) (site_lines n 0 s ++ line_of (bytes "messages=") m)
    ∙ ap (λ (k : ℕ). length (answer_lines l) + k) (length-append (site_lines n 0 s) (line_of (bytes "messages=") m))

-- of at most 1,024 answers and eight sites
pub report_room_lem : (l : List ℕ) (n : ℕ) (s : State) (m : ℕ) → length l ≤ max_events → n ≤ max_sites → s.count ≤ max_txns
    → ((k : ℕ) → k < n → length (log_of (place_at s k)) ≤ 32)
    → length (answer_lines l ++ (site_lines n 0 s ++ line_of (bytes "messages=") m)) ≤ report_room
report_room_lem l n s m a b c g =
    omega (
      arith,
      report_length l n s m,
      answers_room l,
      sites_room n 0 s c (λ k i j. g k (omega arith)),
      messages_room m,
    )

-- of a run from a state in range
module _ (s : State) (numbers : List ℕ) (h : Shaped s) (r : in_range s ≡ true) (few : length numbers ≤ 7 * max_events) where
  abbrev last : State
  last = state_after s (events_of numbers)

  -- its last state has no more sites and transactions than a setup takes
  pub last_fits : (last.sites ≤ max_sites) × (last.count ≤ max_txns)
  last_fits =
      let t = (range_out last (after_ranged s (events_of numbers) h r).1).table in
      (sites_fit last t, count_fits last t)

  -- it has at most 1,024 answers
  pub answers_few : length (answers_of s (events_of numbers)) ≤ max_events
  answers_few = omega (arith, answers_length s (events_of numbers), events-length numbers)

  run_fits : length (run_lines s numbers) ≤ report_room
  unfolding run_lines
  run_fits =
      let sites = (after_counts s (events_of numbers)).0 in
      report_room_lem (answers_of s (events_of numbers)) s.sites last (sent_by s (events_of numbers)) answers_few
      (omega (arith, last_fits.0)) last_fits.1 (λ k l. log_fits k (omega (arith, last_fits.0)))
    where
      log_fits : (k : ℕ) → k < max_sites → length (log_of (place_at last k)) ≤ 32
      log_fits k l =
          omega (
            arith,
            length-take (place_at last k).log.length (place_at last k).log.entries,
            ((after_ranged s (events_of numbers) h r).0.place k l).entries,
          )

-- ---- every text

-- a line that stands alone
pub setup_fits : (n : ℕ) → length (line_of (bytes "setup=") n) ≤ report_room
unfolding bytes
setup_fits n = omega (arith, line_room (bytes "setup=") n)

pub fault_fits : (n : ℕ) → length (line_of (bytes "fault=") n) ≤ report_room
unfolding bytes
fault_fits n = omega (arith, line_room (bytes "fault=") n)

-- what a text of the form announces
outcome_fits : (sites n : ℕ) (es : List Entry) (events : ℕ) (numbers : List ℕ)
    → length (outcome_of (setup_of sites n es) events numbers) ≤ report_room
unfolding outcome_of
outcome_fits sites n es events numbers = begun (test ((setup_of sites n es).answer == 0))
  where
    goes : (setup_of sites n es).answer ≡ 0 → Test (nat_lt max_events events)
        → length (cond (nat_lt max_events events) (line_of (bytes "setup=") 31) (run_lines (setup_of sites n es).state (take (7 * events) numbers))) ≤ report_room
    goes a (yes_so b) = rw b (setup_fits 31)
    goes a (not_so b) =
        let f = setup_of_ranged sites n es a in
        rw b
        (run_fits (setup_of sites n es).state (take (7 * events) numbers) f.0 f.1
        (omega (arith, length-take (7 * events) numbers, ltb-false max_events events b)))

    begun : Test ((setup_of sites n es).answer == 0) → length (outcome_of (setup_of sites n es) events numbers) ≤ report_room
    begun (yes_so b) = rw b (goes (eqb-true _ _ b) (test (nat_lt max_events events)))
    begun (not_so b) = rw b (setup_fits (setup_of sites n es).answer)

-- the report of every text has room
pub report_fits : (t : List ℕ) → length (report_of t) ≤ report_room
unfolding report_of read_report
report_fits t =
    let fits : List ℕ → Type 0 = λ l. length l ≤ report_room in
    let r = read_text t in
    cond_keeps fits (nat_lt max_text (length t)) _ _ (λ e. fault_fits 0)
    (λ e. cond_keeps fits (whole r.reading.want) _ _
    (λ w. outcome_fits r.reading.sites r.reading.count (entries_of r.homes) r.reading.events r.numbers)
    (λ w. fault_fits r.reading.line))

-- what is returned is a length inside the lent bytes, which stay as many; a refusal stands for 0
pub within : {l old o : List ℕ} {r : Result ℕ ShortBuffer} → Reported l old r o → result_unwrap_or r 0 ≤ length o
unfolding reported reported_in
within {l} {old} {o} {r} p = go (test (nat_lt (length old) (length l)))
  where
    go : Test (nat_lt (length old) (length l)) → result_unwrap_or r 0 ≤ length o
    go (yes_so b) = rw (p.result, b) (omega arith)
    go (not_so b) = rw (p.result, p.bytes, b) (omega (arith, ltb-false (length old) (length l) b, length-sets old 0 l))
