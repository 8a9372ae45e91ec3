-- What is written from tables is read as these tables, and what is read whole was written from the tables that it has
-- filled: `reads`, `tables_read`, `was_written` and `written`.
use Rattle.std.specs.Prelude.{◌≡◌, ℕ, zero, suc, ◌+◌, ◌*◌, ◌≤◌, true, List, [], ◌∷◌, ◌++◌, length, set, slice_set, refl}
use Rattle.std.proofs.Common.{sym, ap, ap₂, ◌∙◌, append_assoc, arith, lt-ltb, le-ltb}
use Rattle.std.proofs.lemmas.List.Edits.{sets}
use Rattle.protocol.specs.declared.Entry.{Entry}
use Rattle.protocol.specs.declared.Event.{Event}
use Rattle.text.specs.Written.{bytes}
use Rattle.text.specs.Line.{parts}
use Rattle.text.specs.Laws.{joined, joined-parts}
use Rattle.scenario.specs.declared.Want.TheVariants.{Home, Events, Event as Next, Nothing}
use Rattle.scenario.specs.Format.{Read, begin, after, all_lines, read_into, whole}
use Rattle.scenario.specs.Report.{line_of, list_of}
use Rattle.scenario.specs.Tables.{Tables, entry_lines, fields_in, event_lines, text_of, homes_of, numbers_of, read_of, tables_of, Small, AllSmall, Fits}
use Rattle.scenario.specs.Commas.{small_more, small_both, small_first, small_rest, FieldsSmall}
use Rattle.scenario.specs.Wanted.{at, nothing-after, line_reads, line_taken, sites_wanted, count_wanted, home_wanted, priority_wanted, events_wanted, event_wanted}
use Rattle.scenario.specs.RoundTrip.{Written, ReadWhole, tables_back}

-- ---- what is written is read

-- the lines of the transactions: the first two, and the others
entry_first : (e : Entry) (es : List Entry) (t : List ℕ)
    → entry_lines (e ∷ es) ++ t
    ≡ line_of (bytes "master=") e.home ++ (line_of (bytes "priority=") e.priority ++ (entry_lines es ++ t))
unfolding entry_lines
entry_first e es t = rw (append_assoc, append_assoc)

-- from where the transactions that are left are wanted to where `events=` is
entries_read : (es : List Entry) (line done sites count events : ℕ) (hs ns t : List ℕ) → done + length es ≡ count
    → AllSmall (homes_of es)
    → all_lines (at (after done count Home Events) line done sites count events hs ns) (parts 10 (entry_lines es ++ t))
    ≡ all_lines (at Events (line + 2 * length es) count sites count events (sets hs (2 * done) (homes_of es)) ns)
    (parts 10 t)
unfolding entry_lines homes_of line_of
entries_read [] line done sites count events hs ns t h g =
    let n : done ≡ count = omega arith in
    let z : line + 0 ≡ line = omega arith in
    rw (le-ltb done count (omega arith), n, z)
entries_read (e ∷ es) line done sites count events hs ns t h g =
    let n : line + 1 + 1 + 2 * length es ≡ line + 2 * suc (length es) = omega arith in
    let i : 2 * done + 1 ≡ suc (2 * done) = omega arith in
    let j : 2 * (done + 1) ≡ suc (suc (2 * done)) = omega arith in
    let u = entry_lines es ++ t in
    let hs₁ = set hs (2 * done) e.home in
    let hs₂ = set hs₁ (2 * done + 1) e.priority in
    rw (lt-ltb done count (omega arith))
    (ap (λ (x : List ℕ). all_lines (at Home line done sites count events hs ns) (parts 10 x)) (entry_first e es t)
    ∙ line_reads (home_wanted line done sites count events hs ns) e.home (g 0)
    (line_of (bytes "priority=") e.priority ++ u)
    ∙ line_reads (priority_wanted (line + 1) done sites count events hs₁ ns) e.priority (g 1) u
    ∙ entries_read es (line + 1 + 1) (done + 1) sites count events hs₂ ns t (omega arith) (λ k. g (suc (suc k)))
    ∙ ap₂ (λ (k : ℕ) (l : List ℕ). all_lines (at Events k count sites count events l ns) (parts 10 t)) n
    (ap₂ (λ (k m : ℕ). sets (slice_set hs₁ k e.priority) m (homes_of es)) i j))

-- from where the events that are left are wanted to the end
events_read : (es : List Event) (line done sites count events : ℕ) (hs ns : List ℕ) → done + length es ≡ events
    → AllSmall (numbers_of es)
    → all_lines (at (after done events Next Nothing) line done sites count events hs ns) (parts 10 (event_lines es))
    ≡ at Nothing (line + length es) events sites count events hs (sets ns (7 * done) (numbers_of es))
unfolding event_lines numbers_of list_of parts all_lines
events_read [] line done sites count events hs ns h g =
    let n : done ≡ events = omega arith in
    let z : line + 0 ≡ line = omega arith in
    rw (le-ltb done events (omega arith), n, z)
events_read (e ∷ es) line done sites count events hs ns h g =
    let n : line + 1 + length es ≡ line + suc (length es) = omega arith in
    let i : 7 * (done + 1) ≡ suc (suc (suc (suc (suc (suc (suc (7 * done))))))) = omega arith in
    let ns₁ = sets ns (7 * done) (fields_in e) in
    rw (lt-ltb done events (omega arith))
    (line_reads (event_wanted line done sites count events hs ns) e (small_first (fields_in e) (numbers_of es) g)
    (event_lines es)
    ∙ events_read es (line + 1) (done + 1) sites count events hs ns₁ (omega arith)
    (small_rest (fields_in e) (numbers_of es) g)
    ∙ ap₂ (λ (k : ℕ) (l : List ℕ). at Nothing k events sites count events hs l) n
    (ap (λ (k : ℕ). sets ns₁ k (numbers_of es)) i))

-- the text of tables whose numbers fit is read as these tables, with no line left over and none at fault
pub reads : (hs ns : List ℕ) (s : Tables) → Fits s → read_into hs ns (text_of s) ≡ read_of hs ns s
unfolding read_into begin text_of read_of line_of
reads hs ns s f =
    let n = length s.entries in
    let k = length s.events in
    let hs₁ = sets hs 0 (homes_of s.entries) in
    let ns₁ = sets ns 0 (numbers_of s.events) in
    let v = line_of (bytes "events=") k ++ event_lines s.events in
    let u = entry_lines s.entries ++ v in
    let i : 3 + 2 * n + 1 + k ≡ 4 + 2 * n + k = omega arith in
    line_reads (sites_wanted 1 0 0 0 0 hs ns) s.sites f.sites (line_of (bytes "transactions=") n ++ u)
    ∙ line_reads (count_wanted 2 0 s.sites 0 0 hs ns) n f.count u
    ∙ entries_read s.entries 3 0 s.sites n 0 hs ns v (omega arith) f.homes
    ∙ line_reads (events_wanted (3 + 2 * n) n s.sites n 0 hs₁ ns) k f.events (event_lines s.events)
    ∙ events_read s.events (3 + 2 * n + 1) 0 s.sites n k hs₁ ns (omega arith) f.numbers
    ∙ ap (λ (l : ℕ). at Nothing l k s.sites n k hs₁ ns₁) i

-- ---- what is read was written

-- the text is the lines of so many events
record EventsIn (left : ℕ) (t : List ℕ) : Type 0 where
  events : List Event
  size : length events ≡ left
  numbers : AllSmall (numbers_of events)
  text : event_lines events ≡ t

-- one event more
event-more : (left : ℕ) (e : Event) (t u : List ℕ) → FieldsSmall e → list_of (bytes "event=") (fields_in e) ++ u ≡ t
    → EventsIn left u
    → EventsIn (suc left) t
unfolding event_lines numbers_of
event-more left e t u h g r = record {
  events = e ∷ r.events;
  size = ap suc r.size;
  numbers = small_both (fields_in e) (numbers_of r.events) h r.numbers;
  text = ap (λ (x : List ℕ). list_of (bytes "event=") (fields_in e) ++ x) r.text ∙ g;
}

-- what is whole from where the events that are left are wanted
events-taken : (left line done sites count events : ℕ) (hs ns : List ℕ) (ls : List (List ℕ)) → done + left ≡ events
    → whole (all_lines (at (after done events Next Nothing) line done sites count events hs ns) ls).reading.want ≡ true
    → EventsIn left (joined 10 ls)
unfolding event_lines numbers_of list_of
events-taken zero line done sites count events hs ns ls e h = record {
  events = [];
  size = refl;
  numbers = λ i. omega arith;
  text = nothing-after _ ls (rw (le-ltb done events (omega arith))) h;
}
events-taken (suc left) line done sites count events hs ns ls e h =
    let g = rw (lt-ltb done events (omega arith)) at h in
    let k = line_taken (event_wanted line done sites count events hs ns) ls g in
    event-more left k.it (joined 10 ls) (joined 10 k.others) k.fit k.writing
    (events-taken left (line + 1) (done + 1) sites count events hs (sets ns (7 * done) (fields_in k.it)) k.others
    (omega arith)
    k.rest)

-- the text is the lines of so many transactions, then the number of events and their lines
record EntriesIn (left : ℕ) (t : List ℕ) : Type 0 where
  entries : List Entry
  events : List Event
  size : length entries ≡ left
  homes : AllSmall (homes_of entries)
  count : Small (length events)
  numbers : AllSmall (numbers_of events)
  text : entry_lines entries ++ (line_of (bytes "events=") (length events) ++ event_lines events) ≡ t

-- no transaction
entries_none : (n : ℕ) (t u : List ℕ) → Small n → line_of (bytes "events=") n ++ u ≡ t → EventsIn n u → EntriesIn 0 t
unfolding entry_lines homes_of
entries_none n t u h g r = record {
  entries = [];
  events = r.events;
  size = refl;
  homes = λ i. omega arith;
  count = rw r.size h;
  numbers = r.numbers;
  text = ap₂ (λ (k : ℕ) (x : List ℕ). line_of (bytes "events=") k ++ x) r.size r.text ∙ g;
}

-- one transaction more
entry_more : (left : ℕ) (e : Entry) (t u v : List ℕ) → Small e.home → Small e.priority
    → line_of (bytes "master=") e.home ++ u ≡ t
    → line_of (bytes "priority=") e.priority ++ v ≡ u
    → EntriesIn left v
    → EntriesIn (suc left) t
unfolding homes_of
entry_more left e t u v a b f g r = record {
  entries = e ∷ r.entries;
  events = r.events;
  size = ap suc r.size;
  homes =
      small_more e.home (e.priority ∷ homes_of r.entries) a
      (small_more e.priority (homes_of r.entries) b r.homes);
  count = r.count;
  numbers = r.numbers;
  text =
      entry_first e r.entries (line_of (bytes "events=") (length r.events) ++ event_lines r.events)
      ∙ ap (λ (x : List ℕ). line_of (bytes "master=") e.home ++ x)
      (ap (λ (x : List ℕ). line_of (bytes "priority=") e.priority ++ x) r.text ∙ g)
      ∙ f;
}

-- what is whole from where the transactions that are left are wanted
entries_taken : (left line done sites count events : ℕ) (hs ns : List ℕ) (ls : List (List ℕ)) → done + left ≡ count
    → whole (all_lines (at (after done count Home Events) line done sites count events hs ns) ls).reading.want ≡ true
    → EntriesIn left (joined 10 ls)
unfolding line_of
entries_taken zero line done sites count events hs ns ls e h =
    let g = rw (le-ltb done count (omega arith)) at h in
    let k = line_taken (events_wanted line done sites count events hs ns) ls g in
    entries_none k.it (joined 10 ls) (joined 10 k.others) k.fit k.writing
    (events-taken k.it (line + 1) 0 sites count k.it hs ns k.others (omega arith) k.rest)
entries_taken (suc left) line done sites count events hs ns ls e h =
    let g = rw (lt-ltb done count (omega arith)) at h in
    let j = line_taken (home_wanted line done sites count events hs ns) ls g in
    let hs₁ = set hs (2 * done) j.it in
    let k = line_taken (priority_wanted (line + 1) done sites count events hs₁ ns) j.others j.rest in
    let hs₂ = set hs₁ (2 * done + 1) k.it in
    entry_more left (record { home = j.it; priority = k.it }) (joined 10 ls) (joined 10 j.others)
    (joined 10 k.others)
    j.fit
    k.fit
    j.writing
    k.writing
    (entries_taken left (line + 1 + 1) (done + 1) sites count events hs₂ ns k.others (omega arith) k.rest)

-- the number of sites and the number of transactions in front
all_in : (sites n : ℕ) (t u v : List ℕ) → Small sites → Small n → line_of (bytes "sites=") sites ++ u ≡ t
    → line_of (bytes "transactions=") n ++ v ≡ u
    → EntriesIn n v
    → Written t
unfolding text_of
all_in sites n t u v a b f g r = record {
  tables = record { sites = sites; entries = r.entries; events = r.events };
  fits = record { sites = a; count = rw r.size b; homes = r.homes; events = r.count; numbers = r.numbers };
  text =
      ap (λ (x : List ℕ). line_of (bytes "sites=") sites ++ x)
      (ap₂ (λ (k : ℕ) (x : List ℕ). line_of (bytes "transactions=") k ++ x) r.size r.text ∙ g)
      ∙ f;
}

-- what is read whole was written from tables, however much room there is
pub was_written : (hs ns t : List ℕ) → whole (read_into hs ns t).reading.want ≡ true → Written t
unfolding read_into begin line_of
was_written hs ns t h =
    let j = line_taken (sites_wanted 1 0 0 0 0 hs ns) (parts 10 t) h in
    let k = line_taken (count_wanted 2 0 j.it 0 0 hs ns) j.others j.rest in
    all_in j.it k.it t (joined 10 j.others) (joined 10 k.others) j.fit k.fit
    (j.writing ∙ joined-parts 10 t)
    k.writing
    (entries_taken k.it 3 0 j.it k.it 0 hs ns k.others (omega arith) k.rest)

-- ---- the tables that a text has filled

-- what is written from tables whose numbers fit, where there is room, is read whole and fills these tables
module _ (hs ns : List ℕ) (s : Tables) (f : Fits s) (h : 2 * length s.entries ≤ length hs)
    (g : 7 * length s.events ≤ length ns) where
  pub whole_read : ReadWhole hs ns (text_of s)
  unfolding read_of whole
  whole_read = let e = reads hs ns s f in record { all = rw e; homes = rw e h; numbers = rw e g }

  pub tables_read : tables_of (read_into hs ns (text_of s)) ≡ s
  tables_read = ap tables_of (reads hs ns s f) ∙ tables_back hs ns s h g

-- what is read whole is what is written from the tables that it has filled
pub written : (hs ns t : List ℕ) → ReadWhole hs ns t → text_of (tables_of (read_into hs ns t)) ≡ t
unfolding read_of
written hs ns t w =
    let o = was_written hs ns t w.all in
    let e = ap (read_into hs ns) (sym o.text) ∙ reads hs ns o.tables o.fits in
    ap (λ (r : Read). text_of (tables_of r)) e
    ∙ ap text_of (tables_back hs ns o.tables (rw e at w.homes) (rw e at w.numbers))
    ∙ o.text

-- so two texts that fill the same tables are the same text
pub same_text : (hs ns t u : List ℕ) → ReadWhole hs ns t → ReadWhole hs ns u
    → tables_of (read_into hs ns t) ≡ tables_of (read_into hs ns u)
    → t ≡ u
same_text hs ns t u w v e = sym (written hs ns t w) ∙ ap text_of e ∙ written hs ns u v
