-- Which line is wanted: its key, the text of its value, and where it takes the reading. For lines of each kind, one law
-- says that such a line is read, and one that a whole text has such a line in front.
use Rattle.std.specs.Prelude.{◌≡◌, ℕ, ◌+◌, ◌*◌, ◌<◌, true, false, ◌⊎◌, Option, Some, None, List, [], ◌∷◌, ◌++◌, length, slice_set}
use Rattle.std.proofs.Math.Path.{refl, ap}
use Rattle.std.proofs.Common.{sym, ◌∙◌, append_assoc, arith}
use Rattle.std.proofs.lemmas.Bool.{false≢true}
use Rattle.std.proofs.Math.Logic.{inl, inr, ⊎_elim}
use Rattle.std.proofs.lemmas.List.Edits.{sets}
use Rattle.text.specs.Written.{bytes}
use Rattle.text.specs.Decimal.{digits}
use Rattle.text.specs.Line.{before, parts, value_of}
use Rattle.text.specs.Laws.{parts_some, lacks_both, digits_lacks, parts_then, joined, value_written, value_read, value_fits}
use Rattle.scenario.specs.declared.Want.{Want}
use Rattle.scenario.specs.declared.Want.TheVariants.{Sites, Count, Home, Priority, Events, Event as Next, Nothing, Fault}
use Rattle.scenario.specs.declared.Reading.{Reading}
use Rattle.scenario.specs.Format.{Read, faulted, moved, after, sites_line, count_line, home_line, priority_line, events_line, event_line, event_of, next_by, kept, kept_all, homes_by, numbers_by, next_line, all_lines, whole}
use Rattle.scenario.specs.Tables.{fields_in, Small}
use Rattle.scenario.specs.Commas.{Valued, fields_text, FieldsSmall, commas_lack, event_written, event_read}

-- ---- a line of any kind

-- the line that is wanted at r is the key and the text of a value that fits, which has no line feed, and it takes the
-- reading to the `next` of that value; another line is a fault
pub record Wanted {A : Type 0} (key : List ℕ) (text : A → List ℕ) (fits : A → Type 0) (r : Read) (next : A → Read) :
    Type 0 where
  pub more : whole r.reading.want ≡ false
  pub lacks : (a : A) → before 10 (key ++ text a) ≡ length (key ++ text a)
  pub reads : (a : A) → fits a → next_line r (key ++ text a) ≡ next a
  pub known : (l : List ℕ) → ((next_line r l).reading.want ≡ Fault) ⊎ Valued key text fits l

-- the first of the lines is the key and the text of a value that fits, and from its `next` on the others are whole
pub record Taken {A : Type 0} (key : List ℕ) (text : A → List ℕ) (fits : A → Type 0) (next : A → Read)
    (ls : List (List ℕ)) : Type 0 where
  pub it : A
  pub fit : fits it
  pub others : List (List ℕ)
  pub writing : (key ++ (text it ++ (10 ∷ []))) ++ joined 10 others ≡ joined 10 ls
  pub rest : whole (all_lines (next it) others).reading.want ≡ true

-- a fault is not undone
fault_stays : (r : Read) (ls : List (List ℕ)) → r.reading.want ≡ Fault
    → whole (all_lines r ls).reading.want ≡ true
    → ⊥
unfolding all_lines next_line next_by faulted whole
fault_stays r [] e h = false≢true (sym (ap whole e) ∙ h)
fault_stays r ([] ∷ []) e h = false≢true (sym (ap whole e) ∙ h)
fault_stays r ((b ∷ l) ∷ []) e h = false≢true h
fault_stays r (l ∷ k ∷ ls) e h =
    fault_stays (next_line r l) (k ∷ ls) (ap (λ (w : Want). (next_by w r.reading l).want) e ∙ e) h

-- "nothing after"
pub nothing-after : (r : Read) (ls : List (List ℕ)) → r.reading.want ≡ Nothing
    → whole (all_lines r ls).reading.want ≡ true
    → [] ≡ joined 10 ls
unfolding all_lines next_line next_by faulted whole joined
nothing-after r [] e h = refl
nothing-after r ([] ∷ []) e h = refl
nothing-after r ((b ∷ l) ∷ []) e h = absurd (false≢true h)
nothing-after r (l ∷ k ∷ ls) e h =
    absurd (fault_stays (next_line r l) (k ∷ ls) (ap (λ (w : Want). (next_by w r.reading l).want) e) h)

module _ {A : Type 0} {key : List ℕ} {text : A → List ℕ} {fits : A → Type 0} {r : Read} {next : A → Read}
    (w : Wanted key text fits r next) where
  -- what comes before the line feed, and what comes after it
  line_ends : (a : A) (t : List ℕ) → (key ++ (text a ++ (10 ∷ []))) ++ t ≡ (key ++ text a) ++ (10 ∷ t)
  line_ends a t = simp append_assoc

  -- such a line in front of a text takes the reading on
  pub line_reads : (a : A) → fits a → (t : List ℕ)
      → all_lines r (parts 10 ((key ++ (text a ++ (10 ∷ []))) ++ t)) ≡ all_lines (next a) (parts 10 t)
  unfolding all_lines
  line_reads a h t =
      ap (λ (x : List ℕ). all_lines r (parts 10 x)) (line_ends a t)
      ∙ ap (all_lines r) (parts_then 10 (key ++ text a) t (w.lacks a))
      ∙ go (parts 10 t) (parts_some 10 t)
      ∙ ap (λ (x : Read). all_lines x (parts 10 t)) (w.reads a h)
    where
      go : (ps : List (List ℕ)) → 0 < length ps
          → all_lines r ((key ++ text a) ∷ ps) ≡ all_lines (next_line r (key ++ text a)) ps
      go [] h = absurd (omega arith)
      go (p ∷ ps) h = refl

  -- a whole text has such a line in front
  pub line_taken : (ls : List (List ℕ)) → whole (all_lines r ls).reading.want ≡ true → Taken key text fits next ls
  unfolding all_lines joined faulted whole
  line_taken [] h = absurd (false≢true (sym w.more ∙ h))
  line_taken ([] ∷ []) h = absurd (false≢true (sym w.more ∙ h))
  line_taken ((b ∷ l) ∷ []) h = absurd (false≢true h)
  line_taken (l ∷ k ∷ ls) h =
      ⊎_elim (λ e. absurd (fault_stays (next_line r l) (k ∷ ls) e h))
      (λ v. record {
        it = v.it;
        fit = v.fit;
        others = k ∷ ls;
        writing =
            line_ends v.it (joined 10 (k ∷ ls)) ∙ ap (λ (x : List ℕ). x ++ (10 ∷ joined 10 (k ∷ ls))) v.writing;
        rest = rw (← w.reads v.it v.fit, v.writing) h;
      })
      (w.known l)

-- ---- the lines of each kind

-- how far a text has been read, by its parts
abbrev pub at : Want → ℕ → ℕ → ℕ → ℕ → ℕ → List ℕ → List ℕ → Read
at want line done sites count events hs ns = record {
  reading = record { want = want; line = line; done = done; sites = sites; count = count; events = events };
  homes = hs;
  numbers = ns;
}

module _ (line done sites count events : ℕ) (hs ns : List ℕ) where
  -- the reading that wants a line
  abbrev wants : Want → Read
  wants want = at want line done sites count events hs ns

  -- .. and the one that follows, where both it and the homes go by the value of the line
  abbrev goes : (Option ℕ → Reading) → (Option ℕ → List ℕ) → Option ℕ → Read
  goes f g v = record { reading = f v; homes = g v; numbers = ns }

  -- a key and a decimal, where a line without a value is a fault
  decimal : (want : Want) (key : List ℕ) (f : Option ℕ → Reading) (g : Option ℕ → List ℕ) → before 10 key ≡ length key
      → whole want ≡ false
      → ((l : List ℕ) → next_line (wants want) l ≡ goes f g (value_of key l))
      → (f None).want ≡ Fault
      → Wanted key digits Small (wants want) (λ n. goes f g (Some n))
  decimal want key f g c m e z =
      record {
        more = m;
        lacks = λ n. lacks_both 10 key (digits n) c (digits_lacks 10 n (omega arith));
        reads = λ n h. e (key ++ digits n) ∙ ap (goes f g) (value_written key n h);
        known = λ l. go l (value_of key l) refl;
      }
    where
      go : (l : List ℕ) (v : Option ℕ) → value_of key l ≡ v
          → ((next_line (wants want) l).reading.want ≡ Fault) ⊎ Valued key digits Small l
      go l (Some n) q = inr (record { it = n; fit = value_fits key l n q; writing = value_read key l n q })
      go l None q = inl (ap (λ (x : Read). x.reading.want) (e l ∙ ap (goes f g) q) ∙ z)

  -- "In order: sites, transactions, then master and priority for each transaction, events ..": each a decimal
  pub sites_wanted :
      Wanted (bytes "sites=") digits Small (wants Sites) (λ n. at Count (line + 1) 0 n count events hs ns)
  unfolding bytes before next_line next_by homes_by numbers_by sites_line faulted whole
  sites_wanted =
      decimal Sites (bytes "sites=") (sites_line (wants Sites).reading) (λ v. hs) refl refl (λ l. refl) refl

  pub count_wanted :
      Wanted (bytes "transactions=") digits Small (wants Count)
      (λ n. at (after 0 n Home Events) (line + 1) 0 sites n events hs ns)
  unfolding bytes before next_line next_by homes_by numbers_by count_line faulted whole
  count_wanted =
      decimal Count (bytes "transactions=") (count_line (wants Count).reading) (λ v. hs) refl refl (λ l. refl) refl

  pub home_wanted :
      Wanted (bytes "master=") digits Small (wants Home)
      (λ n. at Priority (line + 1) done sites count events (slice_set hs (2 * done) n) ns)
  unfolding bytes before next_line next_by homes_by numbers_by home_line moved kept faulted whole
  home_wanted =
      decimal Home (bytes "master=") (home_line (wants Home).reading) (kept hs (2 * done)) refl refl (λ l. refl) refl

  pub priority_wanted :
      Wanted (bytes "priority=") digits Small (wants Priority)
      (λ n. at (after (done + 1) count Home Events) (line + 1) (done + 1) sites count events
      (slice_set hs (2 * done + 1) n)
      ns)
  unfolding bytes before next_line next_by homes_by numbers_by priority_line moved kept faulted whole
  priority_wanted =
      decimal Priority (bytes "priority=") (priority_line (wants Priority).reading) (kept hs (2 * done + 1)) refl refl
      (λ l. refl)
      refl

  pub events_wanted :
      Wanted (bytes "events=") digits Small (wants Events)
      (λ n. at (after 0 n Next Nothing) (line + 1) 0 sites count n hs ns)
  unfolding bytes before next_line next_by homes_by numbers_by events_line faulted whole
  events_wanted =
      decimal Events (bytes "events=") (events_line (wants Events).reading) (λ v. hs) refl refl (λ l. refl) refl

  -- ".. then event= with the seven fields and commas"
  pub event_wanted :
      Wanted (bytes "event=") fields_text FieldsSmall (wants Next)
      (λ e. at (after (done + 1) events Next Nothing) (line + 1) (done + 1) sites count events hs
      (sets ns (7 * done) (fields_in e)))
  unfolding bytes before next_line next_by homes_by numbers_by event_line moved kept_all faulted whole
  event_wanted =
      record {
        more = refl;
        lacks = λ e. lacks_both 10 (bytes "event=") (fields_text e) refl (commas_lack (fields_in e));
        reads = λ e h. rw (event_written e h);
        known = λ l. go l (event_of l) refl;
      }
    where
      go : (l : List ℕ) (f : Option (List ℕ)) → event_of l ≡ f
          → ((next_line (wants Next) l).reading.want ≡ Fault) ⊎ Valued (bytes "event=") fields_text FieldsSmall l
      go l (Some v) q = inr (event_read l v q)
      go l None q = inl (rw q)
