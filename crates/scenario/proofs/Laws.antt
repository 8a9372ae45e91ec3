-- What the proofs lean on: a definition at the variant that a match found, the seven stores of an event, how far a line
-- moves the numbers, what stands ahead in a text and what it makes of the reading, and one line of a text.
use Rattle.std.specs.Prelude.{slice_index_or, Option, Some, None}
use Rattle.std.proofs.Common.{◌≡◌, ℕ, zero, suc, ◌+◌, ◌-◌, ◌<◌, ◌≤◌, min, true, List, [], ◌∷◌, ◌++◌, length, take, drop, set, sym, refl, ap, ◌∙◌, append_assoc, arith, length-append, length-drop, length-set, drop_of_length-le, length-take, take_all}
use lib.Arith.{lt_of_le-ne}
use lib.Seq.{sets, set_out}
use Rattle.text.specs.Written.{bytes}
use Rattle.text.specs.Line.{before, parts, starts, value_of}
use Rattle.text.specs.Decimal.{digits}
use Rattle.text.specs.Laws.{parts_some, parts_few, part_last, part_next, parts_then, lacks_both, digits_lacks, starts_key, value_written}
use Rattle.scenario.specs.Format.{Read, begin, faulted, moved, sites_line, count_line, home_line, priority_line, events_line, event_line, event_of, next_by, homes_by, numbers_by, next_line, all_lines, read_into}
use Rattle.scenario.specs.Front.{Front, NumberAt, FieldsAt}
use Rattle.scenario.proofs.Fronts.{front_then, front_key}
use Rattle.scenario.specs.Ahead.{Cut, line, rest, Ahead, AnyAhead, LineSays, LineAhead}
use Rattle.scenario.specs.declared.Want.{Want}
use Rattle.scenario.specs.declared.Want.TheVariants.{Sites, Count, Home, Priority, Events, Event, Nothing, Fault}
use Rattle.scenario.specs.declared.Reading.{Reading}

-- ---- by cases

-- what holds at the variant that was found holds at the value
pub at_variant : {A : Type 0} (f : Want → A) {v w : Want} {r : A} → v ≡ w → r ≡ f w → r ≡ f v
at_variant f e g = g ∙ ap f (sym e)

-- .. for a line and what is kept of it
pub by_want : (m : Reading) (l hs ns : List ℕ) (r : Reading) (hs' ns' : List ℕ) (w : Want) → m.want ≡ w
    → r ≡ next_by w m l
    → hs' ≡ homes_by w m l hs
    → ns' ≡ numbers_by w m l ns
    → (r ≡ next_by m.want m l) × (hs' ≡ homes_by m.want m l hs) × (ns' ≡ numbers_by m.want m l ns)
by_want m l hs ns r hs' ns' w e i j k = (
  at_variant (λ v. next_by v m l) e i,
  at_variant (λ v. homes_by v m l hs) e j,
  at_variant (λ v. numbers_by v m l ns) e k,
)

-- ---- stores

-- stores past the end change nothing
pub sets_out : (v l : List ℕ) (i : ℕ) → length l ≤ i → sets l i v ≡ l
sets_out [] l i h = refl
sets_out (a ∷ v) l i h =
    let e = set_out l i a h in
    sets_out v (set l i a) (suc i) (omega (arith, length-set l i a)) ∙ e

-- the first k stores, and the next
pub sets_more : (v l : List ℕ) (i k : ℕ) → k < length v
    → set (sets l i (take k v)) (i + k) (slice_index_or v k 0) ≡ sets l i (take (k + 1) v)
sets_more [] l i k h = absurd (omega arith)
sets_more (a ∷ v) l i zero h = let e : i + 0 ≡ i = omega arith in rw e
sets_more (a ∷ v) l i (suc k) h =
    let e : i + suc k ≡ suc i + k = omega arith in
    let n : suc k + 1 ≡ suc (k + 1) = omega arith in
    rw (e, n) (sets_more v (set l i a) (suc i) k (omega arith))

-- ---- a line moves the two numbers on by one at most

record Moves (m r : Reading) : Type 0 where
  line : r.line ≤ m.line + 1
  done : m.done ≤ m.line → r.done ≤ r.line

module _ (m : Reading) where
  stays : Moves m m
  stays = record { line = omega arith; done = λ h. h }

  faulted_stays : Moves m (faulted m)
  unfolding faulted
  faulted_stays = record { line = omega arith; done = λ h. h }

  sites_moves : (n : Option ℕ) → Moves m (sites_line m n)
  unfolding sites_line
  sites_moves (Some x) = record { line = omega arith; done = λ h. omega arith }
  sites_moves None = faulted_stays

  count_moves : (n : Option ℕ) → Moves m (count_line m n)
  unfolding count_line
  count_moves (Some x) = record { line = omega arith; done = λ h. omega arith }
  count_moves None = faulted_stays

  home_moves : (n : Option ℕ) → Moves m (home_line m n)
  unfolding home_line moved
  home_moves (Some x) = record { line = omega arith; done = λ h. omega arith }
  home_moves None = faulted_stays

  priority_moves : (n : Option ℕ) → Moves m (priority_line m n)
  unfolding priority_line moved
  priority_moves (Some x) = record { line = omega arith; done = λ h. omega arith }
  priority_moves None = faulted_stays

  events_moves : (n : Option ℕ) → Moves m (events_line m n)
  unfolding events_line
  events_moves (Some x) = record { line = omega arith; done = λ h. omega arith }
  events_moves None = faulted_stays

  event_moves : (f : Option (List ℕ)) → Moves m (event_line m f)
  unfolding event_line moved
  event_moves (Some v) = record { line = omega arith; done = λ h. omega arith }
  event_moves None = faulted_stays

  moves : (w : Want) (l : List ℕ) → Moves m (next_by w m l)
  unfolding next_by
  moves Sites l = sites_moves _
  moves Count l = count_moves _
  moves Home l = home_moves _
  moves Priority l = priority_moves _
  moves Events l = events_moves _
  moves Event l = event_moves _
  moves Nothing l = faulted_stays
  moves Fault l = stays

-- ---- what stands ahead

-- what is known of the line may be said otherwise
pub ahead_map : {t : List ℕ} {at next : ℕ} {good good' : List ℕ → Type 0} {bad bad' : Type 0}
    → ((l : List ℕ) → good l → good' l)
    → (bad → bad')
    → Ahead t at next good bad
    → Ahead t at next good' bad'
ahead_map {t} {at} {next} {good} {good'} {bad} {bad'} f g a =
    record { further = a.further; inside = a.inside; cut = go a.cut }
  where
    go : Cut t at next good bad → Cut t at next good' bad'
    go (line l e h) = line l e (f l h)
    go (rest l e n h b) = rest l e n h (g b)

-- the whole rest of a text starts with a key
rest_starts : (t key : List ℕ) (at : ℕ) → starts key (take (length t - at) (drop at t)) ≡ true
    → starts key (drop at t) ≡ true
rest_starts t key at s = rw (take_all (length t - at) (drop at t) (omega (arith, length-drop at t))) at s

-- a line that has no line feed, and a line feed
pub ahead_front : {t : List ℕ} {at next : ℕ} (l : List ℕ) {good : List ℕ → Type 0} {bad : Type 0}
    → Front t at (l ++ (10 ∷ [])) next
    → next ≤ length t
    → before 10 l ≡ length l
    → good l
    → Ahead t at next good bad
ahead_front {t} {at} {next} l f i h g = record {
  further =
      omega (
        arith,
        ap length f.split,
        length-append (l ++ (10 ∷ [])) (drop next t),
        length-append l (10 ∷ []),
        length-drop at t,
        length-drop next t,
      );
  inside = i;
  cut = line l (ap (parts 10) (f.split ∙ append_assoc l (10 ∷ []) (drop next t)) ∙ parts_then 10 l (drop next t) h) g;
}

-- .. after a key: a decimal ..
pub value_ahead : (t key : List ℕ) (at v next : ℕ) → starts key (take (length t - at) (drop at t)) ≡ true
    → before 10 key ≡ length key
    → NumberAt t (at + length key) 10 v next
    → LineSays t at (value_of key) (Some v) next
value_ahead t key at v next s h f =
    ahead_front (key ++ digits v)
    (rw (append_assoc key (digits v) (10 ∷ [])) (front_then (front_key t key at (rest_starts t key at s)) f.front))
    f.inside
    (lacks_both 10 key (digits v) h (digits_lacks 10 v (omega arith)))
    (sym (value_written key v f.small))

-- .. or the values of an event
pub event_ahead : (t : List ℕ) (at next : ℕ) (f : List ℕ)
    → starts (bytes "event=") (take (length t - at) (drop at t)) ≡ true
    → FieldsAt t (at + 6) f next
    → LineSays t at event_of (Some f) next
unfolding event_of bytes before
event_ahead t at next f s g =
    ahead_front (bytes "event=" ++ g.line)
    (rw (append_assoc (bytes "event=") g.line (10 ∷ []))
    (front_then (front_key t (bytes "event=") at (rest_starts t (bytes "event=") at s)) g.front))
    g.inside
    (lacks_both 10 (bytes "event=") g.line refl g.lacks)
    (rw (starts_key (bytes "event=") g.line) (sym g.fields))

-- .. by where the line feed stands
module _ (t : List ℕ) (at e : ℕ) (h : at < length t) (f : e ≡ min at (length t) + before 10 (drop at t)) where
  pub ahead_line : {good : List ℕ → Type 0} {bad : Type 0} → e ≤ length t → (e ≡ length t → ⊥)
      → good (take (e - at) (drop at t))
      → Ahead t at (e + 1) good bad
  ahead_line i n g = record {
    further = omega arith;
    inside = omega (arith, lt_of_le-ne i n);
    cut = line (take (e - at) (drop at t)) (part_next 10 t at e (omega arith) f n) g;
  }

  pub ahead_rest : {good : List ℕ → Type 0} {bad : Type 0} → e ≡ length t → bad → Ahead t at e good bad
  ahead_rest n b = record {
    further = omega arith;
    inside = omega arith;
    cut =
        rest (take (e - at) (drop at t)) (part_last 10 t at e (omega arith) f n)
        (λ z. omega (arith, length-take (e - at) (drop at t), length-drop at t))
        n
        b;
  }

-- ---- what a line makes of the reading

module _ (t : List ℕ) (at : ℕ) (m : Reading) (hs ns : List ℕ) (r : Reading) (hs' ns' : List ℕ) (next : ℕ) where
  -- where a line is wanted that takes the reading on by f, the homes by g and the numbers by k
  pub line_turns : {A : Type 0} (w : Want) (read : List ℕ → Option A) (o : Option A) (f : Option A → Reading)
      (g k : Option A → List ℕ) {p : ℕ}
      → m.want ≡ w
      → ((l : List ℕ) → (f (read l) ≡ next_by w m l) × (g (read l) ≡ homes_by w m l hs) × (k (read l) ≡ numbers_by w m l ns))
      → (f None ≡ faulted m) × (g None ≡ hs) × (k None ≡ ns)
      → LineSays t at read o p
      → (next ≡ p) × (r ≡ f o) × (hs' ≡ g o) × (ns' ≡ k o)
      → LineAhead t at m hs ns r hs' ns' next
  line_turns w read o f g k e i n a u =
      rw u.0
      (ahead_map
      (λ l h.
      by_want m l hs ns r hs' ns' w e (u.1 ∙ ap f h ∙ (i l).0) (u.2 ∙ ap g h ∙ (i l).1) (u.3 ∙ ap k h ∙ (i l).2))
      (λ h. (u.1 ∙ ap f h ∙ n.0, u.2 ∙ ap g h ∙ n.1, u.3 ∙ ap k h ∙ n.2))
      a)

  -- where nothing is wanted, or a line was at fault
  pub any_turns : (w : Want) {p : ℕ} → m.want ≡ w
      → ((l : List ℕ) → (r ≡ next_by w m l) × (hs ≡ homes_by w m l hs) × (ns ≡ numbers_by w m l ns))
      → r ≡ faulted m
      → AnyAhead t at p
      → (next ≡ p) × (hs' ≡ hs) × (ns' ≡ ns)
      → LineAhead t at m hs ns r hs' ns' next
  any_turns w e i b a u =
      rw u.0
      (ahead_map (λ l h. by_want m l hs ns r hs' ns' w e (i l).0 (u.1 ∙ (i l).1) (u.2 ∙ (i l).2)) (λ h. (b, u.1, u.2)) a)

-- a fault is at fault
pub fault_faulted : (m : Reading) → m.want ≡ Fault → m ≡ faulted m
unfolding faulted
fault_faulted m e = rw (← e)

-- ---- the lines of a text

-- the number of the line that is wanted, or at fault, is at most one more than there are lines
lines_moves : (r : Read) (ls : List (List ℕ)) → (all_lines r ls).reading.line ≤ r.reading.line + length ls
unfolding all_lines next_line faulted
lines_moves r [] = omega arith
lines_moves r ([] ∷ []) = omega arith
lines_moves r ((b ∷ l) ∷ []) = omega arith
lines_moves r ([] ∷ k ∷ ls) =
    omega (arith, lines_moves (next_line r []) (k ∷ ls), (moves r.reading r.reading.want []).line)
lines_moves r ((b ∷ l) ∷ k ∷ ls) =
    omega (arith, lines_moves (next_line r (b ∷ l)) (k ∷ ls), (moves r.reading r.reading.want (b ∷ l)).line)

pub line_near : (hs ns t : List ℕ) → (read_into hs ns t).reading.line ≤ length t + 2
unfolding read_into begin
line_near hs ns t = omega (arith, lines_moves (record { reading = begin; homes = hs; numbers = ns }) (parts 10 t), parts_few 10 t)

-- what is left of the text, from `at` on, takes what has been read to what the whole gives
pub record Step (hs ns t : List ℕ) (homes numbers : List ℕ) (m : Reading) (at : ℕ) : Type 0 where
  pub inside : at ≤ length t
  pub line : m.line ≤ at + 1
  pub done : m.done ≤ m.line
  pub so_far : read_into hs ns t ≡ all_lines (record { reading = m; homes = homes; numbers = numbers }) (parts 10 (drop at t))

pub begun : (hs ns t : List ℕ) (m : Reading) → m ≡ begin → Step hs ns t hs ns m 0
unfolding begin read_into
begun hs ns t m e =
    rw e
    (record {
      inside = omega arith;
      line = omega arith;
      done = omega arith;
      so_far = refl;
    })

module _ {hs ns t homes numbers : List ℕ} {m : Reading} {at : ℕ} (s : Step hs ns t homes numbers m at) where
  -- nothing is left
  pub ended : at ≡ length t → read_into hs ns t ≡ record { reading = m; homes = homes; numbers = numbers }
  unfolding all_lines parts
  ended h = let g : length t ≤ at = omega arith in s.so_far ∙ rw (drop_of_length-le t g)

  -- a line, or what no line feed ends
  pub turned : {homes' numbers' : List ℕ} {r : Reading} {next : ℕ} → LineAhead t at m homes numbers r homes' numbers' next
      → Step hs ns t homes' numbers' r next
  unfolding all_lines next_line parts
  turned {homes'} {numbers'} {r} {next} a = go a.cut
    where
      -- the last line that is looked for is at fault
      last : (l : List ℕ) → (length l ≡ 0 → ⊥)
          → all_lines (record { reading = m; homes = homes; numbers = numbers }) (l ∷ [])
          ≡ record { reading = faulted m; homes = homes; numbers = numbers }
      last [] h = absurd (h refl)
      last (x ∷ l) h = refl

      -- another takes the reading on
      more : (l : List ℕ) (ps : List (List ℕ)) → 0 < length ps
          → all_lines (record { reading = m; homes = homes; numbers = numbers }) (l ∷ ps)
          ≡ all_lines (next_line (record { reading = m; homes = homes; numbers = numbers }) l) ps
      more l [] p = absurd (omega arith)
      more l (q ∷ ps) p = refl

      -- the step, where the reading moves on by one at most
      by : Moves m r
          → read_into hs ns t
          ≡ all_lines (record { reading = r; homes = homes'; numbers = numbers' }) (parts 10 (drop next t))
          → Step hs ns t homes' numbers' r next
      by v e = record {
        inside = a.inside;
        line = omega (arith, v.line, a.further, s.line);
        done = v.done s.done;
        so_far = e;
      }

      go : Cut t at next
          (λ l. (r ≡ next_by m.want m l) × (homes' ≡ homes_by m.want m l homes) × (numbers' ≡ numbers_by m.want m l numbers))
          ((r ≡ faulted m) × (homes' ≡ homes) × (numbers' ≡ numbers))
          → Step hs ns t homes' numbers' r next
      go (line l e g) =
          by (rw g.0 (moves m m.want l))
          (s.so_far ∙ rw (e, g.0, g.1, g.2) (more l (parts 10 (drop next t)) (parts_some 10 (drop next t))))
      go (rest l e h n g) =
          let o : length t ≤ next = omega arith in
          by (rw g.0 (faulted_stays m))
          (s.so_far ∙ rw (e, g.0, g.1, g.2, drop_of_length-le t o) (last l h))

-- the parts of what was read
pub results : {x : Read} {m : Reading} {homes numbers : List ℕ} → x ≡ record { reading = m; homes = homes; numbers = numbers }
    → (m ≡ x.reading) × (homes ≡ x.homes) × (numbers ≡ x.numbers)
results e = (rw e, rw e, rw e)
