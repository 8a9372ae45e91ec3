-- What the round trip of the text is said of: a text that was written from tables, and a text that is read whole. The
-- tables that a reading has filled are those that it read, and those of setup are among them. That what is written is
-- read, and what is read was written, stands in proofs/, where the edits of the text's definitions are refused by it.
use Rattle.std.specs.Prelude.{◌≡◌, ℕ, zero, suc, ◌+◌, ◌*◌, ◌≤◌, true, List, [], ◌∷◌, ◌++◌, length, take, drop, slice_index, slice_index_or, refl}
use Rattle.std.proofs.Common.{sym, ap, ap₂, ◌∙◌, arith, take_at, get_or-drop, drop-drop}
use Rattle.std.proofs.lemmas.List.Edits.{sets, sets-eq}
use Rattle.protocol.specs.State.{max_txns}
use Rattle.protocol.specs.Lists.{table_from}
use Rattle.protocol.specs.Run.{events_of}
use Rattle.protocol.specs.declared.Entry.{Entry}
use Rattle.protocol.specs.declared.Event.{Event}
use Rattle.scenario.specs.Format.{read_into, whole, entries_in, entries_of}
use Rattle.scenario.specs.Tables.{Tables, text_of, homes_of, numbers_of, read_of, tables_of, Fits}

-- the text was written from tables whose numbers fit
pub record Written (t : List ℕ) : Type 0 where
  pub tables : Tables
  pub fits : Fits tables
  pub text : text_of tables ≡ t

-- the text is read whole into lists that held hs and ns, and there is room for all that it announces
pub record ReadWhole (hs ns t : List ℕ) : Type 0 where
  pub all : whole (read_into hs ns t).reading.want ≡ true
  pub homes : 2 * (read_into hs ns t).reading.count ≤ length hs
  pub numbers : 7 * (read_into hs ns t).reading.events ≤ length ns

-- ---- the tables that a text has filled

-- two numbers an entry
homes_length : (es : List Entry) → length (homes_of es) ≡ 2 * length es
unfolding homes_of
homes_length [] = refl
homes_length (e ∷ es) = let r = homes_length es in omega arith

-- .. and they are the entry
entries_from : (es : List Entry) (i : ℕ) (l t : List ℕ) → drop (2 * i) l ≡ homes_of es ++ t
    → table_from i (length es) (λ k. record { home = slice_index l (2 * k); priority = slice_index l (2 * k + 1) }) ≡ es
unfolding table_from homes_of
entries_from [] i l t h = refl
entries_from (e ∷ es) i l t h =
    let z : 2 * i + 0 ≡ 2 * i = omega arith in
    let n : 2 * suc i ≡ 2 * i + 2 = omega arith in
    let a : slice_index_or l (2 * i) 0 ≡ e.home = rw z at (sym (get_or-drop (2 * i) l 0 0) ∙ ap (λ (x : List ℕ). slice_index x 0) h) in
    let b : slice_index_or l (2 * i + 1) 0 ≡ e.priority = sym (get_or-drop (2 * i) l 1 0) ∙ ap (λ (x : List ℕ). slice_index x 1) h in
    let d : drop (2 * suc i) l ≡ homes_of es ++ t = rw n (sym (drop-drop 2 (2 * i) l) ∙ ap (drop 2) h) in
    rw (a, b) (ap (λ (x : List Entry). e ∷ x) (entries_from es (suc i) l t d))

entries_back : (hs : List ℕ) (es : List Entry) → 2 * length es ≤ length hs
    → entries_in (length es) (sets hs 0 (homes_of es)) ≡ es
unfolding entries_in
entries_back hs es h =
    entries_from es 0 (sets hs 0 (homes_of es)) _ (sets-eq (homes_of es) hs 0 (omega (arith, homes_length es)))

-- seven numbers an event
numbers_length : (es : List Event) → length (numbers_of es) ≡ 7 * length es
unfolding numbers_of
numbers_length [] = refl
numbers_length (e ∷ es) = let r = numbers_length es in omega arith

-- .. and they are the event
events_of_lem : (es : List Event) → events_of (numbers_of es) ≡ es
unfolding numbers_of events_of
events_of_lem [] = refl
events_of_lem (e ∷ es) = ap (λ (x : List Event). e ∷ x) (events_of_lem es)

events_back : (ns : List ℕ) (es : List Event) → 7 * length es ≤ length ns
    → events_of (take (7 * length es) (sets ns 0 (numbers_of es))) ≡ es
events_back ns es h =
    ap (λ (x : List ℕ). events_of (take (7 * length es) x))
    (sets-eq (numbers_of es) ns 0 (omega (arith, numbers_length es)))
    ∙ ap events_of (take_at (numbers_of es) _ (7 * length es) (numbers_length es))
    ∙ events_of_lem es

-- the tables of a reading that has filled them
pub tables_back : (hs ns : List ℕ) (s : Tables) → 2 * length s.entries ≤ length hs → 7 * length s.events ≤ length ns
    → tables_of (read_of hs ns s) ≡ s
unfolding tables_of read_of
tables_back hs ns s h g =
    ap₂ (λ (es : List Entry) (vs : List Event). record { sites = s.sites; entries = es; events = vs })
    (entries_back hs s.entries h)
    (events_back ns s.events g)

-- ---- the entries that setup takes

-- the first elements of a table are a shorter table
take-table : (f : ℕ → Entry) (n m i : ℕ) → n ≤ m → take n (table_from i m f) ≡ table_from i n f
unfolding table_from
take-table f zero m i h = refl
take-table f (suc n) zero i h = absurd (omega arith)
take-table f (suc n) (suc m) i h = ap (λ (x : List Entry). f i ∷ x) (take-table f n m (suc i) (omega arith))

-- "of which the first `count` count": these are the entries of the tables
pub setup_entries : (n : ℕ) (hs : List ℕ) → n ≤ max_txns → take n (entries_of hs) ≡ entries_in n hs
unfolding entries_in
setup_entries n hs h = take-table _ n max_txns 0 h
