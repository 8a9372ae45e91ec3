-- Decimals with commas between them, and the fields of an event: what is written is read, and what is read was written.
use Rattle.std.specs.Prelude.{◌≡◌, ℕ, zero, suc, ◌+◌, Bool, true, false, cond, Option, Some, None, List, [], ◌∷◌, ◌++◌, map, length, drop, ◌==◌, slice_index, refl}
use Rattle.std.proofs.Common.{sym, ap, ap₂, subst, ◌∙◌, append-nil, arith, drop_of_length-le, drop-cons, eqb-true}
use Rattle.std.proofs.lemmas.Option.{none-some, same_Some}
use Rattle.std.proofs.lemmas.List.{length-map}
use Rattle.protocol.specs.Lists.{table_from}
use Rattle.protocol.specs.declared.Event.{Event}
use Rattle.text.specs.Written.{bytes}
use Rattle.text.specs.Decimal.{number_of, digits}
use Rattle.text.specs.Line.{before, parts, starts, numbers_in, fields_by, fields_of}
use Rattle.text.specs.Laws.{read_back, print_back, number_fits, numbers_are, parts_last, lacks_both, digits_lacks, parts_then, joined, joined-parts, starts_key, key_starts}
use Rattle.scenario.specs.Format.{event_of}
use Rattle.scenario.specs.Report.{others_of, commas_of}
use Rattle.scenario.specs.Tables.{fields_in, Small, AllSmall}

-- ---- numbers of 32 bits

-- one more
pub small_more : (n : ℕ) (l : List ℕ) → Small n → AllSmall l → AllSmall (n ∷ l)
small_more n l h g zero = h
small_more n l h g (suc i) = g i

-- two lists of them together ..
pub small_both : (l m : List ℕ) → AllSmall l → AllSmall m → AllSmall (l ++ m)
small_both [] m h g = g
small_both (n ∷ l) m h g = small_more n (l ++ m) (h 0) (small_both l m (λ i. h (suc i)) g)

-- .. and each of two
pub small_first : (l m : List ℕ) → AllSmall (l ++ m) → AllSmall l
small_first [] m h = λ i. omega arith
small_first (n ∷ l) m h = small_more n l (h 0) (small_first l m (λ i. h (suc i)))

pub small_rest : (l m : List ℕ) → AllSmall (l ++ m) → AllSmall m
small_rest [] m h = h
small_rest (n ∷ l) m h = small_rest l m (λ i. h (suc i))

-- ---- decimals with commas

-- they are the writings with commas between them ..
commas_joined : (l : List ℕ) → joined 44 (map digits l) ≡ commas_of l
unfolding joined commas_of others_of
commas_joined [] = refl
commas_joined (n ∷ []) = sym (append-nil (digits n))
commas_joined (n ∷ m ∷ l) = ap (λ (x : List ℕ). digits n ++ (44 ∷ x)) (commas_joined (m ∷ l))

-- .. and the writings are their parts
parts_commas : (n : ℕ) (l : List ℕ) → parts 44 (commas_of (n ∷ l)) ≡ map digits (n ∷ l)
unfolding commas_of others_of
parts_commas n [] = rw append-nil (parts_last 44 (digits n) (digits_lacks 44 n (omega arith)))
parts_commas n (m ∷ l) =
    parts_then 44 (digits n) (digits m ++ others_of l) (digits_lacks 44 n (omega arith))
    ∙ ap (λ (ps : List (List ℕ)). digits n ∷ ps) (parts_commas m l)

-- no line feed stands among them
others_lack : (l : List ℕ) → before 10 (others_of l) ≡ length (others_of l)
unfolding before others_of
others_lack [] = refl
others_lack (n ∷ l) = ap suc (lacks_both 10 (digits n) (others_of l) (digits_lacks 10 n (omega arith)) (others_lack l))

pub commas_lack : (l : List ℕ) → before 10 (commas_of l) ≡ length (commas_of l)
unfolding before commas_of
commas_lack [] = refl
commas_lack (n ∷ l) = lacks_both 10 (digits n) (others_of l) (digits_lacks 10 n (omega arith)) (others_lack l)

-- numbers of 32 bits are read as they are written
read_all : (l : List ℕ) → AllSmall l → map number_of (map digits l) ≡ map Some l
read_all [] h = refl
read_all (n ∷ l) h =
    ap₂ (λ (v : Option ℕ) (vs : List (Option ℕ)). v ∷ vs) (read_back n (h 0)) (read_all l (λ i. h (suc i)))

-- numbers of 32 bits of which these are the writings
record Writings (ps : List (List ℕ)) (numbers : List ℕ) : Type 0 where
  small : AllSmall numbers
  writings : map digits numbers ≡ ps

-- what is read as numbers is their writings
written_all : (ps : List (List ℕ)) (v : List ℕ) → numbers_in (map number_of ps) ≡ Some v → Writings ps v
unfolding numbers_in
written_all [] v h = let e : v ≡ [] = cc in rw e (record { small = λ i. omega arith; writings = refl })
written_all (p ∷ ps) v h = go (number_of p) (numbers_in (map number_of ps)) refl (written_all ps) refl h
  where
    go : (n : Option ℕ) (o : Option (List ℕ)) → number_of p ≡ n → ((u : List ℕ) → o ≡ Some u → Writings ps u)
        → numbers_in (map number_of ps) ≡ o
        → numbers_in (n ∷ map number_of ps) ≡ Some v
        → Writings (p ∷ ps) v
    go (Some n) (Some u) e r q f =
        let w = r u refl in
        let x : n ∷ u ≡ v = same_Some _ _ (rw q at f) in
        rw (← x)
        (record {
          small = small_more n u (number_fits p n e) w.small;
          writings = ap₂ (λ (x : List ℕ) (xs : List (List ℕ)). x ∷ xs) (print_back p n e) w.writings;
        })
    go (Some n) None e r q f = absurd (none-some _ (rw q at f))
    go None o e r q f = absurd (none-some _ f)

-- ---- a key and a value

-- the line is the key and the text of a value that fits
pub record Valued {A : Type 0} (key : List ℕ) (text : A → List ℕ) (fits : A → Type 0) (line : List ℕ) : Type 0 where
  pub it : A
  pub fit : fits it
  pub writing : key ++ text it ≡ line

-- the value may be an event: its text and where it fits
abbrev pub fields_text : Event → List ℕ
fields_text e = commas_of (fields_in e)

abbrev pub FieldsSmall : Event → Type 0
FieldsSmall e = AllSmall (fields_in e)

-- ---- the fields of an event

-- seven numbers, written with commas, are read as these seven
fields_written : (e : Event) → FieldsSmall e → fields_of (fields_text e) ≡ Some (fields_in e)
unfolding fields_of fields_by
fields_written e h =
    ap (λ (ps : List (List ℕ)). fields_by (map number_of ps)) (parts_commas e.action _)
    ∙ ap fields_by (read_all (fields_in e) h)
    ∙ numbers_are (fields_in e)

-- a list from place i on is the elements at the places from i on
tabled : (l : List ℕ) (i n : ℕ) → i + n ≡ length l → table_from i n (λ k. slice_index l k) ≡ drop i l
unfolding table_from
tabled l i zero h = sym (drop_of_length-le l {i = i} (omega arith))
tabled l i (suc n) h =
    ap (λ (m : List ℕ). slice_index l i ∷ m) (tabled l (suc i) n (omega arith)) ∙ sym (drop-cons l i 0 (omega arith))

-- the event whose fields are the first seven of a list ..
abbrev event_from : List ℕ → Event
event_from l = record {
  action = slice_index l 0;
  site = slice_index l 1;
  txn = slice_index l 2;
  kind = slice_index l 3;
  from = slice_index l 4;
  reads = slice_index l 5;
  writes = slice_index l 6;
}

-- .. which may have no more
seven : (l : List ℕ) → length l ≡ 7 → fields_in (event_from l) ≡ l
unfolding table_from
seven l h = tabled l 0 7 (sym h)

-- what is read as seven numbers is the fields of an event, written with commas
fields_read : (l v : List ℕ) → fields_of l ≡ Some v → Valued [] fields_text FieldsSmall l
unfolding fields_of fields_by
fields_read l v h = go (length (map number_of (parts 44 l)) == 7) refl h
  where
    by : (w : Writings (parts 44 l) v) → length v ≡ 7 → Valued [] fields_text FieldsSmall l
    by w e =
        let s : fields_in (event_from v) ≡ v = seven v e in
        record {
          it = event_from v;
          fit = subst AllSmall (sym s) w.small;
          writing = ap commas_of s ∙ sym (commas_joined v) ∙ ap (joined 44) w.writings ∙ joined-parts 44 l;
        }

    go : (t : Bool) → (length (map number_of (parts 44 l)) == 7) ≡ t
        → cond t (numbers_in (map number_of (parts 44 l))) None ≡ Some v
        → Valued [] fields_text FieldsSmall l
    go true e f =
        let w = written_all (parts 44 l) v f in
        by w
        (sym (length-map v digits) ∙ ap length w.writings ∙ sym (length-map (parts 44 l) number_of) ∙ eqb-true _ _ e)
    go false e f = absurd (none-some _ f)

-- so with `event=` in front ..
pub event_written : (e : Event) → FieldsSmall e
    → event_of (bytes "event=" ++ fields_text e) ≡ Some (fields_in e)
unfolding event_of bytes
event_written e h = rw (starts_key (bytes "event=") (fields_text e)) (fields_written e h)

-- .. both ways
pub event_read : (l v : List ℕ) → event_of l ≡ Some v → Valued (bytes "event=") fields_text FieldsSmall l
unfolding event_of bytes
event_read l v h = go (starts (bytes "event=") l) refl h
  where
    go : (t : Bool) → starts (bytes "event=") l ≡ t → cond t (fields_of (drop 6 l)) None ≡ Some v
        → Valued (bytes "event=") fields_text FieldsSmall l
    go true s f =
        let w = fields_read (drop 6 l) v f in
        record {
          it = w.it;
          fit = w.fit;
          writing = ap (λ (x : List ℕ). bytes "event=" ++ x) w.writing ∙ key_starts (bytes "event=") l s;
        }
    go false s f = absurd (none-some _ f)
