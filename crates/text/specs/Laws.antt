-- What follows from the definitions: a decimal is read as n where, and only where, it is the writing of n; where the
-- parts of a list lie, and that they make it up; and that a line has the value n where, and only where, it is the key and
-- the writing of n.
use Rattle.std.specs.Prelude.{◌≡◌, refl, Bool, true, false, cond, ◌&&◌, Option, Some, None, List, [], ◌∷◌, ◌++◌, map, ℕ, zero, suc, ◌+◌, ◌-◌, ◌*◌, ◌/◌, ◌%◌, ◌^◌, ◌≤◌, ◌<◌, min, length, take, drop, set, ◌==◌, nat_eq, nat_le, nat_lt, slice_index_or}
use Rattle.std.proofs.Common.{sym, ap, ap₂, ◌∙◌, append_assoc, append-nil, ⊎_elim, pow-suc, add-one, arith, length-append, length-drop, take_all, take-suc-set, drop-drop, lt-ltb, le-ltb, le-leb, eq-eqb, ne_eqb, leb-true, ltb-true, eqb-true}
use Rattle.std.proofs.lemmas.Bool.{false≢true, eqb-false, cases_lt}
use Rattle.std.proofs.lemmas.Option.{none-some}
use Rattle.std.specs.Option.{option_map, option_and_then}
use Rattle.std.specs.Cmp.Lexicographic.{pointwise}
use Rattle.std.proofs.lemmas.List.{map-append, length-map}
use Rattle.std.proofs.Math.Arith.{lt_of_le-ne}
use Rattle.std.proofs.Math.ListN.{get_or-append}
use Rattle.std.proofs.Math.Seq.{drop-append_seam}
use Rattle.text.specs.Decimal.{is_digit, goes_on, number_of, digits, digits_by}
use Rattle.text.specs.Line.{before, cut, parts, starts, value_of, numbers_in, fields_by, fields_of}

-- ---- the writing of a number

-- a count of digits that suffices may be larger by one
fuel : (k n : ℕ) → n < 10 ^ suc k → digits_by (suc k) n ≡ digits_by (suc (suc k)) n
unfolding digits_by
fuel zero n h = simp (lt-ltb n 10 h)
fuel (suc k) n h =
    ap (λ (l : List ℕ). cond (nat_lt n 10) ((48 + n) ∷ []) (l ++ ((48 + n % 10) ∷ [])))
    (fuel k (n / 10) (omega (arith, pow-suc 10 (suc k))))

-- a number below ten is one digit
pub digits_low : (n : ℕ) → n < 10 → digits n ≡ (48 + n) ∷ []
unfolding digits digits_by
digits_low n h = rw (lt-ltb n 10 h)

-- another is the digits of its tenth and one digit more
pub digits_high : (n : ℕ) → 10 ≤ n → n < 4294967296 → digits n ≡ digits (n / 10) ++ ((48 + n % 10) ∷ [])
unfolding digits digits_by
digits_high n h g =
    by (nat_lt n 10) (le-ltb n 10 h) ∙ ap (λ (l : List ℕ). l ++ ((48 + n % 10) ∷ [])) (fuel 8 (n / 10) (omega arith))
  where
    by : (t : Bool) → t ≡ false
        → cond t ((48 + n) ∷ []) (digits_by 9 (n / 10) ++ ((48 + n % 10) ∷ [])) ≡ digits_by 9 (n / 10) ++ ((48 + n % 10) ∷ [])
    by t e = rw e

-- no more digits than were counted out
by_length : (k n : ℕ) → length (digits_by k n) ≤ k
unfolding digits_by
by_length zero n = omega arith
by_length (suc k) n = go (nat_lt n 10) (by_length k (n / 10))
  where
    go : (t : Bool) → length (digits_by k (n / 10)) ≤ k
        → length (cond t ((48 + n) ∷ []) (digits_by k (n / 10) ++ ((48 + n % 10) ∷ []))) ≤ suc k
    go true h = omega arith
    go false h = omega (arith, length-append (digits_by k (n / 10)) ((48 + n % 10) ∷ []))

-- a writing has at most ten digits
pub digits-length : (n : ℕ) → length (digits n) ≤ 10
unfolding digits
digits-length n = by_length 10 n

-- .. and at least one
pub digits_some : (n : ℕ) → n < 4294967296 → 0 < length (digits n)
digits_some n g =
    ⊎_elim (λ h. omega (arith, ap length (digits_low n h)))
    (λ h. omega (arith, ap length (digits_high n h g), length-append (digits (n / 10)) ((48 + n % 10) ∷ [])))
    (cases_lt n 10)

-- ---- one byte of a decimal

-- what is known of a byte b where the number v goes on to n with it and the rest
pub record Digit (v b n : ℕ) (l : List ℕ) : Type 0 where
  pub low : 48 ≤ b
  pub high : b ≤ 57
  pub fits : v * 10 + (b - 48) < 4294967296
  pub rest : goes_on (v * 10 + (b - 48)) l ≡ Some n

-- where a number goes on, the next byte is a digit and it fits
pub went_on : (v b n : ℕ) (l : List ℕ) → goes_on v (b ∷ l) ≡ Some n → Digit v b n l
unfolding goes_on
went_on v b n l e = go (nat_le 48 b) (nat_le b 57) (nat_lt (v * 10 + (b - 48)) 4294967296) refl refl refl e
  where
    go : (s t u : Bool) → nat_le 48 b ≡ s → nat_le b 57 ≡ t → nat_lt (v * 10 + (b - 48)) 4294967296 ≡ u
        → cond (s && t) (cond u (goes_on (v * 10 + (b - 48)) l) None) None ≡ Some n
        → Digit v b n l
    go true true true i j k f =
        record { low = leb-true 48 b i; high = leb-true b 57 j; fits = ltb-true _ _ k; rest = f }
    go true true false i j k f = absurd (none-some n f)
    go true false u i j k f = absurd (none-some n f)
    go false t u i j k f = absurd (none-some n f)

-- a digit takes the number on
pub goes_on_lem : (v b : ℕ) (l : List ℕ) → 48 ≤ b → b ≤ 57 → v * 10 + (b - 48) < 4294967296
    → goes_on v (b ∷ l) ≡ goes_on (v * 10 + (b - 48)) l
unfolding goes_on
goes_on_lem v b l h g f = simp (le-leb 48 b h, le-leb b 57 g, lt-ltb (v * 10 + (b - 48)) 4294967296 f)

-- the first byte takes it on, and then the others do
pub goes_first : (v b : ℕ) (l : List ℕ) → goes_on v (b ∷ l) ≡ option_and_then (λ w. goes_on w l) (goes_on v (b ∷ []))
unfolding goes_on
goes_first v b l = go (is_digit b) (nat_lt (v * 10 + (b - 48)) 4294967296)
  where
    go : (s t : Bool) → cond s (cond t (goes_on (v * 10 + (b - 48)) l) None) None
        ≡ option_and_then (λ w. goes_on w l) (cond s (cond t (Some (v * 10 + (b - 48))) None) None)
    go true true = refl
    go true false = refl
    go false t = refl

-- ---- a decimal is its digits, but for zeros in front

-- no byte at all
pub number_none : (l : List ℕ) → length l ≡ 0 → number_of l ≡ None
unfolding number_of
number_none [] h = refl
number_none (b ∷ l) h = absurd (omega arith)

-- a zero with more after it
pub number_zero : (l : List ℕ) → 1 < length l → slice_index_or l 0 0 ≡ 48 → number_of l ≡ None
unfolding number_of
number_zero [] h e = refl
number_zero (b ∷ []) h e = absurd (omega arith)
number_zero (b ∷ c ∷ l) h e = simp (eq-eqb b 48 e)

-- a byte that stands alone
pub number_one : (l : List ℕ) → (length l ≡ 0 → ⊥) → length l ≤ 1 → number_of l ≡ goes_on 0 l
unfolding number_of
number_one [] h g = absurd (h refl)
number_one (b ∷ []) h g = refl
number_one (b ∷ c ∷ l) h g = absurd (omega arith)

-- bytes of which the first is not a zero
pub number_many : (l : List ℕ) → (length l ≡ 0 → ⊥) → (slice_index_or l 0 0 ≡ 48 → ⊥) → number_of l ≡ goes_on 0 l
unfolding number_of
number_many [] h g = absurd (h refl)
number_many (b ∷ []) h g = refl
number_many (b ∷ c ∷ l) h g = simp (ne_eqb b 48 g)

-- what is a decimal is its digits
number_goes : (l : List ℕ) (n : ℕ) → number_of l ≡ Some n → goes_on 0 l ≡ Some n
unfolding number_of
number_goes [] n e = absurd (none-some n e)
number_goes (b ∷ []) n e = e
number_goes (b ∷ c ∷ l) n e = go (b == 48) e
  where
    go : (t : Bool) → cond t None (goes_on 0 (b ∷ c ∷ l)) ≡ Some n → goes_on 0 (b ∷ c ∷ l) ≡ Some n
    go true f = absurd (none-some n f)
    go false f = f

-- a number that fits goes on to one that fits
goes_fits : (l : List ℕ) (v n : ℕ) → v < 4294967296 → goes_on v l ≡ Some n → n < 4294967296
unfolding goes_on
goes_fits [] v n h e = let w : v ≡ n = cc in omega arith
goes_fits (b ∷ l) v n h e = let d = went_on v b n l e in goes_fits l (v * 10 + (b - 48)) n d.fits d.rest

-- a decimal is a number of 32 bits
pub number_fits : (l : List ℕ) (n : ℕ) → number_of l ≡ Some n → n < 4294967296
number_fits l n e = goes_fits l 0 n (omega arith) (number_goes l n e)

-- ---- what is written is read

-- one digit more
goes-more : (l : List ℕ) (v m d : ℕ) → d < 10 → m * 10 + d < 4294967296 → goes_on v l ≡ Some m
    → goes_on v (l ++ ((48 + d) ∷ [])) ≡ Some (m * 10 + d)
unfolding goes_on
goes-more [] v m d h g e =
    let w : v ≡ m = cc in
    let z : v * 10 + (48 + d - 48) ≡ m * 10 + d = omega arith in
    goes_on_lem v (48 + d) [] (omega arith) (omega arith) (omega arith) ∙ ap Some z
goes-more (b ∷ l) v m d h g e =
    let w = went_on v b m l e in
    goes_on_lem v b (l ++ ((48 + d) ∷ [])) w.low w.high w.fits
    ∙ goes-more l (v * 10 + (b - 48)) m d h g w.rest

-- one digit is read as it is written
low_read : (n : ℕ) → n < 10 → goes_on 0 (digits n) ≡ Some n
unfolding goes_on
low_read n h =
    let z : 0 * 10 + (48 + n - 48) ≡ n = omega arith in
    ap (goes_on 0) (digits_low n h) ∙ goes_on_lem 0 (48 + n) [] (omega arith) (omega arith) (omega arith) ∙ ap Some z

-- the digits of a number go on to that number
goes-digits : (k n : ℕ) → n < 10 ^ k → n < 4294967296 → goes_on 0 (digits n) ≡ Some n
goes-digits zero n h g = low_read n (omega arith)
goes-digits (suc k) n h g =
    ⊎_elim (low_read n)
    (λ l. ap (goes_on 0) (digits_high n l g)
    ∙ goes-more (digits (n / 10)) 0 (n / 10) (n % 10) (omega arith) (omega arith)
    (goes-digits k (n / 10) (omega (arith, pow-suc 10 k)) (omega arith))
    ∙ ap Some tenth)
    (cases_lt n 10)
  where
    tenth : n / 10 * 10 + n % 10 ≡ n
    tenth = omega arith

-- only the writing of zero starts with a zero
first-digit : (k n : ℕ) → n < 10 ^ k → n < 4294967296 → 0 < n → 48 < slice_index_or (digits n) 0 0
first-digit zero n h g p = absurd (omega arith)
first-digit (suc k) n h g p =
    ⊎_elim (λ l. omega (arith, ap (λ (x : List ℕ). slice_index_or x 0 0) (digits_low n l)))
    (λ l. omega (
      arith,
      first-digit k (n / 10) (omega (arith, pow-suc 10 k)) (omega arith) (omega arith),
      ap (λ (x : List ℕ). slice_index_or x 0 0) (digits_high n l g),
      get_or-append (digits (n / 10)) ((48 + n % 10) ∷ []) 0 0 (digits_some (n / 10) (omega arith)),
    ))
    (cases_lt n 10)

-- the writing of a number of 32 bits is read as that number
pub read_back : (n : ℕ) → n < 4294967296 → number_of (digits n) ≡ Some n
read_back n g =
    ⊎_elim (λ h. number_one (digits n) some (omega (arith, ap length (digits_low n h))))
    (λ h. number_many (digits n) some (λ e. omega (arith, first-digit 10 n (omega arith) g (omega arith))))
    (cases_lt n 10)
    ∙ goes-digits 10 n (omega arith) g
  where
    some : length (digits n) ≡ 0 → ⊥
    some e = omega (arith, digits_some n g)

-- ---- what is read was written

-- a number is written as v and a digit where that digit takes v on to it
pub digits_more : (v b : ℕ) → 0 < v → 48 ≤ b → b ≤ 57 → v * 10 + (b - 48) < 4294967296
    → digits (v * 10 + (b - 48)) ≡ digits v ++ (b ∷ [])
digits_more v b p h g f =
    let d : (v * 10 + (b - 48)) / 10 ≡ v = omega arith in
    let m : 48 + (v * 10 + (b - 48)) % 10 ≡ b = omega arith in
    digits_high (v * 10 + (b - 48)) (omega arith) f ∙ ap₂ (λ (x y : ℕ). digits x ++ (y ∷ [])) d m

-- what v goes on to is written as v, and then the bytes that it goes on with
rest_written : (l : List ℕ) (v n : ℕ) → 0 < v → v < 4294967296 → goes_on v l ≡ Some n → digits n ≡ digits v ++ l
unfolding goes_on
rest_written [] v n p g e = let w : n ≡ v = cc in ap digits w ∙ sym (append-nil (digits v))
rest_written (b ∷ l) v n p g e =
    let w = went_on v b n l e in
    rest_written l (v * 10 + (b - 48)) n (omega arith) w.fits w.rest
    ∙ ap (λ (x : List ℕ). x ++ l) (digits_more v b p w.low w.high w.fits)
    ∙ append_assoc (digits v) (b ∷ []) l

-- a digit is its own writing
first_written : (b v : ℕ) → 48 ≤ b → b ≤ 57 → v ≡ 0 * 10 + (b - 48) → digits v ≡ b ∷ []
first_written b v h g e =
    let w : 48 + v ≡ b = omega arith in
    digits_low v (omega arith) ∙ ap (λ (x : ℕ). x ∷ []) w

-- what is read as n is the writing of n
pub print_back : (l : List ℕ) (n : ℕ) → number_of l ≡ Some n → digits n ≡ l
unfolding number_of goes_on
print_back [] n e = absurd (none-some n e)
print_back (b ∷ []) n e = let w = went_on 0 b n [] e in first_written b n w.low w.high (cc w.rest)
print_back (b ∷ c ∷ l) n e = go (b == 48) refl e
  where
    go : (t : Bool) → (b == 48) ≡ t → cond t None (goes_on 0 (b ∷ c ∷ l)) ≡ Some n → digits n ≡ b ∷ c ∷ l
    go true q f = absurd (none-some n f)
    go false q f =
        let w = went_on 0 b n (c ∷ l) f in
        let p : 48 < b = lt_of_le-ne w.low (λ z. eqb-false b 48 q (sym z)) in
        rest_written (c ∷ l) (0 * 10 + (b - 48)) n (omega arith) w.fits w.rest
        ∙ ap (λ (x : List ℕ). x ++ (c ∷ l)) (first_written b (0 * 10 + (b - 48)) w.low w.high refl)

-- ---- the parts of a list

-- no more bytes stand before it than there are
pub before_le : (b : ℕ) (l : List ℕ) → before b l ≤ length l
unfolding before
before_le b [] = omega arith
before_le b (x ∷ l) = go (x == b) (before_le b l)
  where
    go : (t : Bool) → before b l ≤ length l → cond t 0 (suc (before b l)) ≤ suc (length l)
    go true h = omega arith
    go false h = omega arith

-- where that is fewer than all, a b stands next
pub before_found : (b : ℕ) (l : List ℕ) → before b l < length l → slice_index_or l (before b l) 0 ≡ b
unfolding before
before_found b [] h = absurd (omega arith)
before_found b (x ∷ l) h = go (x == b) refl h (before_found b l)
  where
    go : (t : Bool) → (x == b) ≡ t → cond t 0 (suc (before b l)) < suc (length l)
        → (before b l < length l → slice_index_or l (before b l) 0 ≡ b)
        → slice_index_or (x ∷ l) (cond t 0 (suc (before b l))) 0 ≡ b
    go true e h r = eqb-true x b e
    go false e h r = r (omega arith)

-- .. and none earlier
pub before-none : (b : ℕ) (l : List ℕ) (k : ℕ) → k < before b l → slice_index_or l k 0 ≡ b → ⊥
unfolding before
before-none b [] k h e = omega arith
before-none b (x ∷ l) k h e = go (x == b) refl k h e (before-none b l)
  where
    go : (t : Bool) → (x == b) ≡ t → (k : ℕ) → k < cond t 0 (suc (before b l)) → slice_index_or (x ∷ l) k 0 ≡ b
        → ((k : ℕ) → k < before b l → slice_index_or l k 0 ≡ b → ⊥)
        → ⊥
    go true q k h e r = omega arith
    go false q zero h e r = eqb-false x b q e
    go false q (suc k) h e r = r k (omega arith) e

-- where a b stands in the list, the first part ends before it and the others come after it
pub parts_first : (b : ℕ) (l : List ℕ) → before b l < length l
    → parts b l ≡ take (before b l) l ∷ parts b (drop (suc (before b l)) l)
unfolding before parts
parts_first b [] h = absurd (omega arith)
parts_first b (x ∷ l) h = go (x == b) h (parts_first b l)
  where
    go : (t : Bool) → cond t 0 (suc (before b l)) < suc (length l)
        → (before b l < length l → parts b l ≡ take (before b l) l ∷ parts b (drop (suc (before b l)) l))
        → cut t x (parts b l)
        ≡ take (cond t 0 (suc (before b l))) (x ∷ l) ∷ parts b (drop (suc (cond t 0 (suc (before b l)))) (x ∷ l))
    go true h r = refl
    go false h r = ap (cut false x) (r (omega arith))

-- where none does, the whole list is the only part
pub parts_last : (b : ℕ) (l : List ℕ) → before b l ≡ length l → parts b l ≡ l ∷ []
unfolding before parts
parts_last b [] h = refl
parts_last b (x ∷ l) h = go (x == b) h (parts_last b l)
  where
    go : (t : Bool) → cond t 0 (suc (before b l)) ≡ suc (length l) → (before b l ≡ length l → parts b l ≡ l ∷ [])
        → cut t x (parts b l) ≡ (x ∷ l) ∷ []
    go true h r = absurd (omega arith)
    go false h r = ap (cut false x) (r (omega arith))

-- there is always a part
pub parts_some : (b : ℕ) (l : List ℕ) → 0 < length (parts b l)
unfolding parts
parts_some b [] = omega arith
parts_some b (x ∷ l) = go (x == b) (parts b l)
  where
    go : (t : Bool) (ps : List (List ℕ)) → 0 < length (cut t x ps)
    go true ps = omega arith
    go false [] = omega arith
    go false (p ∷ ps) = omega arith

-- at most one more than there are bytes
pub parts_few : (b : ℕ) (l : List ℕ) → length (parts b l) ≤ length l + 1
unfolding parts
parts_few b [] = omega arith
parts_few b (x ∷ l) = go (x == b) (parts b l) (parts_few b l)
  where
    go : (t : Bool) (ps : List (List ℕ)) → length ps ≤ length l + 1 → length (cut t x ps) ≤ suc (length l) + 1
    go true ps h = omega arith
    go false [] h = omega arith
    go false (p ∷ ps) h = omega arith

-- ---- the parts from a place on: the next ends at e, where the first b at or after `at` stands

module _ (b : ℕ) (l : List ℕ) (at e : ℕ) (h : at ≤ length l) (f : e ≡ min at (length l) + before b (drop at l)) where
  -- where e is the length, it is the last
  pub part_last : e ≡ length l → parts b (drop at l) ≡ take (e - at) (drop at l) ∷ []
  part_last g =
      parts_last b (drop at l) (omega (arith, length-drop at l))
      ∙ ap (λ (p : List ℕ). p ∷ []) (sym (take_all (e - at) (drop at l) (omega (arith, length-drop at l))))

  -- where it is not, the others come after e
  pub part_next : (e ≡ length l → ⊥) → parts b (drop at l) ≡ take (e - at) (drop at l) ∷ parts b (drop (e + 1) l)
  part_next g =
      let n : before b (drop at l) ≡ e - at = omega arith in
      let m : at + suc (before b (drop at l)) ≡ e + 1 = omega arith in
      parts_first b (drop at l)
      (lt_of_le-ne (before_le b (drop at l)) (λ z. g (omega (arith, length-drop at l))))
      ∙ ap₂ (λ (i : ℕ) (p : List ℕ). take i (drop at l) ∷ parts b p) n
      (drop-drop (suc (before b (drop at l))) at l ∙ ap (λ (i : ℕ). drop i l) m)

-- ---- parts that are put together

-- where no b stands in either of two lists, none stands in both together
pub lacks_both : (b : ℕ) (l m : List ℕ) → before b l ≡ length l → before b m ≡ length m
    → before b (l ++ m) ≡ length (l ++ m)
unfolding before
lacks_both b [] m h g = g
lacks_both b (x ∷ l) m h g = go (x == b) h (λ e. lacks_both b l m e g)
  where
    go : (t : Bool) → cond t 0 (suc (before b l)) ≡ suc (length l)
        → (before b l ≡ length l → before b (l ++ m) ≡ length (l ++ m))
        → cond t 0 (suc (before b (l ++ m))) ≡ suc (length (l ++ m))
    go true h r = absurd (omega arith)
    go false h r = ap suc (r (omega arith))

-- no byte below the digits, such as a line feed or a comma, is among them ..
by_lacks : (b k n : ℕ) → b < 48 → before b (digits_by k n) ≡ length (digits_by k n)
unfolding before digits_by
by_lacks b zero n h = refl
by_lacks b (suc k) n h = go (nat_lt n 10) (by_lacks b k (n / 10) h)
  where
    one : (d : ℕ) → before b ((48 + d) ∷ []) ≡ 1
    one d = simp (ne_eqb (48 + d) b (λ e. omega arith))

    go : (t : Bool) → before b (digits_by k (n / 10)) ≡ length (digits_by k (n / 10))
        → before b (cond t ((48 + n) ∷ []) (digits_by k (n / 10) ++ ((48 + n % 10) ∷ [])))
        ≡ length (cond t ((48 + n) ∷ []) (digits_by k (n / 10) ++ ((48 + n % 10) ∷ [])))
    go true r = one n
    go false r = lacks_both b (digits_by k (n / 10)) ((48 + n % 10) ∷ []) r (one (n % 10))

-- .. so none stands in a writing
pub digits_lacks : (b n : ℕ) → b < 48 → before b (digits n) ≡ length (digits n)
unfolding digits
digits_lacks b n h = by_lacks b 10 n h

-- a list without a b, then a b, then more: the list is the first part
pub parts_then : (b : ℕ) (l t : List ℕ) → before b l ≡ length l → parts b (l ++ (b ∷ t)) ≡ l ∷ parts b t
unfolding before parts
parts_then b [] t h = simp (eq-eqb b b refl)
parts_then b (x ∷ l) t h = go (x == b) h (parts_then b l t)
  where
    go : (c : Bool) → cond c 0 (suc (before b l)) ≡ suc (length l)
        → (before b l ≡ length l → parts b (l ++ (b ∷ t)) ≡ l ∷ parts b t)
        → cut c x (parts b (l ++ (b ∷ t))) ≡ (x ∷ l) ∷ parts b t
    go true h r = absurd (omega arith)
    go false h r = ap (cut false x) (r (omega arith))

-- the parts with a b between each two
unfoldable pub joined : ℕ → List (List ℕ) → List ℕ
joined b [] = []
joined b (p ∷ []) = p
joined b (p ∷ q ∷ ps) = p ++ (b ∷ joined b (q ∷ ps))

-- the parts of a list, joined, are the list
pub joined-parts : (b : ℕ) (l : List ℕ) → joined b (parts b l) ≡ l
unfolding joined parts
joined-parts b [] = refl
joined-parts b (x ∷ l) = go (x == b) refl (parts b l) (parts_some b l) (joined-parts b l)
  where
    go : (t : Bool) → (x == b) ≡ t → (ps : List (List ℕ)) → 0 < length ps → joined b ps ≡ l
        → joined b (cut t x ps) ≡ x ∷ l
    go t e [] h r = absurd (omega arith)
    go true e (p ∷ ps) h r = ap₂ (λ (y : ℕ) (m : List ℕ). y ∷ m) (sym (eqb-true x b e)) r
    go false e (p ∷ []) h r = ap (λ (m : List ℕ). x ∷ m) r
    go false e (p ∷ q ∷ ps) h r = ap (λ (m : List ℕ). x ∷ m) r

-- ---- a key and a decimal

-- a line starts with a key byte by byte, as the library's `strip_prefix` compares
pub prefix_is : (key s : List ℕ) → starts key s ≡ pointwise nat_eq (take (length key) s) key
unfolding starts
prefix_is [] s = refl
prefix_is (k ∷ key) [] = refl
prefix_is (k ∷ key) (x ∷ s) = ap (λ (t : Bool). x == k && t) (prefix_is key s)

-- a key and more starts with the key
pub starts_key : (key l : List ℕ) → starts key (key ++ l) ≡ true
unfolding starts
starts_key [] l = refl
starts_key (k ∷ key) l = simp (eq-eqb k k refl, starts_key key l)

-- what starts with a key is the key and what comes after it
pub key_starts : (key l : List ℕ) → starts key l ≡ true → key ++ drop (length key) l ≡ l
unfolding starts
key_starts [] l h = refl
key_starts (k ∷ key) [] h = absurd (false≢true h)
key_starts (k ∷ key) (x ∷ l) h = go (x == k) refl h (key_starts key l)
  where
    go : (t : Bool) → (x == k) ≡ t → t && starts key l ≡ true
        → (starts key l ≡ true → key ++ drop (length key) l ≡ l)
        → k ∷ (key ++ drop (length key) l) ≡ x ∷ l
    go true e h r = ap₂ (λ (y : ℕ) (m : List ℕ). y ∷ m) (sym (eqb-true x k e)) (r h)
    go false e h r = absurd (false≢true h)

-- a key and the writing of a number of 32 bits have that number as their value ..
pub value_written : (key : List ℕ) (n : ℕ) → n < 4294967296 → value_of key (key ++ digits n) ≡ Some n
unfolding value_of
value_written key n h = rw (starts_key key (digits n), drop-append_seam key (digits n)) (read_back n h)

-- what has a value starts with the key, and what comes after the key is the value's decimal
valued : (key l : List ℕ) (n : ℕ) → value_of key l ≡ Some n
    → (starts key l ≡ true) × (number_of (drop (length key) l) ≡ Some n)
unfolding value_of
valued key l n e = go (starts key l) refl e
  where
    go : (t : Bool) → starts key l ≡ t → cond t (number_of (drop (length key) l)) None ≡ Some n
        → (starts key l ≡ true) × (number_of (drop (length key) l) ≡ Some n)
    go true s f = (s, f)
    go false s f = absurd (none-some n f)

-- .. so only they have it ..
pub value_read : (key l : List ℕ) (n : ℕ) → value_of key l ≡ Some n → key ++ digits n ≡ l
value_read key l n e =
    let v = valued key l n e in
    ap (λ (m : List ℕ). key ++ m) (print_back (drop (length key) l) n v.1) ∙ key_starts key l v.0

-- .. and it is a number of 32 bits
pub value_fits : (key l : List ℕ) (n : ℕ) → value_of key l ≡ Some n → n < 4294967296
value_fits key l n e = number_fits (drop (length key) l) n (valued key l n e).1

-- ---- seven values

-- numbers are all numbers
pub numbers_are : (v : List ℕ) → numbers_in (map Some v) ≡ Some v
unfolding numbers_in
numbers_are [] = refl
numbers_are (x ∷ v) = ap (option_map (λ (l : List ℕ). x ∷ l)) (numbers_are v)

-- the values where there are seven numbers
pub fields_seven : (s v : List ℕ) → length v ≡ 7 → map number_of (parts 44 s) ≡ map Some v → Some v ≡ fields_of s
unfolding fields_of fields_by
fields_seven s v h e = rw (e, eq-eqb (length (map Some v)) 7 (length-map v Some ∙ h), numbers_are v)

-- one value more
pub value_more : (v : List ℕ) (k x : ℕ) (ns : List (Option ℕ)) → k < length v
    → map Some (take k v) ++ (Some x ∷ ns) ≡ map Some (take (k + 1) (set v k x)) ++ ns
value_more v k x ns h =
    sym
    (rw (add-one k, take-suc-set v k x h, map-append Some (take k v) (x ∷ []))
    (append_assoc (map Some (take k v)) (Some x ∷ []) ns))

-- ---- a key

-- a line is at least as long as a key that it starts with
pub starts_long : (key l : List ℕ) → starts key l ≡ true → length key ≤ length l
unfolding starts
starts_long [] l e = omega arith
starts_long (k ∷ key) [] e = absurd (false≢true e)
starts_long (k ∷ key) (x ∷ l) e = go (x == k) e (starts_long key l)
  where
    go : (t : Bool) → (t && starts key l) ≡ true → (starts key l ≡ true → length key ≤ length l)
        → suc (length key) ≤ suc (length l)
    go true f r = let h = r f in omega arith
    go false f r = absurd (false≢true f)
