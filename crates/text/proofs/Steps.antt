-- Reading with the library's methods, as the code does, against reading what is left of a list, as the definitions do.
use Rattle.std.specs.Prelude.{slice_index_or, Option, Some, None}
use Rattle.std.specs.List.{position_or_len, slice_split, onto_first}
use Rattle.std.specs.Option.{option_map, option_and_then, unwrap_or}
use Rattle.std.specs.Cmp.Lexicographic.{pointwise}
use Rattle.std.proofs.Common.{◌≡◌, refl, sym, ap, ap₂, ◌∙◌, Bool, true, false, cond, ◌&&◌, List, [], ◌∷◌, ◌++◌, map, ℕ, suc, ◌+◌, ◌-◌, ◌≤◌, ◌<◌, min, length, take, drop, set, ◌==◌, nat_eq, nat_lt, add-one, arith, drop-cons, drop_of_length-le, ltb-false, ne_eqb, length-set, length-append, length-take, length-drop, take_all, append-nil}
use Rattle.std.proofs.lemmas.Bool.Decides.{nat_tests}
use Rattle.std.proofs.lemmas.List.{length-map}
use Rattle.std.proofs.lemmas.List.Recursion.{is_position_or_len}
use Rattle.std.specs.Iterator.{AlwaysYields}
use Rattle.std.proofs.lemmas.Iterator.{YieldsList}
use Rattle.text.specs.Decimal.{goes_on, number_of}
use Rattle.text.specs.Line.{before, cut, parts, starts, numbers_in, fields_by, fields_of}
use Rattle.text.specs.Laws.{goes_first, before_le, fields_seven, value_more}

-- ---- digits

-- the bytes before i are v, and with the rest they are what the whole is
pub record Read (s : List ℕ) (v i : ℕ) : Type 0 where
  pub so_far : goes_on 0 s ≡ goes_on v (drop i s)

module _ {s : List ℕ} {v i : ℕ} (r : Read s v i) where
  -- the byte at i takes v on, and then the bytes after it do
  turn : i < length s → goes_on 0 s ≡ option_and_then (λ w. goes_on w (drop (i + 1) s)) (goes_on v (slice_index_or s i 0 ∷ []))
  turn h =
      r.so_far ∙ rw (add-one i, drop-cons s i 0 h) (goes_first v (slice_index_or s i 0) (drop (suc i) s))

  -- a byte that does not take it on
  pub digit_none : i < length s → None ≡ goes_on v (slice_index_or s i 0 ∷ []) → None ≡ goes_on 0 s
  digit_none h e = sym (turn h ∙ rw (← e))

  -- one that does
  pub digit_more : {w : ℕ} → i < length s → Some w ≡ goes_on v (slice_index_or s i 0 ∷ []) → Read s w (i + 1)
  digit_more h e = record { so_far = turn h ∙ rw (← e) }

  -- no byte left
  pub digits_ended : length s ≤ i → Some v ≡ goes_on 0 s
  unfolding goes_on
  digits_ended h = sym (r.so_far ∙ rw (drop_of_length-le s h))

-- ---- the first of a byte

-- it is where the library finds it
before_is : (b : ℕ) (l : List ℕ) → before b l ≡ position_or_len (λ x. x == b) l
unfolding before
before_is b = is_position_or_len (before b) (λ x. x == b) refl (λ x xs. ap (cond (x == b) 0) (omega arith))

-- .. or the length where it finds none
pub found_is : (b : ℕ) (l : List ℕ) (r : Option ℕ)
    → r ≡ cond (nat_lt (position_or_len (λ x. x == b) l) (length l)) (Some (position_or_len (λ x. x == b) l)) None
    → unwrap_or r (length l) ≡ before b l
found_is b l r e = rw (e, ← before_is b l) (go (nat_lt (before b l) (length l)) refl)
  where
    go : (t : Bool) → nat_lt (before b l) (length l) ≡ t
        → unwrap_or (cond t (Some (before b l)) None) (length l) ≡ before b l
    go true q = refl
    go false q = omega (arith, ltb-false _ _ q, before_le b l)

-- `at` is past the end
pub sought_past : (s : List ℕ) (at b : ℕ) → length s < at
    → (length s ≡ min at (length s) + before b (drop at s)) × (length s ≤ length s)
unfolding before
sought_past s at b h = let g : length s ≤ at = omega arith in rw (drop_of_length-le s g) (omega arith, omega arith)

-- .. or it is not, and m bytes of the rest come first
pub sought_from : (s r : List ℕ) (at b m : ℕ) → at ≤ length s → r ≡ take (length s - at) (drop at s) → m ≡ before b r
    → (at + m ≡ min at (length s) + before b (drop at s)) × (at + m ≤ length s)
sought_from s r at b m h e f =
    let l = length-drop at s in
    let g : m ≡ before b (drop at s) = f ∙ ap (before b) (e ∙ take_all (length s - at) (drop at s) (omega arith)) in
    (omega arith, omega (arith, before_le b (drop at s)))

-- ---- a key

-- two numbers are equal in one order as in the other
eq_turned : (m n : ℕ) → (m == n) ≡ nat_eq n m
eq_turned m n = grind (arith, nat_tests)

-- byte by byte, as the library's `starts_with` compares
pub starts_is : (key s : List ℕ) → starts key s ≡ pointwise nat_eq key (take (length key) s)
unfolding starts
starts_is [] s = refl
starts_is (k ∷ key) [] = refl
starts_is (k ∷ key) (x ∷ s) = ap₂ ◌&&◌ (eq_turned x k) (starts_is key s)

-- ---- seven values

-- the library cuts a list where the definitions do
pub parts_are : (b : ℕ) (l : List ℕ) → slice_split (λ x. x == b) l ≡ parts b l
unfolding parts
parts_are b [] = refl
parts_are b (x ∷ l) = rw (parts_are b l) (go (x == b) (parts b l))
  where
    go : (t : Bool) (ps : List (List ℕ)) → cond t ([] ∷ ps) (onto_first x ps) ≡ cut t x ps
    go true ps = refl
    go false [] = refl
    go false (p ∷ ps) = refl

-- not all are numbers where one is not
one_not : (v : List ℕ) (ns : List (Option ℕ)) → numbers_in (map Some v ++ (None ∷ ns)) ≡ None
unfolding numbers_in
one_not [] ns = refl
one_not (n ∷ v) ns = ap (option_map (λ (l : List ℕ). n ∷ l)) (one_not v ns)

-- no values where one is no number
fields_not : (s v : List ℕ) (ns : List (Option ℕ)) → map number_of (parts 44 s) ≡ map Some v ++ (None ∷ ns)
    → None ≡ fields_of s
unfolding fields_of fields_by
fields_not s v ns e = rw (e, one_not v ns) (go (length (map Some v ++ (None ∷ ns)) == 7))
  where
    go : (t : Bool) → ◌≡◌ {A = Option (List ℕ)} None (cond t None None)
    go true = refl
    go false = refl

-- no values where there are not seven
fields_other : (s : List ℕ) (ns : List (Option ℕ)) → map number_of (parts 44 s) ≡ ns → (length ns ≡ 7 → ⊥)
    → None ≡ fields_of s
unfolding fields_of fields_by
fields_other s ns e h = rw (e, ne_eqb (length ns) 7 h)

module _ {S A : Type 0} (steps : S → Option A → S → Type 0) (part : A → List ℕ) where
  -- the first k values are the first parts, and the others are those that are still to come
  pub record Values (s v : List ℕ) (k : ℕ) (p : S) : Type 0 where
    pub size : length v ≡ 7
    pub left : List (List ℕ)
    pub yields : YieldsList steps part p left
    pub so_far : map number_of (parts 44 s) ≡ map Some (take k v) ++ map number_of left

  module _ {s v : List ℕ} {k : ℕ} {p q : S} (r : Values s v k p) where
    -- the numbers, where none is to come
    ended : steps p None q → map number_of (parts 44 s) ≡ map Some (take k v)
    ended e = r.so_far ∙ rw (go r.left r.yields.runs) (append-nil (map Some (take k v)))
      where
        go : (ps : List (List ℕ)) → AlwaysYields steps part p ps → ps ≡ []
        go [] y = refl
        go (x ∷ ps) y = absurd (y.0 q e)

    -- .. and where one is to come
    more : {x : A} → steps p (Some x) q
        → (ps : List (List ℕ))
        × AlwaysYields steps part q ps
        × (map number_of (parts 44 s) ≡ map Some (take k v) ++ (number_of (part x) ∷ map number_of ps))
    more {x} e = go r.left r.yields.runs r.so_far
      where
        go : (ps : List (List ℕ)) → AlwaysYields steps part p ps
            → map number_of (parts 44 s) ≡ map Some (take k v) ++ map number_of ps
            → (ps : List (List ℕ))
            × AlwaysYields steps part q ps
            × (map number_of (parts 44 s) ≡ map Some (take k v) ++ (number_of (part x) ∷ map number_of ps))
        go [] y h = absurd (y x q e)
        go (l ∷ ps) y h = let z = y.1 x q e in (ps, z.1, rw z.0 h)

    -- none is to come, though there are fewer than seven
    pub too_few : k < 7 → steps p None q → None ≡ fields_of s
    too_few h e =
        fields_other s (map Some (take k v)) (ended e)
        (λ z. omega (arith, length-map (take k v) Some, length-take k v, r.size))

    -- none is to come, and there are seven
    pub seven_read : 7 ≤ k → steps p None q → Some v ≡ fields_of s
    seven_read h e =
        fields_seven s v r.size (ended e ∙ ap (map Some) (take_all k v (omega (arith, r.size))))

    module _ {x : A} (e : steps p (Some x) q) where
      -- one is to come, and it is no number ..
      pub part_not : None ≡ number_of (part x) → None ≡ fields_of s
      part_not g = let m = more e in fields_not s (take k v) (map number_of m.0) (rw g m.2)

      -- .. or the number n ..
      pub part_more : {n : ℕ} → k < 7 → Some n ≡ number_of (part x) → Values s (set v k n) (k + 1) q
      part_more {n} h g = let m = more e in record {
        size = length-set v k n ∙ r.size;
        left = m.0;
        yields = record { runs = m.1 };
        so_far = rw (← g) at m.2 ∙ value_more v k n (map number_of m.0) (omega (arith, r.size));
      }

      -- .. or there are seven already
      pub too_many : 7 ≤ k → None ≡ fields_of s
      too_many h =
          let m = more e in
          fields_other s (map Some (take k v) ++ (number_of (part x) ∷ map number_of m.0)) m.2
          (λ z. omega (
            arith,
            length-append (map Some (take k v)) (number_of (part x) ∷ map number_of m.0),
            length-map (take k v) Some,
            length-take k v,
            r.size,
          ))
