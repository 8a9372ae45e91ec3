-- The laws of sets: what is in each set, when two sets are one, and how many numbers a set has.
-- They are said over the width w of the masks where the width matters, and membership is a test, a Bool.
use Rattle.std.specs.Prelude.{◌≡◌, refl, Bool, true, false, not, cond, ◌&&◌, ◌||◌, ◌⊎◌, ℕ, zero, suc, ◌+◌, ◌-◌, ◌/◌, ◌%◌, ◌^◌, ◌≤◌, ◌<◌, min, max, ◌==◌, nat_lt}
use Rattle.std.proofs.Common.{sym, ap, ap₂, ◌∙◌, inl, inr, zero-le, eq-zero-or-pos, lt_of_lt_of_le, pow-suc, arith, pow_pos, pow_mono, eq-eqb, ne_eqb, eqb-true, lt-ltb, le-ltb, ltb-true, ltb-false}
use Rattle.std.proofs.lemmas.Bool.{false≢true, eqb-false, not-true, not-false}
use Rattle.std.proofs.Math.Bool.{and-eq-true_iff, and-true, and-false, or-true, or-false}
use Rattle.std.proofs.Math.Arith.{bin_ind, lt-one}
use Rattle.std.proofs.Math.Pow.{ones_lt, pow-lt}
use Rattle.std.specs.Int.Bits.{bit_and, bit_or}
use Rattle.std.proofs.lemmas.Nat.{or_lt}
use Rattle.std.specs.Int.Count.{ones, ones_in, ones_step, ones-ones}
use Rattle.sets.specs.Set.{width, bit, has, none, is_empty, with_in, union, minus, without, overlap, first_in, all_but_in, size_in, those}
use Rattle.sets.specs.Digits.{digit, bit-zero, bit-suc, bit_of_zero, bit_past, bit-and, bit-or, bit-minus, bit-pow, bit_ones}

-- ---- membership is the test of a digit

-- the digit of a test is 1 where the test passes
test_digit : (b : Bool) → (digit b == 1) ≡ b
test_digit true = refl
test_digit false = refl

-- a digit is that of the test whether its place is in the set
bit-has : (m k : ℕ) → bit m k ≡ digit (has m k)
unfolding has
bit-has m k = go (bit m k) (omega arith)
  where
    go : (x : ℕ) → x < 2 → x ≡ digit (x == 1)
    go zero h = refl
    go (suc zero) h = refl
    go (suc (suc x)) h = absurd (omega arith)

has-bit : (m k : ℕ) (b : Bool) → bit m k ≡ digit b → has m k ≡ b
unfolding has
has-bit m k b e = ap (λ (x : ℕ). x == 1) e ∙ test_digit b

-- an operation that acts digit by digit acts so on membership
has_by : (f : ℕ → ℕ → ℕ) (g : Bool → Bool → Bool) → ((p q : Bool) → f (digit p) (digit q) ≡ digit (g p q)) → (m a b k : ℕ)
    → bit m k ≡ f (bit a k) (bit b k) → has m k ≡ g (has a k) (has b k)
has_by f g h m a b k e = has-bit m k (g (has a k) (has b k)) (e ∙ ap₂ f (bit-has a k) (bit-has b k) ∙ h (has a k) (has b k))

-- the lowest digit tells whether 0 is in m, and the half has the rest
has_low : (m : ℕ) → m % 2 ≡ digit (has m 0)
has_low m = sym (bit-zero m) ∙ bit-has m 0

has-suc : (m k : ℕ) → has m (suc k) ≡ has (m / 2) k
unfolding has
has-suc m k = ap (λ (x : ℕ). x == 1) (bit-suc m k)

-- ---- what is in each set

pub has-none : (k : ℕ) → has none k ≡ false
has-none k = has-bit none k false (bit_of_zero k)

pub has_past : (w m k : ℕ) → m < 2 ^ w → w ≤ k → has m k ≡ false
has_past w m k h l = has-bit m k false (bit_past w m k h l)

-- .. so a mask of the code has no number past its width
pub has_outside : (m k : ℕ) → m < 2 ^ width → width ≤ k → has m k ≡ false
has_outside m k h l = has_past width m k h l

-- the bitwise and, by which `overlap` is defined
has_both : (a b k : ℕ) → has (bit_and a b) k ≡ (has a k && has b k)
has_both a b k = has_by min ◌&&◌ go (bit_and a b) a b k (bit-and a b k)
  where
    go : (p q : Bool) → min (digit p) (digit q) ≡ digit (p && q)
    go true true = refl
    go true false = refl
    go false true = refl
    go false false = refl

pub has-union : (a b k : ℕ) → has (union a b) k ≡ (has a k || has b k)
unfolding union
has-union a b k = has_by max ◌||◌ go (bit_or a b) a b k (bit-or a b k)
  where
    go : (p q : Bool) → max (digit p) (digit q) ≡ digit (p || q)
    go true true = refl
    go true false = refl
    go false true = refl
    go false false = refl

pub has-minus : (a b k : ℕ) → has (minus a b) k ≡ (has a k && not (has b k))
has-minus a b k = has_by (λ x y. x - y) (λ p q. p && not q) go (minus a b) a b k (bit-minus a b k)
  where
    go : (p q : Bool) → digit p - digit q ≡ digit (p && not q)
    go true true = refl
    go true false = refl
    go false true = refl
    go false false = refl

-- the mask of k alone
has_one : (k j : ℕ) → has (2 ^ k) j ≡ (j == k)
has_one k j = has-bit (2 ^ k) j (j == k) (bit-pow k j)

-- k is added where the test b passes
has_added : (b : Bool) (m k j : ℕ) → has (cond b (bit_or m (2 ^ k)) m) j ≡ (has m j || (j == k && b))
unfolding union
has_added true m k j = has-union m (2 ^ k) j ∙ ap (λ (p : Bool). has m j || p) (has_one k j ∙ sym (and-true (j == k)))
has_added false m k j = sym (ap (λ (p : Bool). has m j || p) (and-false (j == k)) ∙ or-false (has m j))

pub has-with : (w m k j : ℕ) → has (with_in w m k) j ≡ (has m j || (j == k && nat_lt k w))
unfolding with_in
has-with w m k j = has_added (nat_lt k w) m k j

pub has-with_same : (w m k : ℕ) → k < w → has (with_in w m k) k ≡ true
has-with_same w m k h = has-with w m k k ∙ simp (eq-eqb k k refl, lt-ltb k w h, or-true)

pub has-with_other : (w m k j : ℕ) → (j ≡ k → ⊥) → has (with_in w m k) j ≡ has m j
has-with_other w m k j n = has-with w m k j ∙ simp (ne_eqb j k n, or-false)

pub has-without : (m k j : ℕ) → has (without m k) j ≡ (has m j && not (j == k))
unfolding without
has-without m k j = has-minus m (2 ^ k) j ∙ ap (λ (p : Bool). has m j && not p) (has_one k j)

pub has-without_same : (m k : ℕ) → has (without m k) k ≡ false
has-without_same m k = has-without m k k ∙ simp (eq-eqb k k refl, and-false)

pub has-without_other : (m k j : ℕ) → (j ≡ k → ⊥) → has (without m k) j ≡ has m j
has-without_other m k j n = has-without m k j ∙ simp (ne_eqb j k n, and-true)

pub has_first : (w n k : ℕ) → has (first_in w n) k ≡ (nat_lt k n && nat_lt k w)
unfolding first_in
has_first w n k = has-bit (2 ^ min n w - 1) k (nat_lt k (min n w)) (bit_ones (min n w) k) ∙ go (nat_lt k n) (nat_lt k w) refl refl
  where
    go : (p q : Bool) → nat_lt k n ≡ p → nat_lt k w ≡ q → nat_lt k (min n w) ≡ (p && q)
    go true true h i = lt-ltb k (min n w) (omega (arith, ltb-true k n h, ltb-true k w i))
    go true false h i = le-ltb k (min n w) (omega (arith, ltb-false k w i))
    go false q h i = le-ltb k (min n w) (omega (arith, ltb-false k n h))

pub has_all_but : (w n k j : ℕ) → has (all_but_in w n k) j ≡ (nat_lt j n && nat_lt j w && not (j == k))
unfolding all_but_in
has_all_but w n k j = has-without (first_in w n) k j ∙ ap (λ (p : Bool). p && not (j == k)) (has_first w n j)

pub has-those : (n : ℕ) (p : ℕ → Bool) (k : ℕ) → has (those n p) k ≡ (nat_lt k n && p k)
unfolding those
has-those zero p k = has-none k ∙ sym (ap (λ (b : Bool). b && p k) (le-ltb k 0 zero-le))
has-those (suc n) p k =
    has_added (p n) (those n p) n k ∙ ap (λ (b : Bool). b || (k == n && p n)) (has-those n p k) ∙ go (k == n) refl
  where
    go : (b : Bool) → (k == n) ≡ b → ((nat_lt k n && p k) || (b && p n)) ≡ (nat_lt k (suc n) && p k)
    go true e =
        let same : k ≡ n = eqb-true k n e in
        rw (same, le-ltb n n (omega arith), lt-ltb n (suc n) (omega arith))
    go false e = or-false (nat_lt k n && p k) ∙ ap (λ (b : Bool). b && p k) (other (nat_lt k n) refl)
      where
        other : (b : Bool) → nat_lt k n ≡ b → b ≡ nat_lt k (suc n)
        other true h = sym (lt-ltb k (suc n) (omega (arith, ltb-true k n h)))
        other false h = sym (le-ltb k (suc n) (omega (arith, ltb-false k n h, eqb-false k n e)))

-- ---- two sets with the same members are one

pub ext_in : (w a b : ℕ) → a < 2 ^ w → b < 2 ^ w → ((k : ℕ) → k < w → has a k ≡ has b k) → a ≡ b
ext_in zero a b ha hb h = lt-one ha ∙ sym (lt-one hb)
ext_in (suc w) a b ha hb h =
    let rest : a / 2 ≡ b / 2 =
    ext_in w (a / 2) (b / 2) (omega (arith, pow-suc 2 w)) (omega (arith, pow-suc 2 w))
    (λ k l. sym (has-suc a k) ∙ h (suc k) (omega arith) ∙ has-suc b k) in
    let low : a % 2 ≡ b % 2 = has_low a ∙ ap digit (h 0 (omega arith)) ∙ sym (has_low b) in
    omega arith

-- a number has fewer digits than it counts
below_pow : (n : ℕ) → n < 2 ^ n
below_pow zero = omega arith
below_pow (suc n) = omega (arith, below_pow n, pow-suc 2 n)

pub ext : (a b : ℕ) → ((k : ℕ) → has a k ≡ has b k) → a ≡ b
ext a b h = ext_in (a + b) a b (fits a (omega arith)) (fits b (omega arith)) (λ k l. h k)
  where
    fits : (m : ℕ) → m ≤ a + b → m < 2 ^ (a + b)
    fits m l = lt_of_lt_of_le (below_pow m) (pow_mono l)

-- ---- the empty set

-- a number that is in m
abbrev Some : ℕ → Type 0
Some m = (k : ℕ) × (has m k ≡ true)

pub some_member : (m : ℕ) → (m ≡ 0 → ⊥) → (k : ℕ) × (has m k ≡ true)
some_member =
    bin_ind (λ (m : ℕ). (m ≡ 0 → ⊥) → Some m) (λ n. absurd (n refl)) (λ m ih n. go m ih n (eq-zero-or-pos (m / 2)))
  where
    go : (m : ℕ) → ((m / 2 ≡ 0 → ⊥) → Some (m / 2)) → (m ≡ 0 → ⊥) → (m / 2 ≡ 0) ⊎ (0 < m / 2) → Some m
    go m ih n (inl e) = (0, has-bit m 0 true (bit-zero m ∙ omega arith))
    go m ih n (inr l) = let r = ih (λ e. omega arith) in (suc r.0, has-suc m r.0 ∙ r.1)

pub empty_none : (m k : ℕ) → is_empty m ≡ true → has m k ≡ false
unfolding is_empty
empty_none m k h = ap (λ (x : ℕ). has x k) (eqb-true m 0 h) ∙ has-none k

pub none_empty : (m : ℕ) → ((k : ℕ) → has m k ≡ false) → is_empty m ≡ true
unfolding is_empty
none_empty m h = eq-eqb m 0 (ext m 0 (λ k. h k ∙ sym (has-none k)))

-- ---- a number past the width is in no set, so leaving it out changes nothing

pub without_past : (w m k : ℕ) → m < 2 ^ w → w ≤ k → without m k ≡ m
without_past w m k h l = ext (without m k) m (λ j. has-without m k j ∙ go j (j == k) refl)
  where
    go : (j : ℕ) (b : Bool) → (j == k) ≡ b → (has m j && not b) ≡ has m j
    go j true e = and-false (has m j) ∙ sym (has_past w m j h (omega (arith, eqb-true j k e)))
    go j false e = and-true (has m j)

-- ---- something is in both

pub overlap_in : (a b k : ℕ) → has a k ≡ true → has b k ≡ true → overlap a b ≡ true
unfolding overlap
overlap_in a b k ha hb =
    ap not (ne_eqb (bit_and a b) 0 (λ e.
    false≢true (sym (has-none k) ∙ ap (λ (m : ℕ). has m k) (sym e) ∙ has_both a b k ∙ ap₂ ◌&&◌ ha hb)))

pub overlap_out : (a b : ℕ) → overlap a b ≡ true → (k : ℕ) × (has a k ≡ true) × (has b k ≡ true)
unfolding overlap
overlap_out a b h =
    let some = some_member (bit_and a b) (eqb-false (bit_and a b) 0 (not-true (bit_and a b == 0) h)) in
    let k = some.0 in
    let both = (and-eq-true_iff (has a k) (has b k)).0 (sym (has_both a b k) ∙ some.1) in
    (k, both.0, both.1)

pub overlap-none : (a b k : ℕ) → overlap a b ≡ false → has a k ≡ true → has b k ≡ false
unfolding overlap
overlap-none a b k h ha =
    sym (ap (λ (p : Bool). p && has b k) ha) ∙ sym (has_both a b k)
    ∙ ap (λ (m : ℕ). has m k) (eqb-true (bit_and a b) 0 (not-false (bit_and a b == 0) h)) ∙ has-none k

-- ---- a is a part of b

pub part_out : (a b k : ℕ) → is_empty (minus a b) ≡ true → has a k ≡ true → has b k ≡ true
part_out a b k h ha =
    not-false (has b k) (sym (ap (λ (p : Bool). p && not (has b k)) ha) ∙ sym (has-minus a b k) ∙ empty_none (minus a b) k h)

pub part_in : (a b : ℕ) → ((k : ℕ) → has a k ≡ true → has b k ≡ true) → is_empty (minus a b) ≡ true
part_in a b h = none_empty (minus a b) (λ k. has-minus a b k ∙ go (has a k) (has b k) (h k))
  where
    go : (p q : Bool) → (p ≡ true → q ≡ true) → (p && not q) ≡ false
    go true q f = ap not (f refl)
    go false q f = refl

-- ---- every operation stays within the width

-- k is added where the test b passes
added_lt : (b : Bool) (w m k : ℕ) → m < 2 ^ w → (b ≡ true → k < w) → cond b (bit_or m (2 ^ k)) m < 2 ^ w
added_lt true w m k h l = or_lt w m (2 ^ k) h (pow-lt (l refl))
added_lt false w m k h l = h

pub with_lt : (w m k : ℕ) → m < 2 ^ w → with_in w m k < 2 ^ w
unfolding with_in
with_lt w m k h = added_lt (nat_lt k w) w m k h (ltb-true k w)

pub union_lt : (w a b : ℕ) → a < 2 ^ w → b < 2 ^ w → union a b < 2 ^ w
unfolding union
union_lt w a b ha hb = or_lt w a b ha hb

pub minus_lt : (w a b : ℕ) → a < 2 ^ w → minus a b < 2 ^ w
unfolding minus
minus_lt w a b h = omega arith

pub without_lt : (w m k : ℕ) → m < 2 ^ w → without m k < 2 ^ w
unfolding without
without_lt w m k h = minus_lt w m (2 ^ k) h

pub first_lt : (w n : ℕ) → first_in w n < 2 ^ w
unfolding first_in
first_lt w n = lt_of_lt_of_le (ones_lt (min n w)) (pow_mono (omega arith))

pub all_but_lt : (w n k : ℕ) → all_but_in w n k < 2 ^ w
unfolding all_but_in
all_but_lt w n k = without_lt w (first_in w n) k (first_lt w n)

pub those_lt : (w n : ℕ) (p : ℕ → Bool) → n ≤ w → those n p < 2 ^ w
unfolding those
those_lt w zero p l = pow_pos w
those_lt w (suc n) p l = added_lt (p n) w (those n p) n (those_lt w n p (omega arith)) (λ e. l)

-- ---- how many numbers a set has

-- the machine's count, which knows no width
pub size_by : (w m : ℕ) → m < 2 ^ w → size_in w m ≡ ones m
unfolding size_in ones_in ones
size_by zero m h = sym (ap ones (lt-one h))
size_by (suc w) m h = ap (λ (x : ℕ). m % 2 + x) (size_by w (m / 2) (omega (arith, pow-suc 2 w))) ∙ sym (ones_step m)

pub size_le : (w m : ℕ) → size_in w m ≤ w
unfolding size_in ones_in
size_le zero m = zero-le
size_le (suc w) m = omega (arith, size_le w (m / 2))

-- k is all by which b has more than a
size-more : (w a b k : ℕ) → k < w → has a k ≡ false → has b k ≡ true
    → ((j : ℕ) → (j ≡ k → ⊥) → has a j ≡ has b j) → size_in w b ≡ suc (size_in w a)
unfolding size_in ones_in
size-more zero a b k l ha hb h = absurd (omega arith)
size-more (suc w) a b zero l ha hb h =
    let rest : a / 2 ≡ b / 2 = ext (a / 2) (b / 2) (λ j. sym (has-suc a j) ∙ h (suc j) (λ e. omega arith) ∙ has-suc b j) in
    rw rest (omega (arith, has_low a ∙ ap digit ha, has_low b ∙ ap digit hb))
size-more (suc w) a b (suc k) l ha hb h =
    let low : a % 2 ≡ b % 2 = has_low a ∙ ap digit (h 0 (λ e. omega arith)) ∙ sym (has_low b) in
    let rest =
    size-more w (a / 2) (b / 2) k (omega arith) (sym (has-suc a k) ∙ ha) (sym (has-suc b k) ∙ hb)
    (λ j n. sym (has-suc a j) ∙ h (suc j) (λ e. n (omega arith)) ∙ has-suc b j) in
    omega arith

pub size-with : (w m k : ℕ) → m < 2 ^ w → k < w → has m k ≡ false → size_in w (with_in w m k) ≡ suc (size_in w m)
size-with w m k h l n =
    size-more w m (with_in w m k) k l n (has-with_same w m k l) (λ j o. sym (has-with_other w m k j o))

pub size-without : (w m k : ℕ) → m < 2 ^ w → has m k ≡ true → size_in w m ≡ suc (size_in w (without m k))
size-without w m k h i =
    size-more w (without m k) m k (within (nat_lt k w) refl) (has-without_same m k) i (has-without_other m k)
  where
    within : (b : Bool) → nat_lt k w ≡ b → k < w
    within true e = ltb-true k w e
    within false e = absurd (false≢true (sym (has_past w m k h (ltb-false k w e)) ∙ i))

pub size-first : (w n : ℕ) → n ≤ w → size_in w (first_in w n) ≡ n
unfolding first_in
size-first w n l = size_by w (first_in w n) (first_lt w n) ∙ ones-ones (min n w) ∙ omega arith

pub size_none : (w : ℕ) → size_in w none ≡ 0
size_none w = size_by w none (pow_pos w) ∙ ones-ones 0

pub size_all_but : (w n k : ℕ) → n ≤ w → k < n → suc (size_in w (all_but_in w n k)) ≡ n
unfolding all_but_in
size_all_but w n k l h =
    let in_first : has (first_in w n) k ≡ true = has_first w n k ∙ ap₂ ◌&&◌ (lt-ltb k n h) (lt-ltb k w (omega arith)) in
    sym (size-without w (first_in w n) k (first_lt w n) in_first) ∙ size-first w n l
