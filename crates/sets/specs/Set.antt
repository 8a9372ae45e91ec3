-- Sets of small numbers as masks: k is in m exactly when digit k of m, counted from the lowest, is 1.
-- An operation that can reach past the masks is said over their width w, and the code's masks have one width, `width`.
-- What is in each set, and how many, is told by the laws (Laws.antt).
use Rattle.std.specs.Prelude.{Bool, not, cond, ℕ, zero, suc, ◌-◌, ◌/◌, ◌%◌, ◌^◌, min, ◌==◌, nat_lt}
use Rattle.std.specs.Int.Bits.{bit_and, bit_or}
use Rattle.std.specs.Int.Count.{ones_in}

-- how many digits a mask of the code has
abbrev pub width : ℕ
width = 32

-- digit k of m: 0 or 1
abbrev pub bit : ℕ → ℕ → ℕ
bit m k = m / 2 ^ k % 2

-- k is in m
unfoldable pub has : ℕ → ℕ → Bool
has m k = bit m k == 1

-- nothing is in it
abbrev pub none : ℕ
none = 0

-- nothing is in m
unfoldable pub is_empty : ℕ → Bool
is_empty m = m == 0

-- m with k; a k past the width is in no set, so it is not added
unfoldable pub with_in : ℕ → ℕ → ℕ → ℕ
with_in w m k = cond (nat_lt k w) (bit_or m (2 ^ k)) m

abbrev pub with : ℕ → ℕ → ℕ
with m k = with_in width m k

-- what is in a or in b
unfoldable pub union : ℕ → ℕ → ℕ
union a b = bit_or a b

-- what is in a and not in b
unfoldable pub minus : ℕ → ℕ → ℕ
minus a b = a - bit_and a b

-- m without k
unfoldable pub without : ℕ → ℕ → ℕ
without m k = minus m (2 ^ k)

-- something is in both a and b
unfoldable pub overlap : ℕ → ℕ → Bool
overlap a b = not (bit_and a b == 0)

-- the first n numbers, 0 to n - 1, as far as the width goes
unfoldable pub first_in : ℕ → ℕ → ℕ
first_in w n = 2 ^ min n w - 1

abbrev pub first : ℕ → ℕ
first n = first_in width n

-- the first n numbers but k
unfoldable pub all_but_in : ℕ → ℕ → ℕ → ℕ
all_but_in w n k = without (first_in w n) k

abbrev pub all_but : ℕ → ℕ → ℕ
all_but n k = all_but_in width n k

-- how many numbers are in m: the count of ones among its digits
unfoldable pub size_in : ℕ → ℕ → ℕ
size_in w m = ones_in w m

abbrev pub size : ℕ → ℕ
size m = size_in width m

-- the numbers k below n for which p k holds
unfoldable pub those : ℕ → (ℕ → Bool) → ℕ
those zero p = none
those (suc n) p = cond (p n) (bit_or (those n p) (2 ^ n)) (those n p)
