-- 01, "Scenario and report": "decimals without sign, spaces or leading zeros", and "numbers that don't fit 32 bits are
-- faults". A text is a list of bytes.
use Rattle.std.specs.Prelude.{Bool, cond, ◌&&◌, Option, Some, None, List, [], ◌∷◌, ◌++◌, ℕ, zero, suc, ◌+◌, ◌-◌, ◌*◌, ◌/◌, ◌%◌, ◌==◌, nat_le, nat_lt}

-- the byte is one of the digits 0 to 9
abbrev pub is_digit : ℕ → Bool
is_digit b = nat_le 48 b && nat_le b 57

-- the number that v goes on to with these bytes, where all are digits and it stays below 2^32
unfoldable pub goes_on : ℕ → List ℕ → Option ℕ
goes_on v [] = Some v
goes_on v (b ∷ l) =
    cond (is_digit b) (cond (nat_lt (v * 10 + (b - 48)) 4294967296) (goes_on (v * 10 + (b - 48)) l) None) None

-- what a list of bytes is, read as a decimal: no digit at all is none, and a zero stands alone
unfoldable pub number_of : List ℕ → Option ℕ
number_of [] = None
number_of (b ∷ []) = goes_on 0 (b ∷ [])
number_of (b ∷ c ∷ l) = cond (b == 48) None (goes_on 0 (b ∷ c ∷ l))

-- the decimal of a number below 10^k
unfoldable pub digits_by : ℕ → ℕ → List ℕ
digits_by zero n = []
digits_by (suc k) n = cond (nat_lt n 10) ((48 + n) ∷ []) (digits_by k (n / 10) ++ ((48 + n % 10) ∷ []))

-- the decimal of a number of 32 bits: ten digits suffice
unfoldable pub digits : ℕ → List ℕ
digits n = digits_by 10 n
