-- The binary digits of a number, lowest first: what the operations on masks do to each digit.
-- The laws on sets (Laws.antt) rest on these facts; whoever uses sets needs only the laws.
use Rattle.std.specs.Prelude.{◌≡◌, refl, Bool, cond, ℕ, zero, suc, ◌+◌, ◌-◌, ◌*◌, ◌/◌, ◌%◌, ◌^◌, ◌≤◌, ◌<◌, min, max, ◌==◌, nat_lt}
use Rattle.std.proofs.Common.{sym, ap, ap₂, ◌∙◌, div-one, mod-eq_of_lt, lt_of_lt_of_le, pow-suc, one-add, arith, shr-shr, pow_pos, pow_mono}
use Rattle.std.proofs.Math.Nat.{zero-div, div-eq_of_lt}
use Rattle.std.proofs.Math.Dec.{leb-zero, leb-suc-zero, leb-suc-suc, eqb-zero-suc, eqb-suc-zero, eqb-suc-suc}
use Rattle.std.proofs.Math.Arith.{lt-one}
use Rattle.std.proofs.Math.Pow.{pow-lt}
use Rattle.std.specs.Int.Bits.{bit_and, bit_or, and_step, or_step}
use Rattle.std.proofs.lemmas.Nat.{and_shr, or_shr, and_le_l}
use Rattle.sets.specs.Set.{bit, minus}

-- the digit that stands for a test
abbrev pub digit : Bool → ℕ
digit b = cond b 1 0

-- ---- the lowest digit, and the rest

pub bit-zero : (m : ℕ) → bit m 0 ≡ m % 2
bit-zero m = ap (λ (x : ℕ). x % 2) (div-one m)

pub bit-suc : (m k : ℕ) → bit m (suc k) ≡ bit (m / 2) k
bit-suc m k = ap (λ (x : ℕ). x % 2) (ap (λ (j : ℕ). m / 2 ^ j) (sym (one-add k)) ∙ sym (shr-shr m 1 k))

pub bit_of_zero : (k : ℕ) → bit 0 k ≡ 0
bit_of_zero k = ap (λ (x : ℕ). x % 2) (zero-div (2 ^ k))

-- a number below 2 ^ w has no digit past w
pub bit_past : (w m k : ℕ) → m < 2 ^ w → w ≤ k → bit m k ≡ 0
bit_past w m k h l = ap (λ (x : ℕ). x % 2) (div-eq_of_lt (lt_of_lt_of_le h (pow_mono l)))

-- ---- the operations, digit by digit

pub bit-and : (a b k : ℕ) → bit (bit_and a b) k ≡ min (bit a k) (bit b k)
bit-and a b k = omega (arith, and_shr a b k, and_step (a / 2 ^ k) (b / 2 ^ k))

pub bit-or : (a b k : ℕ) → bit (bit_or a b) k ≡ max (bit a k) (bit b k)
bit-or a b k = omega (arith, or_shr a b k, or_step (a / 2 ^ k) (b / 2 ^ k))

minus-step : (a b : ℕ) → minus a b ≡ minus (a / 2) (b / 2) * 2 + (a % 2 - b % 2)
unfolding minus
minus-step a b = omega (arith, and_step a b, and_le_l (a / 2) (b / 2))

pub bit-minus : (a b k : ℕ) → bit (minus a b) k ≡ bit a k - bit b k
bit-minus a b zero = simp bit-zero (omega (arith, minus-step a b))
bit-minus a b (suc k) =
    let half : minus a b / 2 ≡ minus (a / 2) (b / 2) = omega (arith, minus-step a b) in
    simp (bit-suc, half) (bit-minus (a / 2) (b / 2) k)

-- one digit is set
pub bit-pow : (k j : ℕ) → bit (2 ^ k) j ≡ digit (j == k)
bit-pow zero zero = refl
bit-pow zero (suc j) = bit-suc 1 j ∙ bit_of_zero j ∙ ap digit (sym (eqb-suc-zero j))
bit-pow (suc k) zero = bit-zero (2 ^ suc k) ∙ omega (arith, pow-suc 2 k) ∙ ap digit (sym (eqb-zero-suc k))
bit-pow (suc k) (suc j) =
    let half : 2 ^ suc k / 2 ≡ 2 ^ k = omega (arith, pow-suc 2 k) in
    bit-suc (2 ^ suc k) j ∙ ap (λ (x : ℕ). bit x j) half ∙ bit-pow k j ∙ ap digit (sym (eqb-suc-suc j k))

-- the first n digits are set
pub bit_ones : (n k : ℕ) → bit (2 ^ n - 1) k ≡ digit (nat_lt k n)
bit_ones zero k = bit_of_zero k ∙ ap digit (sym (leb-suc-zero k))
bit_ones (suc n) zero = bit-zero (2 ^ suc n - 1) ∙ omega (arith, pow-suc 2 n, pow_pos n) ∙ ap digit (sym (leb-suc-suc 0 n ∙ leb-zero n))
bit_ones (suc n) (suc k) =
    let half : (2 ^ suc n - 1) / 2 ≡ 2 ^ n - 1 = omega (arith, pow-suc 2 n, pow_pos n) in
    bit-suc (2 ^ suc n - 1) k ∙ ap (λ (x : ℕ). bit x k) half ∙ bit_ones n k ∙ ap digit (sym (leb-suc-suc (suc k) n))

-- ---- what the machine's operations on words of w digits give

-- `1 << k`
pub shl_one : (w k : ℕ) → k < w → 1 * 2 ^ k % 2 ^ w ≡ 2 ^ k
shl_one w k h = ap (λ (x : ℕ). x % 2 ^ w) (omega arith) ∙ mod-eq_of_lt (pow-lt h)

-- `a & !b`
pub and-not : (w a b : ℕ) → a < 2 ^ w → b < 2 ^ w → bit_and a ((2 ^ w - 1) - b) ≡ minus a b
unfolding minus
and-not zero a b ha hb = rw (lt-one ha) refl
and-not (suc w) a b ha hb =
    let half : ((2 ^ suc w - 1) - b) / 2 ≡ (2 ^ w - 1) - b / 2 = omega (arith, pow-suc 2 w) in
    let low : ((2 ^ suc w - 1) - b) % 2 ≡ 1 - b % 2 = omega (arith, pow-suc 2 w) in
    let rest = and-not w (a / 2) (b / 2) (omega (arith, pow-suc 2 w)) (omega (arith, pow-suc 2 w)) in
    and_step a ((2 ^ suc w - 1) - b)
    ∙ ap₂ (λ (x y : ℕ). bit_and (a / 2) x * 2 + min (a % 2) y) half low
    ∙ ap₂ (λ (x y : ℕ). x * 2 + y) rest (clear (a % 2) (b % 2) (omega arith))
    ∙ sym (minus-step a b)
  where
    clear : (x y : ℕ) → x < 2 → min x (1 - y) ≡ x - y
    clear x y h = omega arith
