-- Sums of n numbers, and how long a list of numbers below n is that holds no number twice: a list that lacks one is
-- shorter than n.
use Rattle.std.specs.Prelude.{ℕ, zero, suc, ◌+◌, ◌*◌, ◌≤◌, ◌<◌, ◌≡◌, refl, Bool, true, false, cond, List, [], ◌∷◌, length, ◌==◌, nat_lt}
use Rattle.std.proofs.Common.{sym, ap, ap₂, ◌∙◌, ⊎_elim, not-suc-le-zero, add-mul, arith, ltb-true, eq-eqb, ne_eqb}
use Rattle.protocol.specs.Lists.{all_of, times}
use Rattle.laws.specs.Tests.{both_left, both_right}
use Rattle.laws.specs.Lists.{below_suc}

-- f 0 + f 1 + .. + f (n - 1)
unfoldable pub total : ℕ → (ℕ → ℕ) → ℕ
total zero f = 0
total (suc n) f = total n f + f n

-- sums of 0, and of sums
pub total-zero : (n : ℕ) → total n (λ k. 0) ≡ 0
unfolding total
total-zero zero = refl
total-zero (suc n) = omega (arith, total-zero n)

pub total_add : (n : ℕ) (f g : ℕ → ℕ) → total n (λ k. f k + g k) ≡ total n f + total n g
unfolding total
total_add zero f g = refl
total_add (suc n) f g = omega (arith, total_add n f g)

-- two sums of the same numbers, and a sum of smaller ones
pub total_same : (n : ℕ) (f g : ℕ → ℕ) → ((k : ℕ) → k < n → f k ≡ g k) → total n f ≡ total n g
unfolding total
total_same zero f g h = refl
total_same (suc n) f g h = ap₂ ◌+◌ (total_same n f g (λ k l. h k (omega arith))) (h n (omega arith))

pub total_smaller : (n : ℕ) (f g : ℕ → ℕ) → ((k : ℕ) → k < n → f k ≤ g k) → total n f ≤ total n g
unfolding total
total_smaller zero f g h = omega arith
total_smaller (suc n) f g h = omega (arith, total_smaller n f g (λ k l. h k (omega arith)), h n (omega arith))

-- m for each number that passes a test
pub total_scaled : (n : ℕ) (b : ℕ → Bool) (m : ℕ) → total n (λ k. cond (b k) m 0) ≡ total n (λ k. cond (b k) 1 0) * m
unfolding total
total_scaled zero b m = omega arith
total_scaled (suc n) b m = go (b n) (total n (λ k. cond (b k) m 0)) (total n (λ k. cond (b k) 1 0)) (total_scaled n b m)
  where
    go : (d : Bool) (x y : ℕ) → x ≡ y * m → x + cond d m 0 ≡ (y + cond d 1 0) * m
    go true x y e = rw e (sym (add-mul y 1 m ∙ omega arith))
    go false x y e = rw e (omega arith)

-- x itself, counted among the numbers below n
total_past : (n x : ℕ) → n ≤ x → total n (λ k. cond (x == k) 1 0) ≡ 0
unfolding total
total_past zero x l = refl
total_past (suc n) x l = rw (ne_eqb x n (λ e. omega arith)) (omega (arith, total_past n x (omega arith)))

pub total_one : (n x : ℕ) → x < n → total n (λ k. cond (x == k) 1 0) ≡ 1
unfolding total
total_one zero x l = absurd (not-suc-le-zero l)
total_one (suc n) x l =
    ⊎_elim (λ e. rw (eq-eqb x n e) (omega (arith, total_past n x (omega arith))))
    (λ m. rw (ne_eqb x n (λ e. omega arith)) (omega (arith, total_one n x m))) (below_suc l)

-- the length is the sum of how often each number stands in the list
total-times : (n : ℕ) (l : List ℕ) → all_of (λ t. nat_lt t n) l ≡ true → total n (λ k. times k l) ≡ length l
unfolding all_of times
total-times n [] h = total-zero n
total-times n (x ∷ l) h =
    total_add n (λ k. cond (x == k) 1 0) (λ k. times k l)
    ∙ ap₂ ◌+◌ (total_one n x (ltb-true x n (both_left (nat_lt x n) _ h))) (total-times n l (both_right (nat_lt x n) _ h))
    ∙ omega arith

-- a sum of n numbers that are 0 or 1 is at most n, and less where one is 0
total_le : (n : ℕ) (f : ℕ → ℕ) → ((k : ℕ) → k < n → f k ≤ 1) → total n f ≤ n
unfolding total
total_le zero f h = omega arith
total_le (suc n) f h = omega (arith, total_le n f (λ k l. h k (omega arith)), h n (omega arith))

total_lt : (n : ℕ) (f : ℕ → ℕ) (t : ℕ) → ((k : ℕ) → k < n → f k ≤ 1) → t < n → f t ≡ 0 → total n f < n
unfolding total
total_lt zero f t h l e = absurd (not-suc-le-zero l)
total_lt (suc n) f t h l e =
    let rest : (k : ℕ) → k < n → f k ≤ 1 = λ k m. h k (omega arith) in
    ⊎_elim (λ same. omega (arith, total_le n f rest, ap f same))
    (λ m. omega (arith, total_lt n f t rest m e, h n (omega arith))) (below_suc l)

-- a list of numbers below n in which none stands twice, and t does not stand, is shorter than n
pub short_of : (n : ℕ) (l : List ℕ) (t : ℕ) → all_of (λ k. nat_lt k n) l ≡ true → ((k : ℕ) → k < n → times k l ≤ 1)
    → t < n → times t l ≡ 0 → length l < n
short_of n l t known once h e = omega (arith, total-times n l known, total_lt n (λ k. times k l) t once h e)
