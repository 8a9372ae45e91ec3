-- 2 ^ n - 1 has its first n digits set, and 2 ^ n is 1 shifted by n; from the width on all digits are set.
use Rattle.std.proofs.Common.{arith, le_of_lt, pow_pos}
use Rattle.sets.specs.Digits.{shl_one}
use Rattle.sets.specs.Set.{first_in}
use native.Mathlib.Nat.{min-eq_left, min-eq_right}
use Rattle.sets.proofs.first.Goals as goal

pub overflow_sub-result : goal.overflow_sub-result
overflow_sub-result c = omega (arith, shl_one 32 _ c.if-n-lt32.true, pow_pos c.args.n)

pub returns-then-n-lt32 : goal.returns-then-n-lt32
unfolding first_in
returns-then-n-lt32 c = rw (shl_one 32 c.args.n c.if-n-lt32.true, min-eq_left (le_of_lt c.if-n-lt32.true))

pub returns-else-n-lt32 : goal.returns-else-n-lt32
unfolding first_in
returns-else-n-lt32 c = rw (min-eq_right c.if-n-lt32.false)
