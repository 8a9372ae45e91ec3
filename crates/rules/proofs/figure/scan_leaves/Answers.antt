-- The sum fits, since a set has at most 32 members.
use Rattle.std.proofs.Common.{arith}
use Rattle.rules.proofs.Bounds.{few, few_times}
use Rattle.rules.proofs.figure.scan_leaves.Goals as goal

pub overflow_mul-result : goal.overflow_mul-result
overflow_mul-result c = omega (arith, few_times _ _ _ _ c.count.ensures c.count-2.ensures)

pub overflow_add-result : goal.overflow_add-result
overflow_add-result c =
    omega (
      arith,
      few_times _ _ _ _ c.count.ensures c.count-2.ensures,
      few _ _ c.count-3.ensures,
    )
