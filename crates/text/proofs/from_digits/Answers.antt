use Rattle.std.proofs.Common.{refl, ◌∙◌, arith}
use Rattle.text.proofs.Steps.{digit_none, digit_more, digits_ended}
use Rattle.text.proofs.from_digits.Goals as goal

pub loop-b-init : goal.loop-b-init
loop-b-init c = record { so_far = refl }

pub returns-in_err-v : goal.returns-in_err-v
returns-in_err-v c = c.from_residual.ensures ∙ digit_none c.loop-b.invariant (omega arith) c.in_err-v.ensures

pub loop-b-preserved : goal.loop-b-preserved
loop-b-preserved c = digit_more c.loop-b.invariant (omega arith) c.in_ok-v.ensures

pub returns : goal.returns
returns c = digits_ended c.loop-b.invariant (omega arith)
