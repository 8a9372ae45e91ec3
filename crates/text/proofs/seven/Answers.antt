use Rattle.std.proofs.Common.{◌==◌, ◌∙◌, refl, arith, rules, tests, of_calls}
use Rattle.std.proofs.lemmas.Iterator.Splits.{YieldsList-from_slice_split}
use Rattle.text.specs.Line.{parts}
use Rattle.text.proofs.Steps.{parts_are, too_few, seven_read, part_not, part_more, too_many}
use Rattle.text.proofs.seven.Goals as goal

pub loop-v-init : goal.loop-v-init
loop-v-init c = record {
  callable = search of_calls;
  finite = tt;
  values = record {
    size = refl;
    left = parts 44 c.args.s.now;
    yields = rw (← parts_are 44 c.args.s.now)
        (YieldsList-from_slice_split _ (λ x. x == 44) c.args.s.now c.split-parts.ensures.rest c.split-parts.ensures.done c.split-parts.ensures.closure
        (λ x b q k. search (rules, tests)));
    so_far = refl;
  };
}

pub returns-in_err-next : goal.returns-in_err-next
returns-in_err-next c =
    c.from_residual.ensures
    ∙ too_few _ _ {q = c.next.new.self} c.loop-v.invariant.values (omega arith) c.in_err-next.ensures.steps

pub returns-in_err-v : goal.returns-in_err-v
returns-in_err-v c =
    c.from_residual-in_err-v.ensures
    ∙ part_not _ _ {q = c.next.new.self} c.loop-v.invariant.values {x = c.in_ok-next.field-0} c.in_ok-next.ensures.steps c.in_err-v.ensures

pub loop-v-preserved : goal.loop-v-preserved
loop-v-preserved c = record {
  callable = search of_calls;
  finite = tt;
  values = part_more _ _ c.loop-v.invariant.values {x = c.in_ok-next.field-0} c.in_ok-next.ensures.steps (omega arith) c.in_ok-v.ensures;
}

pub returns-in-Some : goal.returns-in-Some
returns-in-Some c = too_many _ _ {q = c.next-2.new.self} c.loop-v.invariant.values {x = c.in-Some.field-0} c.in-Some.ensures.steps (omega arith)

pub returns-in-None : goal.returns-in-None
returns-in-None c = seven_read _ _ {q = c.next-2.new.self} c.loop-v.invariant.values (omega arith) c.in-None.ensures.steps
