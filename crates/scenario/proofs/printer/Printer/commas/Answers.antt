-- No element prints nothing; else the first decimal is printed, and the others after it.
use Rattle.std.proofs.Common.{◌∙◌, sym, arith}
use Rattle.std.proofs.lemmas.List.{nil_from_length}
use Rattle.scenario.proofs.Writing.{printed-none, printed-both, other_rows, rows_next, rows_end}
use Rattle.scenario.specs.Report.{commas_of}
use Rattle.scenario.proofs.printer.Printer.commas.Goals as goal

pub returns-in_default : goal.returns-in_default
unfolding commas_of
returns-in_default c = rw (nil_from_length c.args.l.now c.in_default.ensures.cases) (sym (printed-none c.args.self.now))

pub loop-n-preserved : goal.loop-n-preserved
loop-n-preserved c =
    rows_next other_rows c.loop-n.self _ _ c.in-Some.others.now c.loop-n.n-index _ c.from-in-loop-n.ensures
    (rw (c.number-in-loop-n.ensures, c.byte.ensures) (printed-both _ _ _))
    c.loop-n.invariant
    (omega arith)

pub returns : goal.returns
unfolding commas_of
returns c =
    rows_end other_rows _ _ c.in-Some.others.now c.loop-n.n-index c.loop-n.invariant (omega arith)
    ∙ rw (c.number.ensures, c.from.ensures, c.in-Some.ensures.cases.0) (printed-both _ _ _)
