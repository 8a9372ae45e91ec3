use Rattle.std.proofs.Common.{arith}
use Rattle.text.specs.Written.{bytes}
use Rattle.scenario.proofs.Writing.{answer_rows, rows_next, rows_end}
use Rattle.scenario.proofs.printer.Printer.answers.Goals as goal

pub loop-a-preserved : goal.loop-a-preserved
unfolding bytes
loop-a-preserved c =
    rows_next answer_rows c.loop-a.self _ _ c.args.l.now c.loop-a.a-index _ c.from.ensures c.line.ensures c.loop-a.invariant
    (omega arith)

pub returns : goal.returns
returns c = rows_end answer_rows _ _ c.args.l.now c.loop-a.a-index c.loop-a.invariant (omega arith)
