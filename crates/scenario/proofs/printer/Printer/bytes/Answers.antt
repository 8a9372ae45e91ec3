use Rattle.std.proofs.Common.{refl, arith}
use Rattle.scenario.proofs.Writing.{byte_rows, rows_next, rows_end}
use Rattle.scenario.proofs.printer.Printer.bytes.Goals as goal

pub loop-b-preserved : goal.loop-b-preserved
loop-b-preserved c =
    rows_next byte_rows c.loop-b.self _ _ c.args.s.now c.loop-b.b-index _ refl c.byte.ensures c.loop-b.invariant (omega arith)

pub returns : goal.returns
returns c = rows_end byte_rows _ _ c.args.s.now c.loop-b.b-index c.loop-b.invariant (omega arith)
