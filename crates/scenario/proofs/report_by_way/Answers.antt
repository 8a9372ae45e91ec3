-- The report is written into bytes of its own, whose first then go into the lent ones where those have the room.
use Rattle.std.proofs.Common.{◌∙◌, arith, replicate}
use Rattle.scenario.proofs.Rehearsed.{short, stored, first, copied}
use Rattle.scenario.specs.Room.{report_fits}
use Rattle.scenario.specs.Report.{report_of}
use Rattle.scenario.proofs.report_by_way.Goals as goal

pub returns-then-out-n : goal.returns-then-out-n
returns-then-out-n c = short (report_of c.args.text.now) c.args.out.now c.write_report-n.ensures.length c.if-out-n.true

pub returns : goal.returns
returns c =
    let t = report_of c.args.text.now in
    let write = c.write_report-n.ensures in
    let report = first t (replicate 24576 0) write.length write.bytes (omega (arith, write.length, report_fits c.args.text.now)) in
    stored t c.args.out.now write.length
    (copied t c.args.out.now write.length (c.copy_from_slice.ensures.after ∙ report) c.if-out-n.false) c.if-out-n.false
