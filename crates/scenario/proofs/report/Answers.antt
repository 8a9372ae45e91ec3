-- Every report fits where there is the room that always suffices.
use Rattle.std.proofs.Common.{arith}
use Rattle.scenario.proofs.Rehearsed.{stored}
use Rattle.scenario.specs.Room.{report_fits}
use Rattle.scenario.specs.Report.{report_of}
use Rattle.scenario.proofs.report.Goals as goal

pub returns : goal.returns
returns c =
    let write = c.write_report.ensures in
    stored (report_of c.args.text.now) c.args.out.now write.length write.bytes
    (omega (arith, write.length, report_fits c.args.text.now, c.if-out-lt-REPORT_ROOM.false))
