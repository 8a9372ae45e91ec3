-- The report is printed from the start, and has the room.
use Rattle.std.proofs.Common.{◌≡◌, length, ap, ◌∙◌, arith, rules}
use Rattle.std.proofs.Math.Seq.{length-sets}
use Rattle.std.proofs.lemmas.List.Edits.{sets}
use Rattle.scenario.proofs.Writing.{printed-all}
use Rattle.scenario.specs.Put.{printed}
use Rattle.scenario.specs.Report.{report_of}
use Rattle.scenario.specs.Room.{report_fits}
use Rattle.scenario.specs.declared.printer.Printer.{Printer}
use Rattle.scenario.proofs.rehearsal.write_report.Goals as goal

pub returns : goal.returns
returns c =
    let t = report_of c.args.text.now in
    let room = report_fits c.args.text.now in
    let e =
    c.print_report.ensures ∙ ap (λ (p : Printer). printed p t) c.new-printer.ensures
    ∙ printed-all _ t (omega (arith, room, c.requires)) in
    let n : c.length.result ≡ length t = c.length.ensures ∙ ap (λ (p : Printer). p.at) e ∙ omega arith in
    let o : _ ≡ sets c.args.out.now 0 t = search rules in
    record {
      within = omega (arith, n, ap length o, length-sets c.args.out.now 0 t, room, c.requires);
      length = n;
      bytes = o;
    }
