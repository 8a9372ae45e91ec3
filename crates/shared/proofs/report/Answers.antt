-- The lent bytes have room for every report, so they begin with it.
use Rattle.std.proofs.Common.{◌≡◌, ℕ, List, length, take, Result, refl, sym, ap, ◌∙◌, arith, le-ltb}
use Rattle.std.proofs.Math.Seq.{sets-eq, take-append_seam}
use Rattle.std.specs.Result.{result_unwrap_or}
use Rattle.scenario.specs.Report.{report_room, report_of, reported, reported_in, Reported}
use Rattle.scenario.specs.Room.{report_fits}
use Rattle.scenario.specs.declared.ShortBuffer.{ShortBuffer}
use Rattle.shared.proofs.report.Goals as goal

begins : (t old : List ℕ) {o : List ℕ} {r : Result ℕ ShortBuffer} {n : ℕ} → length old ≡ report_room
    → Reported (report_of t) old r o → n ≡ result_unwrap_or r 0
    → (n ≡ length (report_of t)) × (take n o ≡ report_of t)
unfolding reported reported_in
begins t old room e u =
    let l = report_of t in
    let fits = le-ltb (length old) (length l) (omega (arith, report_fits t, room)) in
    rw (u, e.result, e.bytes, fits) (refl, rw (sets-eq l old 0 (omega (arith, report_fits t, room))) (take-append_seam l _))

pub slice_bounds-result-end : goal.slice_bounds-result-end
slice_bounds-result-end c =
    let b = begins c.args.text.now c.args.out.now c.told-out c.report.ensures c.unwrap_or-n.ensures in
    b.0 ∙ sym (ap length b.1)

pub returns : goal.returns
returns c = (begins c.args.text.now c.args.out.now c.told-out c.report.ensures c.unwrap_or-n.ensures).1
