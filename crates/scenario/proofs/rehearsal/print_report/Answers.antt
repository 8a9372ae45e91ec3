-- The text is too long, at fault, or of the form.
use Rattle.std.proofs.Common.{replicate, sym, ap, ◌∙◌, arith}
use Rattle.scenario.proofs.Laws.{line_near}
use Rattle.scenario.proofs.Rehearsed.{too_long, read_fault, read_whole}
use Rattle.scenario.specs.Put.{printed}
use Rattle.scenario.specs.declared.Reading.{Reading}
use Rattle.text.specs.Written.{bytes}
use Rattle.scenario.proofs.rehearsal.print_report.Goals as goal

pub returns-then-text-gt-MAX_TEXT : goal.returns-then-text-gt-MAX_TEXT
unfolding bytes
returns-then-text-gt-MAX_TEXT c =
    c.line.ensures ∙ ap (printed c.args.p.now) (too_long c.args.text.now c.if-text-gt-MAX_TEXT.true)

pub overflow_cast-m : goal.overflow_cast-m
overflow_cast-m c =
    omega (
      arith,
      ap (λ (m : Reading). m.line) c.read-m.ensures.0,
      line_near (replicate 64 0) (replicate 7168 0) c.args.text.now,
      c.if-text-gt-MAX_TEXT.false,
    )

pub returns-then-whole : goal.returns-then-whole
returns-then-whole c =
    let read = c.read-m in
    c.print_outcome.ensures
    ∙ ap (printed c.args.p.now)
    (read_whole c.args.text.now c.if-text-gt-MAX_TEXT.false read.result read.ensures.0 _ _ read.ensures.1
    read.ensures.2 (sym c.whole.ensures ∙ c.if-whole.true))

pub returns-else-whole : goal.returns-else-whole
unfolding bytes
returns-else-whole c =
    let read = c.read-m in
    c.line-else-whole.ensures
    ∙ ap (printed c.args.p.now)
    (read_fault c.args.text.now c.if-text-gt-MAX_TEXT.false read.result read.ensures.0
    (sym c.whole.ensures ∙ c.if-whole.false))
