-- The text is of the form, or the line at fault is told, and the lists hold what was read.
use Rattle.exports.specs.Exported.{fault_line}
use Rattle.exports.proofs.bench_read.Goals as goal

pub returns-then-whole : goal.returns-then-whole
unfolding fault_line
returns-then-whole c =
    let read = c.read-m.ensures in
    (rw (← read.0, ← c.whole.ensures, c.if-whole.true), read.1, read.2)

pub returns-else-whole : goal.returns-else-whole
unfolding fault_line
returns-else-whole c =
    let read = c.read-m.ensures in
    (rw (← read.0, ← c.whole.ensures, c.if-whole.false), read.1, read.2)
