-- All of the key is stored at once, or its bytes one by one.
use Rattle.std.proofs.Common.{arith}
use Rattle.scenario.proofs.Writing.{printed-copied}
use Rattle.scenario.proofs.printer.Printer.key.Goals as goal

pub returns-then-at-saturating_sub : goal.returns-then-at-saturating_sub
returns-then-at-saturating_sub c =
    printed-copied c.args.self.now c.args.key.now _ _ c.copy_from_slice.ensures.after (omega arith) (omega arith)
