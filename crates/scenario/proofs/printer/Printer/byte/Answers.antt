-- The byte is stored where there is a place for it.
use Rattle.std.proofs.Common.{[], ◌∷◌, sym, arith}
use Rattle.scenario.proofs.Writing.{printed-all, printed-full}
use Rattle.scenario.proofs.printer.Printer.byte.Goals as goal

pub returns-then-at-self : goal.returns-then-at-self
returns-then-at-self c = sym (printed-all c.args.self.now (c.args.b ∷ []) (omega arith))

pub returns-else-at-self : goal.returns-else-at-self
returns-else-at-self c = printed-full c.args.self.now (c.args.b ∷ []) c.if-at-self.false
