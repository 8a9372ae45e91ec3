-- The line feed ends a line, which is read, or the text ends.
use Rattle.std.proofs.Common.{refl, rules}
use Rattle.scenario.proofs.Laws.{ahead_line, ahead_rest}
use Rattle.scenario.proofs.reader.Cursor.by_parts.Goals as goal

pub returns-then-e-self : goal.returns-then-e-self
returns-then-e-self g c = ahead_rest _ _ _ c.args.self.now.inside c.line_feed-e.ensures.0 c.if-e-self.true refl

pub returns : goal.returns
returns g c =
    ahead_line _ _ _ c.args.self.now.inside c.line_feed-e.ensures.0 c.line_feed-e.ensures.1 c.if-e-self.false
    (search rules)
