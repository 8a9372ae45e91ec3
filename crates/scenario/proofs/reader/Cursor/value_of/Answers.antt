-- A key, a decimal and a line feed are a line with that value, and any other is read by its parts.
use Rattle.std.proofs.Common.{sym, ◌∙◌, rules}
use Rattle.scenario.proofs.Laws.{ahead_map, value_ahead}
use Rattle.scenario.proofs.reader.Cursor.value_of.Goals as goal

pub returns-in-Some : goal.returns-in-Some
returns-in-Some c = rw (c.with.ensures.0, c.with.ensures.1)
    (value_ahead _ _ _ _ _ (sym c.starts.ensures ∙ c.if-starts.true) c.requires c.in-Some.ensures)

pub returns : goal.returns
returns c = ahead_map (λ l h. search rules) (λ h. h) c.by_parts.ensures
