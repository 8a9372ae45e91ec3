-- The key, seven decimals and a line feed are a line with that event, and any other is read by its parts.
use Rattle.std.proofs.Common.{sym, ap, ◌∙◌}
use Rattle.scenario.proofs.Laws.{ahead_map, event_ahead}
use Rattle.scenario.specs.Format.{event_of}
use Rattle.text.specs.Written.{bytes}
use Rattle.scenario.proofs.reader.Cursor.event_at.Goals as goal

pub returns-in-Some : goal.returns-in-Some
unfolding bytes
returns-in-Some c = rw (c.with.ensures.0, c.with.ensures.1)
    (event_ahead _ _ _ _ (sym c.starts.ensures ∙ c.if-starts.true) c.in-Some.ensures)

pub returns : goal.returns
returns c = ahead_map (λ l h. h.says.met ∙ ap event_of h.shows) (λ h. h) c.by_parts.ensures
