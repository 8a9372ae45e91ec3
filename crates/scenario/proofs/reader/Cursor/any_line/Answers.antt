-- The line may be any.
use Rattle.scenario.proofs.Laws.{ahead_map}
use Rattle.scenario.proofs.reader.Cursor.any_line.Goals as goal

pub returns : goal.returns
returns c = ahead_map (λ l h. tt) (λ h. tt) c.by_parts.ensures
