-- Each row is the definition's.
use Rattle.std.proofs.Common.{rules, tests}
use Rattle.rules.proofs.Made.{made}
use Rattle.rules.proofs.copied.started_rows.Goals as goal

pub returns : goal.returns
returns c = made _ _ _ _ (λ q j y l k. (search (rules, tests), search (rules, tests))) _ c.from_fn.ensures.items
