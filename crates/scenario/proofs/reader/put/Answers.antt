-- A place that the list lacks is past the end, where a store changes nothing.
use Rattle.std.proofs.Common.{sym}
use lib.Seq.{set_out}
use Rattle.scenario.proofs.reader.put.Goals as goal

pub returns-else-k-list : goal.returns-else-k-list
returns-else-k-list c = sym (set_out _ _ _ c.if-k-list.false)
