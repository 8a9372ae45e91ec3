-- Each entry is what the closure gives for its number.
use Rattle.std.proofs.Common.{◌+◌, ◌*◌, rules, slice_index_or}
use Rattle.scenario.proofs.Made.{made_table}
use Rattle.scenario.specs.Format.{entries_in}
use Rattle.scenario.proofs.reader.entries_of.Goals as goal

pub returns : goal.returns
unfolding entries_in
returns c =
    made_table _ _ (λ t. record { home = slice_index_or c.args.homes.now (2 * t) 0; priority = slice_index_or c.args.homes.now (2 * t + 1) 0 })
    (record { home = 0; priority = 0 })
    (λ i y q k. search rules)
    _
    _
    c.from_fn.ensures.items
