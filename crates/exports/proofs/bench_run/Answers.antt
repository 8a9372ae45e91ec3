-- The run goes from the state of the setup.
use Rattle.std.proofs.Common.{◌∙◌}
use Rattle.exports.proofs.Answers.{begun, sent}
use Rattle.exports.proofs.bench_run.Goals as goal

pub returns : goal.returns
returns c =
    let args = c.args in
    let e = begun args.sites args.table.now c.entries_of.result c.setup_of-b.result c.entries_of.ensures c.setup_of-b.ensures in
    (c.unwrap_or.ensures ∙ sent _ _ _ c.run.result (rw e at c.run.ensures.0), rw e at c.run.ensures.1)
