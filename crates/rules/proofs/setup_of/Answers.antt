-- The first n entries are a table; where n does not fit, the setup is refused as that of no entry is.
use Rattle.std.proofs.Common.{◌≡◌, ◌<◌, ◌∙◌, ap, arith, take, le-leb}
use Rattle.std.proofs.lemmas.Grind.{common_steps}
use Rattle.protocol.specs.Setup.{setup, setup_of}
use Rattle.protocol.specs.State.{max_txns}
use Rattle.rules.proofs.Fresh.{none_refused}
use Rattle.rules.proofs.setup_of.Goals as goal

pub returns-in-Some : goal.returns-in-Some
unfolding setup_of
returns-in-Some c =
    let p = c.in-Some.ensures.lookup.0 in
    let e : c.in-Some.table.now ≡ take c.args.n c.args.entries = grind (arith, common_steps, p.2) in
    rw (le-leb c.args.n max_txns (omega (arith, p.1))) (c.setup.ensures ∙ ap (setup c.args.sites) e)

pub returns-in-None : goal.returns-in-None
returns-in-None c =
    let many : max_txns < c.args.n = omega (arith, c.in-None.ensures.lookup.0) in
    c.setup-in-None.ensures ∙ none_refused c.args.sites c.args.n c.args.entries many
