-- The tests of the entries that were copied are those of the whole table, as no more are copied than there is room for.
use Rattle.std.proofs.Common.{rules, ◌≡◌, ◌∙◌, length, take}
use Rattle.protocol.specs.Check.{first_of}
use Rattle.protocol.specs.Setup.{homes_fine, priorities_differ}
use Rattle.protocol.specs.State.{txn_in}
use Rattle.rules.proofs.Ranges.{homes_of_first, priorities_of_first}
use Rattle.rules.proofs.copied.setup_refusal.Goals as goal

pub returns-in_err-demand-3 : goal.returns-in_err-demand-3
unfolding first_of
returns-in_err-demand-3 c =
    let n = c.args.n in
    let xs = c.args.s.now.txns in
    let whole : length (take n xs) ≡ n = search rules in
    let h : c.homes_fine.result ≡ homes_fine c.args.sites n (λ t. (txn_in xs t).home) = c.homes_fine.ensures ∙ homes_of_first n xs whole _ in
    search rules

pub returns : goal.returns
unfolding first_of
returns c =
    let n = c.args.n in
    let xs = c.args.s.now.txns in
    let whole : length (take n xs) ≡ n = search rules in
    let h : c.homes_fine.result ≡ homes_fine c.args.sites n (λ t. (txn_in xs t).home) = c.homes_fine.ensures ∙ homes_of_first n xs whole _ in
    let p : c.priorities_differ.result ≡ priorities_differ n (λ t. (txn_in xs t).priority) = c.priorities_differ.ensures ∙ priorities_of_first n xs whole in
    search rules
