use Rattle.std.proofs.Common.{◌≡◌, suc, ◌<◌, [], ◌∷◌, ◌++◌, length, take, ◌∙◌, arith, rules, length-append, length-take}
use Rattle.std.proofs.lemmas.List.{get_or-take}
use Rattle.std.proofs.lemmas.Slice.Zip.{zip_turn, zip_end}
use Rattle.protocol.specs.State.{no_row, no_place}
use Rattle.scenario.proofs.Writing.{sites_turn, sites_end}
use Rattle.scenario.proofs.printer.Printer.sites.Goals as goal

pub loop-row-preserved : goal.loop-row-preserved
loop-row-preserved c =
    let s = c.args.s.now in
    let k = length c.loop-row.yielded in
    let turn =
    zip_turn (take s.sites s.rows) (take s.sites s.places) c.loop-row.yielded c.into_iter-row-iterator.result
    c.loop-row.row-iterator c.next.new.self _
    (search rules)
    (search rules)
    c.loop-row.yielded_by _ c.in-Some.is c.next.ensures.steps in
    let below : k < s.sites = omega (arith, turn.0, length-take s.sites s.rows) in
    let next : length (c.loop-row.yielded ++ ((c.in-Some.row, c.in-Some.place) ∷ [])) ≡ suc k = omega (arith, length-append c.loop-row.yielded ((c.in-Some.row, c.in-Some.place) ∷ [])) in
    rw next
    (sites_turn s c.loop-row.self _ _ s.sites k _ _ (turn.2 no_row ∙ get_or-take s.sites s.rows k no_row below)
    (turn.3 no_place ∙ get_or-take s.sites s.places k no_place below)
    c.site.ensures c.loop-row.invariant below)

pub returns : goal.returns
returns c =
    let s = c.args.s.now in
    let end =
    zip_end (take s.sites s.rows) (take s.sites s.places) c.loop-row.yielded c.into_iter-row-iterator.result
    c.loop-row.row-iterator c.next.new.self _
    (search rules)
    (search rules)
    c.loop-row.yielded_by c.in-None.is c.next.ensures.steps in
    sites_end s c.loop-row.self _ s.sites _ c.loop-row.invariant
    (omega (arith, end, length-take s.sites s.rows, length-take s.sites s.places))
