-- The library looks for the byte in the rest of the list.
use Rattle.std.proofs.Common.{◌∙◌, ⊎_elim, ◌==◌, arith, rules, tests}
use Rattle.std.proofs.lemmas.Iterator.{YieldsList-from_slice}
use Rattle.std.proofs.lemmas.Iterator.Search.{position_from_yields_List}
use Rattle.text.proofs.Steps.{found_is, sought_past, sought_from}
use Rattle.text.proofs.upto.Goals as goal

pub returns-in_default : goal.returns-in_default
returns-in_default c = sought_past _ _ _ (⊎_elim (λ h. h) (λ h. absurd (omega arith)) c.in_default.ensures.lookup.0)

pub returns : goal.returns
returns c =
    sought_from _ _ _ _ _ c.in-Some.ensures.lookup.0.0 c.in-Some.ensures.lookup.0.2
    (c.unwrap_or.ensures
    ∙ found_is _ _ _
    (position_from_yields_List (λ x. x == c.args.b) _ _ _ c.position.ensures.ran (YieldsList-from_slice c.in-Some.rest.now (cc))
    (λ x b q k. search (rules, tests))))
