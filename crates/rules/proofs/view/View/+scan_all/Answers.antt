-- Where the queue has no highest its rest is empty and is left as it is; else the highest is taken.
use Rattle.std.proofs.Common.{ℕ, zero, suc, ◌^◌, ◌<◌, ◌≡◌, List, refl, sym, ◌∙◌, arith}
use Rattle.sets.specs.Laws.{has-none}
use Rattle.protocol.specs.Order.{higher_of, highest_below, highest}
use Rattle.protocol.specs.declared.Txn.{Txn}
use Rattle.laws.specs.Order.{highest_in}
use Rattle.laws.specs.Scan.{scan_falls, scan-nothing, scan-more}
use Rattle.laws.specs.Tests.{Same, same, other, same?}
use Rattle.rules.proofs.view.View.+scan_all.Goals as goal

highest-none : (n : ℕ) (xs : List Txn) → highest_below n xs 0 ≡ 32
unfolding highest_below higher_of
highest-none zero xs = refl
highest-none (suc n) xs = rw (has-none n) (highest-none n xs)

-- a rest that has a highest is not empty
some : (xs : List Txn) (rest t : ℕ) → t ≡ highest xs rest → t < 32 → rest ≡ 0 → ⊥
some xs rest t h l e = omega (arith, l, rw e at h ∙ highest-none 32 xs)

-- .. and one that has none is
nothing : (xs : List Txn) (rest : ℕ) → rest < 2 ^ 32 → 32 ≡ highest xs rest → rest ≡ 0
nothing xs rest l h = go (same? rest 0)
  where
    go : Same rest 0 → rest ≡ 0
    go (same e) = e
    go (other o) = omega (arith, h, (highest_in xs rest l o).0)

pub scan_all-requires : goal.scan_all-requires
scan_all-requires t c =
    let v = c.args.self.now in
    let h = c.in-Some.ensures in
    let f = scan_falls v.count v.txns.now v.site c.args.c (omega (arith, c.well_formed)) (some _ _ _ h.is h.below) in
    (rw (← c.decreases, c.scan_one.ensures, c.at.ensures, h.is) (omega (arith, f)), tt)

pub returns-in_default : goal.returns-in_default
returns-in_default t c =
    sym (scan-nothing _ _ _ _ (nothing _ _ (omega (arith, c.well_formed)) c.in_default.ensures.is))

pub returns : goal.returns
returns t c =
    let h = c.in-Some.ensures in
    rw (c.scan_all.ensures, c.scan_one.ensures, c.at.ensures, h.is) (sym (scan-more _ _ _ _ (omega (arith, c.well_formed)) (some _ _ _ h.is h.below)))
