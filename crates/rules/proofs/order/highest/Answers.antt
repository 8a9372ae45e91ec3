use Rattle.std.proofs.Common.{ℕ, ◌+◌, ◌<◌, Bool, true, false, cond, ◌&&◌, List, ◌≡◌, refl, sym, ◌∙◌, add-one, rules, arith, ne_eqb}
use Rattle.std.specs.Prelude.{Option, None, Some}
use Rattle.std.specs.Option.{unwrap_or, IfSome, MatchOption}
use Rattle.protocol.specs.Order.{outranks, higher_of, highest_below}
use Rattle.protocol.specs.State.{txn_in}
use Rattle.protocol.specs.declared.Txn.{Txn}
use Rattle.sets.specs.Set.{has}
use Rattle.rules.proofs.order.highest.Goals as goal
use Rattle.rules.proofs.order.highest.Goals.{then-has+then-is_none_or, else-has, else-has-via-then-has+else-is_none_or, else-has-via-else-has}

module _ (xs : List Txn) (q : ℕ) where
  -- b is the highest below u
  abbrev So : ℕ → Option ℕ → Type 0
  So u b = IfSome b (λ t. t < 32) × (unwrap_or b 32 ≡ highest_below u xs q)

  -- what the second test of a turn answers
  abbrev Asked : ℕ → Option ℕ → Bool → Type 0
  Asked u b r = MatchOption b (r ≡ true) (λ k. r ≡ outranks (txn_in xs u) (txn_in xs k))

  chosen : (u : ℕ) (b : Option ℕ) (r : Bool) → IfSome b (λ t. t < 32) → Asked u b r
      → higher_of xs q (unwrap_or b 32) u ≡ cond (has q u && r) u (unwrap_or b 32)
  unfolding higher_of
  chosen u None r l e = rw e refl
  chosen u (Some k) r l e = rw (ne_eqb k 32 (λ z. omega (arith, l, z)), e) refl

  takes : (u : ℕ) (b b' : Option ℕ) (r : Bool) → So u b → u < 32 → has q u ≡ true → Asked u b r → r ≡ true → b' ≡ Some u → So (u + 1) b'
  unfolding highest_below
  takes u b b' r i l h a t e = rw (e, add-one u, ← i.1, chosen u b r i.0 a, h, t) (l, refl)

  outranked : (u : ℕ) (b b' : Option ℕ) (r : Bool) → So u b → has q u ≡ true → Asked u b r → r ≡ false → b' ≡ b → So (u + 1) b'
  unfolding highest_below
  outranked u b b' r i h a t e = rw (e, add-one u, ← i.1, chosen u b r i.0 a, h, t) (i.0, refl)

  absent : (u : ℕ) (b b' : Option ℕ) → So u b → has q u ≡ false → b' ≡ b → So (u + 1) b'
  unfolding highest_below higher_of
  absent u b b' i h e = rw (e, add-one u, ← i.1, h) (i.0, refl)

pub loop-u-init : goal.loop-u-init
unfolding highest_below
loop-u-init c = (tt, refl)

pub loop-u-preserved : goal.loop-u-preserved
loop-u-preserved c =
    let h = sym c.has.ensures in
    elim c.if-has.branch [
      | then-has+then-is_none_or w ↦
          takes _ _ _ _ _ _ c.loop-u.invariant (omega arith) (h ∙ w.if-has.true) (search rules) w.if-is_none_or.true w.best-is
      | else-has w ↦ elim w.else-has.branch [
        | else-has-via-then-has+else-is_none_or w' ↦
            outranked _ _ _ _ _ _ c.loop-u.invariant (h ∙ w'.if-has.true) (search rules) w'.if-is_none_or.false w.best-is
        | else-has-via-else-has w' ↦ absent _ _ _ _ _ c.loop-u.invariant (h ∙ w'.if-has.false) w.best-is
      ]
    ]
