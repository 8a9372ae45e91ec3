-- The checks in the code's order are those of the table: the number of the action, what is asked of every event, and
-- what the action itself asks.
use Rattle.std.specs.Prelude.{nat_lt, nat_le, slice_index_or}
use Prim.Native.Nat.{ℕ, suc, ◌-◌, ◌≤◌, ◌<◌}
use mathlib.Core.Path.{◌≡◌, refl, sym, ap, ◌∙◌, subst}
use mathlib.Core.Bool.{Bool, true, false, not, cond, ◌&&◌, ◌||◌, or-false}
use mathlib.Core.List.{List, [], ◌∷◌, ◌++◌}
use native.Mathlib.Omega.{arith}
use borrow.Author.Tests.{ltb-true, leb-true, not-false}
use Rattle.protocol.specs.Lists.{table, table_from}
use Rattle.protocol.specs.State.{at_home}
use Rattle.protocol.specs.Check.{Check, given, first_of}
use Rattle.protocol.specs.Answer.{action_of, no_action, no_site, no_transaction, ill_filled, anywhere, home_table, home_met, wrong_home, wrong_status, wrong_missing, message_there, no_message, lock_clash, no_scan, checks_in_range}
use Rattle.protocol.specs.declared.Event.{Event}
use Rattle.protocol.specs.declared.State.{State}
use Rattle.laws.specs.Enabled.{numbered}
use Rattle.laws.specs.Tests.{both_left, both_right}
use Rattle.laws.specs.Lists.{get_or-table}
use Rattle.rules.specs.Refusal.{misplaced_by, refusal_of}
use Rattle.rules.specs.Turn.{here_at, told_of}
use Rattle.rules.specs.declared.Told.{Told}

-- a known action has a number from 1 to 12
pub known_number : (e : Event) → no_action e ≡ false → (1 ≤ e.action) × (e.action ≤ 12)
unfolding no_action
known_number e h =
    let a : ℕ = e.action in
    let known = not-false (nat_le 1 a && nat_le a 12) h in
    (leb-true 1 a (both_left (nat_le 1 a) (nat_le a 12) known), leb-true a 12 (both_right (nat_le 1 a) (nat_le a 12) known))

-- what is the same for the actions 1 to 12 is the same for a known one
pub by_number : {A : Type 0} (e : Event) → no_action e ≡ false → (f g : ℕ → A) (d : A)
    → table 12 (λ k. f (suc k)) ≡ table 12 (λ k. g (suc k)) → f e.action ≡ g e.action
by_number {A} e h f g d p =
    let a : ℕ = e.action in
    let n = known_number e h in
    let back : suc (a - 1) ≡ a = omega arith in
    let l : a - 1 < 12 = omega arith in
    subst (λ (j : ℕ). f j ≡ g j) back
    (sym (get_or-table (λ j. f (suc j)) 12 (a - 1) d l) ∙ ap (λ (xs : List A). slice_index_or xs (a - 1) d) p
    ∙ get_or-table (λ j. g (suc j)) 12 (a - 1) d l)

-- where a number of the first list applies, the second is not looked at
first_stays : (l m : List Check) → (first_of l ≡ 0 → ⊥) → first_of (l ++ m) ≡ first_of l
unfolding first_of
first_stays [] m h = absurd (h refl)
first_stays (c ∷ l) m h = go c.applies (first_stays l m) h
  where
    go : (b : Bool) → ((first_of l ≡ 0 → ⊥) → first_of (l ++ m) ≡ first_of l) → (cond b c.number (first_of l) ≡ 0 → ⊥)
        → cond b c.number (first_of (l ++ m)) ≡ cond b c.number (first_of l)
    go true f h = refl
    go false f h = f h

-- where none of the numbers 3 to 6 is given, none of them applies
none-given : (a b c d : Bool) → first_of (given 3 a ∷ given 4 b ∷ given 5 c ∷ given 6 d ∷ []) ≡ 0
    → (a ≡ false) × (b ≡ false) × (c ≡ false) × (d ≡ false)
unfolding first_of
none-given false false false false h = (refl, refl, refl, refl)
none-given true b c d h = absurd (omega arith)
none-given false true c d h = absurd (omega arith)
none-given false false true d h = absurd (omega arith)
none-given false false false true h = absurd (omega arith)

cond-not : (b : Bool) (n m : ℕ) → cond (not b) n m ≡ cond b m n
cond-not true n m = refl
cond-not false n m = refl

or-not : (a b : Bool) → (a || not b) ≡ not (not a && b)
or-not true b = refl
or-not false b = refl

-- what is known once all that is asked of every event is well
module _ (sites n : ℕ) (b : Bool) (e : Event) (h : misplaced_by sites n b e ≡ 0) where
  well_placed : (not (nat_lt e.site sites) ≡ false) × (not (nat_lt e.txn n) ≡ false) × (ill_filled sites e ≡ false)
      × (not (home_met (slice_index_or home_table (e.action - 1) anywhere) b) ≡ false)
  well_placed = none-given _ _ _ _ h

  pub placed : (e.site < sites) × (e.txn < n)
  placed = (ltb-true _ _ (not-false _ well_placed.0), ltb-true _ _ (not-false _ well_placed.1))

-- what is asked of every event, and what the action itself asks, by the state
abbrev pub misplaced_in : State → Event → ℕ
misplaced_in s e = misplaced_by s.sites s.count (at_home s e.site e.txn) e

abbrev pub told_in : State → Event → Told
told_in s e = told_of e s.count s.txns e.site e.txn (here_at s e.site e.txn)

abbrev pub refusal_in : State → Event → ℕ
refusal_in s e = refusal_of (action_of e) (told_in s e).clash e.txn (here_at s e.site e.txn)

-- the checks that are made of every event, and those that the action itself makes
abbrev place_checks : State → Event → List Check
place_checks s e =
    given 3 (no_site s e)
    ∷ given 4 (no_transaction s e)
    ∷ given 5 (ill_filled s.sites e)
    ∷ given 6 (wrong_home s e)
    ∷ []

abbrev own_checks : State → Event → List Check
own_checks s e =
    given 7 (wrong_status s e)
    ∷ given 8 (wrong_missing s e)
    ∷ given 9 (no_message s e)
    ∷ given 10 (lock_clash s e)
    ∷ given 11 (no_scan s e)
    ∷ []

module _ (s : State) (e : Event) where
  pub refused_unknown : no_action e ≡ true → first_of (checks_in_range s e) ≡ 2
  unfolding checks_in_range first_of
  refused_unknown h = rw h

  pub refused_misplaced : no_action e ≡ false → (misplaced_in s e ≡ 0 → ⊥) → first_of (checks_in_range s e) ≡ misplaced_in s e
  unfolding checks_in_range no_site no_transaction wrong_home first_of
  refused_misplaced h n = rw h (first_stays (place_checks s e) (own_checks s e) n)

  abbrev checked : ℕ → ℕ
  checked a = first_of (own_checks s (numbered e a))

  abbrev refusing : ℕ → ℕ
  refusing a = refusal_in s (numbered e a)

  -- the two are one number for the actions 1 to 12, all of which are computed at once
  twelve : table 12 (λ k. checked (suc k)) ≡ table 12 (λ k. refusing (suc k))
  unfolding first_of wrong_status wrong_missing no_message message_there lock_clash no_scan action_of told_of table_from
  twelve = simp (cond-not, or-not, or-false)

  pub refused_by_action : no_action e ≡ false → misplaced_in s e ≡ 0
      → first_of (checks_in_range s e) ≡ refusal_in s e
  unfolding checks_in_range no_site no_transaction wrong_home first_of
  refused_by_action h m =
      let w = well_placed _ _ _ e m in
      rw (h, w.0, w.1, w.2, w.3) (by_number e h checked refusing 0 twelve)
