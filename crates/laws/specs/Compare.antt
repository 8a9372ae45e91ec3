-- Two numbers compared, as a test and as what it tells, for proofs by cases in which the test itself is computed with.
use Rattle.std.specs.Prelude.{ℕ, ◌≡◌, refl, Bool, true, false, ◌≢◌, ◌==◌}
use Rattle.std.proofs.Common.{sym, ◌∙◌, true≢false, eqb-true, eq-eqb, ne_eqb}
use Rattle.std.proofs.lemmas.Bool.{eqb-false}

-- a test of two numbers with what it tells
pub data Cmp (i j : ℕ) : Bool → Type 0 where
  same : i ≡ j → Cmp i j true
  other : i ≢ j → Cmp i j false

pub cmp : (i j : ℕ) → Cmp i j (i == j)
cmp i j = go (i == j) refl
  where
    go : (b : Bool) → (i == j) ≡ b → Cmp i j b
    go true e = same (eqb-true i j e)
    go false e = other (eqb-false i j e)

pub eqb_same : (i : ℕ) → (i == i) ≡ true
eqb_same i = eq-eqb i i refl

pub eqb_other : {i j : ℕ} → i ≢ j → (i == j) ≡ false
eqb_other {i} {j} n = ne_eqb i j n

-- a test that comes out both ways proves anything
pub clash : {b : Bool} {A : Type 0} → b ≡ true → b ≡ false → A
clash p q = absurd (true≢false (sym p ∙ q))

-- what is not true is false
pub untrue : (b : Bool) → (b ≡ true → ⊥) → b ≡ false
untrue true h = absurd (h refl)
untrue false h = refl
