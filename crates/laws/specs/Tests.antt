-- Tests: what is known when one has come out true or false.
use Rattle.std.specs.Prelude.{ℕ, ◌≡◌, refl, Bool, true, false, ◌&&◌, ◌||◌, ◌⊎◌, ◌==◌}
use Rattle.std.proofs.Common.{inl, inr, eqb-true}
use Rattle.std.proofs.lemmas.Bool.{eqb-false}

-- a test is true or false
pub data Test (b : Bool) : Type 0 where
  yes_so : b ≡ true → Test b
  not_so : b ≡ false → Test b

pub test : (b : Bool) → Test b
test true = yes_so refl
test false = not_so refl

-- two numbers are the same or not
pub data Same (j k : ℕ) : Type 0 where
  same : j ≡ k → Same j k
  other : (j ≡ k → ⊥) → Same j k

pub same? : (j k : ℕ) → Same j k
same? j k = go (test (j == k))
  where
    go : Test (j == k) → Same j k
    go (yes_so e) = same (eqb-true j k e)
    go (not_so e) = other (eqb-false j k e)

pub both : (a b : Bool) → a ≡ true → b ≡ true → a && b ≡ true
both true b p q = q
both false b p q = p

pub both_left : (a b : Bool) → a && b ≡ true → a ≡ true
both_left true b p = refl
both_left false b p = p

pub both_right : (a b : Bool) → a && b ≡ true → b ≡ true
both_right true b p = p
both_right false true p = refl
both_right false false p = p

pub either_left : (a b : Bool) → a || b ≡ false → a ≡ false
either_left true b p = p
either_left false b p = refl

pub either_right : (a b : Bool) → a || b ≡ false → b ≡ false
either_right true true p = p
either_right true false p = refl
either_right false b p = p

pub either : (a b : Bool) → a || b ≡ true → (a ≡ true) ⊎ (b ≡ true)
either true b p = inl refl
either false b p = inr p
