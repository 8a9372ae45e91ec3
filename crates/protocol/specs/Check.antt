-- 01, "Answer numbers": "Checks run in the order of the table", and the first number that applies is the answer.
use Rattle.std.specs.Prelude.{ℕ, Bool, cond, List, [], ◌∷◌}

-- a line of the table: the number, and whether it applies
pub record Check : Type 0 where
  pub number : ℕ
  pub applies : Bool

abbrev pub given : ℕ → Bool → Check
given n b = record { number = n; applies = b }

-- the first number that applies; 0, "done", where none does
unfoldable pub first_of : List Check → ℕ
first_of [] = 0
first_of (c ∷ l) = cond c.applies c.number (first_of l)
