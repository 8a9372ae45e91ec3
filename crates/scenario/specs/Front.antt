-- What stands in a text at a place: a decimal and the byte that ends it, and the line of seven values.
use Rattle.std.specs.Prelude.{◌≡◌, ℕ, ◌<◌, ◌≤◌, Some, List, [], ◌∷◌, ◌++◌, length, drop}
use Rattle.text.specs.Decimal.{digits}
use Rattle.text.specs.Line.{before, fields_of}

-- from `at` on the text s is l, and then what it is from `next` on
pub record Front (s : List ℕ) (at : ℕ) (l : List ℕ) (next : ℕ) : Type 0 where
  pub split : drop at s ≡ l ++ drop next s

-- it is the decimal of v and a byte b
pub record NumberAt (s : List ℕ) (at b v next : ℕ) : Type 0 where
  pub small : v < 4294967296
  pub inside : next ≤ length s
  pub front : Front s at (digits v ++ (b ∷ [])) next

-- it is a line that has the values f, and a line feed
pub record FieldsAt (s : List ℕ) (at : ℕ) (f : List ℕ) (next : ℕ) : Type 0 where
  pub line : List ℕ
  pub inside : next ≤ length s
  pub front : Front s at (line ++ (10 ∷ [])) next
  pub lacks : before 10 line ≡ length line
  pub fields : fields_of line ≡ Some f
