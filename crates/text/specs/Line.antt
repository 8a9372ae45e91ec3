-- 01, "Scenario and report": "Key=value lines, each ended by one line feed", and "the seven fields and commas". A line
-- here is what stands before its line feed.
use Rattle.std.specs.Prelude.{Bool, true, false, cond, ◌&&◌, Option, Some, None, List, [], ◌∷◌, map, ℕ, suc, length, drop, ◌==◌}
use Rattle.std.specs.Option.{option_map}
use Rattle.text.specs.Decimal.{number_of}

-- how many bytes stand before the first b: all of them where there is none
unfoldable pub before : ℕ → List ℕ → ℕ
before b [] = 0
before b (x ∷ l) = cond (x == b) 0 (suc (before b l))

-- the parts with a byte x put in front: where x is the cut itself, a new part begins, and else x is in the first
abbrev pub cut : Bool → ℕ → List (List ℕ) → List (List ℕ)
cut true x ps = [] ∷ ps
cut false x [] = (x ∷ []) ∷ []
cut false x (p ∷ ps) = (x ∷ p) ∷ ps

-- the parts of a list between the bytes b: one more than there are such bytes
unfoldable pub parts : ℕ → List ℕ → List (List ℕ)
parts b [] = [] ∷ []
parts b (x ∷ l) = cut (x == b) x (parts b l)

-- the line starts with the key
unfoldable pub starts : List ℕ → List ℕ → Bool
starts [] l = true
starts (k ∷ key) [] = false
starts (k ∷ key) (x ∷ l) = x == k && starts key l

-- the value of a line that is the key and one decimal
unfoldable pub value_of : List ℕ → List ℕ → Option ℕ
value_of key l = cond (starts key l) (number_of (drop (length key) l)) None

-- the numbers of a list, where all of it are numbers
unfoldable pub numbers_in : List (Option ℕ) → Option (List ℕ)
numbers_in [] = Some []
numbers_in (None ∷ ns) = None
numbers_in (Some n ∷ ns) = option_map (λ l. n ∷ l) (numbers_in ns)

-- the values of seven numbers in their order; none where there are more or fewer, or where one is no number
unfoldable pub fields_by : List (Option ℕ) → Option (List ℕ)
fields_by ns = cond (length ns == 7) (numbers_in ns) None

-- the values of a line whose parts between the commas are seven decimals
unfoldable pub fields_of : List ℕ → Option (List ℕ)
fields_of l = fields_by (map number_of (parts 44 l))
