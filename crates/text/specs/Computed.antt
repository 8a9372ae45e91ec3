-- What some lists of bytes are as decimals and as lines of seven, on both sides of each edge. The checker computes them.
use Rattle.std.specs.Prelude.{Option, Some, None, List, [], ◌∷◌, map, ◌≡◌, refl, ℕ}
use Rattle.text.specs.Decimal.{goes_on, number_of}
use Rattle.text.specs.Line.{parts, numbers_in, fields_by, fields_of}

-- bytes, and what they are
pub record Case (A : Type 0) : Type 0 where
  pub bytes : List ℕ
  pub result : A

abbrev pub case : {A : Type 0} → List ℕ → A → Case A
case l r = record { bytes = l; result = r }

-- in turn: 0, 00, 01, 7, 4294967295, 4294967296, 4294967299, 1000000000, 10000000000, no byte, +1, 1 and a space, a
-- space and 1, a letter, 1 and a letter, the bytes next to the digits
unfoldable pub cases : List (Case (Option ℕ))
cases =
    case (48 ∷ []) (Some 0)
    ∷ case (48 ∷ 48 ∷ []) None
    ∷ case (48 ∷ 49 ∷ []) None
    ∷ case (55 ∷ []) (Some 7)
    ∷ case (52 ∷ 50 ∷ 57 ∷ 52 ∷ 57 ∷ 54 ∷ 55 ∷ 50 ∷ 57 ∷ 53 ∷ []) (Some 4294967295)
    ∷ case (52 ∷ 50 ∷ 57 ∷ 52 ∷ 57 ∷ 54 ∷ 55 ∷ 50 ∷ 57 ∷ 54 ∷ []) None
    ∷ case (52 ∷ 50 ∷ 57 ∷ 52 ∷ 57 ∷ 54 ∷ 55 ∷ 50 ∷ 57 ∷ 57 ∷ []) None
    ∷ case (49 ∷ 48 ∷ 48 ∷ 48 ∷ 48 ∷ 48 ∷ 48 ∷ 48 ∷ 48 ∷ 48 ∷ []) (Some 1000000000)
    ∷ case (49 ∷ 48 ∷ 48 ∷ 48 ∷ 48 ∷ 48 ∷ 48 ∷ 48 ∷ 48 ∷ 48 ∷ 48 ∷ []) None
    ∷ case [] None
    ∷ case (43 ∷ 49 ∷ []) None
    ∷ case (49 ∷ 32 ∷ []) None
    ∷ case (32 ∷ 49 ∷ []) None
    ∷ case (97 ∷ []) None
    ∷ case (49 ∷ 97 ∷ []) None
    ∷ case (47 ∷ []) None
    ∷ case (58 ∷ []) None
    ∷ []

-- each is what stands beside it
pub computed : map (λ (c : Case (Option ℕ)). number_of c.bytes) cases ≡ map (λ (c : Case (Option ℕ)). c.result) cases
unfolding cases number_of goes_on
computed = refl

-- in turn: 1,2,3,4,5,6,10 and 1,2,3,4,5,6 and 1,2,3,4,5,6,7,8 and 1,2,3,4,5,6, and 1,2,3,4,5,6,7, and 1,2,,4,5,6,7 and no
-- byte
unfoldable pub lines : List (Case (Option (List ℕ)))
lines =
    case (49 ∷ 44 ∷ 50 ∷ 44 ∷ 51 ∷ 44 ∷ 52 ∷ 44 ∷ 53 ∷ 44 ∷ 54 ∷ 44 ∷ 49 ∷ 48 ∷ [])
    (Some (1 ∷ 2 ∷ 3 ∷ 4 ∷ 5 ∷ 6 ∷ 10 ∷ []))
    ∷ case (49 ∷ 44 ∷ 50 ∷ 44 ∷ 51 ∷ 44 ∷ 52 ∷ 44 ∷ 53 ∷ 44 ∷ 54 ∷ []) None
    ∷ case (49 ∷ 44 ∷ 50 ∷ 44 ∷ 51 ∷ 44 ∷ 52 ∷ 44 ∷ 53 ∷ 44 ∷ 54 ∷ 44 ∷ 55 ∷ 44 ∷ 56 ∷ []) None
    ∷ case (49 ∷ 44 ∷ 50 ∷ 44 ∷ 51 ∷ 44 ∷ 52 ∷ 44 ∷ 53 ∷ 44 ∷ 54 ∷ 44 ∷ []) None
    ∷ case (49 ∷ 44 ∷ 50 ∷ 44 ∷ 51 ∷ 44 ∷ 52 ∷ 44 ∷ 53 ∷ 44 ∷ 54 ∷ 44 ∷ 55 ∷ 44 ∷ []) None
    ∷ case (49 ∷ 44 ∷ 50 ∷ 44 ∷ 44 ∷ 52 ∷ 44 ∷ 53 ∷ 44 ∷ 54 ∷ 44 ∷ 55 ∷ []) None
    ∷ case [] None
    ∷ []

-- each has the values that stand beside it
pub lines_computed : map (λ (c : Case (Option (List ℕ))). fields_of c.bytes) lines ≡ map (λ (c : Case (Option (List ℕ))). c.result) lines
unfolding lines fields_of fields_by numbers_in parts number_of goes_on
lines_computed = refl
