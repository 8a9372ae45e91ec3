-- Lists by their places: what the definitions need besides the library's `slice_index_or` and `set`.
use Rattle.std.specs.Prelude.{Bool, true, false, cond, ◌&&◌, ◌||◌, List, [], ◌∷◌, ℕ, zero, suc, ◌+◌, ◌==◌}
use Rattle.sets.specs.Set.{has}

module _ {A : Type 0} where
  -- the list with f k x for each element x, where k is its place, the first place being i
  unfoldable pub each_from : ℕ → (ℕ → A → A) → List A → List A
  each_from i f [] = []
  each_from i f (x ∷ l) = f i x ∷ each_from (suc i) f l

  -- the list with f k x for each element x, where k is its place
  abbrev pub each : (ℕ → A → A) → List A → List A
  each f l = each_from 0 f l

  -- the list with v at each place that is in the set m
  abbrev pub store_at : ℕ → A → List A → List A
  store_at m v l = each (λ k x. cond (has m k) v x) l

  -- f i, f (i + 1), .. : n elements
  unfoldable pub table_from : ℕ → ℕ → (ℕ → A) → List A
  table_from i zero f = []
  table_from i (suc n) f = f i ∷ table_from (suc i) n f

  -- f 0, f 1, .. f (n - 1)
  abbrev pub table : ℕ → (ℕ → A) → List A
  table n f = table_from 0 n f

-- p holds of each number below n
unfoldable pub all_below : ℕ → (ℕ → Bool) → Bool
all_below zero p = true
all_below (suc n) p = all_below n p && p n

-- p holds of some number below n
unfoldable pub some_below : ℕ → (ℕ → Bool) → Bool
some_below zero p = false
some_below (suc n) p = some_below n p || p n

-- p holds of each element
unfoldable pub all_of : (ℕ → Bool) → List ℕ → Bool
all_of p [] = true
all_of p (x ∷ l) = p x && all_of p l

-- how often t stands in the list
unfoldable pub times : ℕ → List ℕ → ℕ
times t [] = 0
times t (x ∷ l) = cond (x == t) 1 0 + times t l
