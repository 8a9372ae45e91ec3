-- The laws of the definitions on lists and on numbers below n.
use Prim.Native.Nat.{ℕ, zero, suc, ◌+◌, ◌<◌}
use Rattle.std.specs.Prelude.{◌≡◌, Bool, true, false, cond, ◌&&◌, ◌||◌, ◌⊎◌, length, set, slice_index_or, ◌==◌}
use Rattle.std.proofs.Math.Path.{refl, sym, ap}
use Rattle.std.proofs.Common.{ap₂, ◌∙◌, subst, ⊎_elim, not-suc-le-zero, le_of_suc-le-suc, eq-or-lt_of_le, add-zero, suc-add, add-suc, zero-add, lt-suc_self, add_assoc, arith, get_or-set_same, get_or-set_other}
use Rattle.std.proofs.Math.Bool.{or-true}
use Rattle.std.proofs.lemmas.Bool.{false≢true}
use mathlib.Core.List.{List, [], ◌∷◌, ◌++◌}
use Rattle.protocol.specs.Lists.{each_from, each, table_from, table, all_below, some_below, all_of, times}
use Rattle.laws.specs.Tests.{both, both_left, both_right, either, either_left, either_right, Same, same, other, same?}

-- a number below suc n is n or below n
pub below_suc : {n k : ℕ} → k < suc n → (k ≡ n) ⊎ (k < n)
below_suc h = eq-or-lt_of_le (le_of_suc-le-suc h)

-- ---- each element anew

module _ {A : Type 0} (f : ℕ → A → A) where
  length_from : (i : ℕ) (l : List A) → length (each_from i f l) ≡ length l
  unfolding each_from
  length_from i [] = refl
  length_from i (x ∷ l) = ap suc (length_from (suc i) l)

  get_or-from : (i : ℕ) (l : List A) (k : ℕ) (d : A) → k < length l → slice_index_or (each_from i f l) k d ≡ f (i + k) (slice_index_or l k d)
  unfolding each_from
  get_or-from i [] k d h = absurd (not-suc-le-zero h)
  get_or-from i (x ∷ l) zero d h = ap (λ (j : ℕ). f j x) (sym (add-zero i))
  get_or-from i (x ∷ l) (suc k) d h =
      get_or-from (suc i) l k d (le_of_suc-le-suc h) ∙ ap (λ (j : ℕ). f j (slice_index_or l k d)) (suc-add i k ∙ sym (add-suc i k))

  pub length-each : (l : List A) → length (each f l) ≡ length l
  length-each l = length_from 0 l

  pub get_or-each : (l : List A) (k : ℕ) (d : A) → k < length l → slice_index_or (each f l) k d ≡ f k (slice_index_or l k d)
  get_or-each l k d h = get_or-from 0 l k d h ∙ ap (λ (j : ℕ). f j (slice_index_or l k d)) (zero-add k)

-- ---- a list made from a function

module _ {A : Type 0} (f : ℕ → A) where
  length-table_from : (i n : ℕ) → length (table_from i n f) ≡ n
  unfolding table_from
  length-table_from i zero = refl
  length-table_from i (suc n) = ap suc (length-table_from (suc i) n)

  get_or-table_from : (i n k : ℕ) (d : A) → k < n → slice_index_or (table_from i n f) k d ≡ f (i + k)
  unfolding table_from
  get_or-table_from i zero k d h = absurd (not-suc-le-zero h)
  get_or-table_from i (suc n) zero d h = ap f (sym (add-zero i))
  get_or-table_from i (suc n) (suc k) d h =
      get_or-table_from (suc i) n k d (le_of_suc-le-suc h) ∙ ap f (suc-add i k ∙ sym (add-suc i k))

  pub length-table : (n : ℕ) → length (table n f) ≡ n
  length-table n = length-table_from 0 n

  pub get_or-table : (n k : ℕ) (d : A) → k < n → slice_index_or (table n f) k d ≡ f k
  get_or-table n k d h = get_or-table_from 0 n k d h ∙ ap f (zero-add k)

-- ---- one element anew

module _ {A : Type 0} where
  -- what a list with x stored at i gives at j: x or what it gave
  pub data Stored (l : List A) (i j : ℕ) (x d : A) : Type 0 where
    here : j ≡ i → slice_index_or (set l i x) j d ≡ x → Stored l i j x d
    there : (j ≡ i → ⊥) → slice_index_or (set l i x) j d ≡ slice_index_or l j d → Stored l i j x d

  pub stored : (l : List A) (i j : ℕ) (x d : A) → i < length l → Stored l i j x d
  stored l i j x d h = go (same? j i)
    where
      go : Same j i → Stored l i j x d
      go (same e) = here e (subst (λ (k : ℕ). slice_index_or (set l i x) k d ≡ x) (sym e) (get_or-set_same l i x d h))
      go (other n) = there n (get_or-set_other l i j x d n)

-- ---- all below n, some below n

pub all_at : (n : ℕ) (p : ℕ → Bool) (k : ℕ) → all_below n p ≡ true → k < n → p k ≡ true
unfolding all_below
all_at zero p k h l = absurd (not-suc-le-zero l)
all_at (suc n) p k h l =
    ⊎_elim (λ e. subst (λ (j : ℕ). p j ≡ true) (sym e) (both_right (all_below n p) (p n) h))
    (λ m. all_at n p k (both_left (all_below n p) (p n) h) m) (below_suc l)

pub all_by : (n : ℕ) (p : ℕ → Bool) → ((k : ℕ) → k < n → p k ≡ true) → all_below n p ≡ true
unfolding all_below
all_by zero p f = refl
all_by (suc n) p f = both (all_below n p) (p n) (all_by n p (λ k l. f k (omega arith))) (f n (lt-suc_self n))

-- two tests that agree below n come out alike
pub all_same : (n : ℕ) (p q : ℕ → Bool) → ((k : ℕ) → k < n → p k ≡ q k) → all_below n p ≡ all_below n q
unfolding all_below
all_same zero p q f = refl
all_same (suc n) p q f = ap₂ ◌&&◌ (all_same n p q (λ k l. f k (omega arith))) (f n (lt-suc_self n))

pub some_at : (n : ℕ) (p : ℕ → Bool) (k : ℕ) → k < n → p k ≡ true → some_below n p ≡ true
unfolding some_below
some_at zero p k l h = absurd (not-suc-le-zero l)
some_at (suc n) p k l h =
    ⊎_elim (λ e. ap (λ (b : Bool). some_below n p || b) (subst (λ (j : ℕ). p j ≡ true) e h) ∙ or-true (some_below n p))
    (λ m. ap (λ (b : Bool). b || p n) (some_at n p k m h)) (below_suc l)

pub some_none : (n : ℕ) (p : ℕ → Bool) (k : ℕ) → some_below n p ≡ false → k < n → p k ≡ false
unfolding some_below
some_none zero p k h l = absurd (not-suc-le-zero l)
some_none (suc n) p k h l =
    ⊎_elim (λ e. subst (λ (j : ℕ). p j ≡ false) (sym e) (either_right (some_below n p) (p n) h))
    (λ m. some_none n p k (either_left (some_below n p) (p n) h) m) (below_suc l)

pub some_out : (n : ℕ) (p : ℕ → Bool) → some_below n p ≡ true → (k : ℕ) × (k < n) × (p k ≡ true)
unfolding some_below
some_out zero p h = absurd (false≢true h)
some_out (suc n) p h =
    ⊎_elim (λ e. let r = some_out n p e in (r.0, omega (arith, r.1), r.2)) (λ e. (n, lt-suc_self n, e))
    (either (some_below n p) (p n) h)

-- ---- what stands in a list

pub all_append : (p : ℕ → Bool) (l m : List ℕ) → all_of p l ≡ true → all_of p m ≡ true → all_of p (l ++ m) ≡ true
unfolding all_of
all_append p [] m g h = h
all_append p (x ∷ l) m g h =
    both (p x) (all_of p (l ++ m)) (both_left (p x) (all_of p l) g)
    (all_append p l m (both_right (p x) (all_of p l) g) h)

pub times-append : (t : ℕ) (l m : List ℕ) → times t (l ++ m) ≡ times t l + times t m
unfolding times
times-append t [] m = sym (zero-add (times t m))
times-append t (x ∷ l) m =
    ap (λ (n : ℕ). cond (x == t) 1 0 + n) (times-append t l m)
    ∙ sym (add_assoc (cond (x == t) 1 0) (times t l) (times t m))
