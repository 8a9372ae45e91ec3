-- Loops: where each kind of loop begins, what one turn does, and what it has done when it ends.
use Rattle.std.specs.Prelude.{nat_lt, slice_index_or}
use Prim.Native.Nat.{ℕ, zero, suc, ◌+◌, ◌≤◌, ◌<◌}
use mathlib.Core.Path.{◌≡◌, refl, sym, ap, ap₂, ◌∙◌, subst}
use mathlib.Core.Bool.{Bool, true, false, cond}
use mathlib.Core.List.{List, [], ◌∷◌}
use native.Mathlib.Nat.{le_antisymm}
use native.Mathlib.Numerals.{add-one}
use native.Mathlib.Omega.{arith}
use lib.ListN.{length, set, length-set}
use lib.Seq.{get_or-set_same, get_or-set_other, ext_get_or}
use borrow.Author.Tests.{lt-ltb, le-ltb, ltb-true, ltb-false}
use Rattle.sets.specs.Set.{has, none, is_empty, with, with_in, those}
use Rattle.sets.specs.Laws.{empty_none}
use Rattle.protocol.specs.Lists.{each_from, each, store_at}
use Rattle.laws.specs.Tests.{Test, yes_so, not_so, test, Same, same, other, same?}
use Rattle.laws.specs.Lists.{length-each, get_or-each}

-- a loop that counts to n has done what it does n times
pub ended : {A : Type 0} (f : ℕ → A) (w : A) (n k : ℕ) → n ≤ k → k ≤ n → w ≡ f n → w ≡ f k
ended f w n k g h p = subst (λ (j : ℕ). w ≡ f j) (le_antisymm g h) p

-- ---- a loop that writes each element anew, front to back

module _ {A : Type 0} (f : ℕ → A → A) where
  -- the first k elements are written
  abbrev pub each_to : ℕ → List A → List A
  each_to k l = each (λ j x. cond (nat_lt j k) (f j x) x) l

  at_written : (k : ℕ) (l : List A) (j : ℕ) (d : A) → j < length l → j < k → slice_index_or (each_to k l) j d ≡ f j (slice_index_or l j d)
  at_written k l j d h g = get_or-each _ l j d h ∙ rw (lt-ltb j k g)

  at_unwritten : (k : ℕ) (l : List A) (j : ℕ) (d : A) → j < length l → k ≤ j → slice_index_or (each_to k l) j d ≡ slice_index_or l j d
  at_unwritten k l j d h g = get_or-each _ l j d h ∙ rw (le-ltb j k g)

  pub each-length : (k : ℕ) (l w : List A) → w ≡ each_to k l → length w ≡ length l
  each-length k l w e = ap length e ∙ length-each _ l

  -- what the loop reads at its place is what stood there first
  pub each_read : (k : ℕ) (l w : List A) (d : A) → w ≡ each_to k l → k < length l → slice_index_or w k d ≡ slice_index_or l k d
  each_read k l w d e h = ap (λ (x : List A). slice_index_or x k d) e ∙ at_unwritten k l k d h (omega arith)

  pub each_begun : (d : A) (l : List A) → l ≡ each_to 0 l
  each_begun d l = ext_get_or d l (each_to 0 l) (sym (length-each _ l)) (λ j h. sym (at_unwritten 0 l j d h (omega arith)))

  -- where place k has been given f's element, one element more is written
  each_next : (d : A) (k : ℕ) (l w' : List A) → length w' ≡ length l → slice_index_or w' k d ≡ f k (slice_index_or l k d)
      → ((j : ℕ) → (j ≡ k → ⊥) → slice_index_or w' j d ≡ slice_index_or (each_to k l) j d) → w' ≡ each_to (k + 1) l
  each_next d k l w' n p q =
      ext_get_or d w' (each_to (k + 1) l) (n ∙ sym (length-each _ l)) (λ j g. go j (omega arith) (same? j k) (test (nat_lt j k)))
    where
      go : (j : ℕ) → j < length l → Same j k → Test (nat_lt j k) → slice_index_or w' j d ≡ slice_index_or (each_to (k + 1) l) j d
      go j g (same e) c =
          subst (λ (m : ℕ). slice_index_or w' m d ≡ slice_index_or (each_to (k + 1) l) m d) (sym e)
          (p ∙ sym (at_written (k + 1) l k d (omega arith) (omega arith)))
      go j g (other o) (yes_so b) =
          q j o ∙ at_written k l j d g (ltb-true j k b) ∙ sym (at_written (k + 1) l j d g (omega (arith, ltb-true j k b)))
      go j g (other o) (not_so b) =
          q j o ∙ at_unwritten k l j d g (ltb-false j k b) ∙ sym (at_unwritten (k + 1) l j d g (omega (arith, ltb-false j k b)))

  -- a turn that writes
  pub each_turned : (d : A) (k : ℕ) (l w : List A) (v : A) → w ≡ each_to k l → k < length l → v ≡ f k (slice_index_or l k d)
      → set w k v ≡ each_to (k + 1) l
  each_turned d k l w v e h p =
      let n : length w ≡ length l = each-length k l w e in
      each_next d k l (set w k v) (length-set w k v ∙ n) (get_or-set_same w k v d (omega arith) ∙ p)
      (λ j o. get_or-set_other w k j v d o ∙ ap (λ (x : List A). slice_index_or x j d) e)

  -- a turn that writes f of the element that stands there
  pub each_again : (d : A) (k : ℕ) (l w : List A) (v : A) → w ≡ each_to k l → k < length l → v ≡ f k (slice_index_or w k d)
      → set w k v ≡ each_to (k + 1) l
  each_again d k l w v e h p = each_turned d k l w v e h (p ∙ ap (f k) (each_read k l w d e h))

  -- a turn that leaves the element, as f does
  pub each_passed : (d : A) (k : ℕ) (l w : List A) → w ≡ each_to k l → k < length l → slice_index_or l k d ≡ f k (slice_index_or l k d)
      → w ≡ each_to (k + 1) l
  each_passed d k l w e h p =
      each_next d k l w (each-length k l w e) (each_read k l w d e h ∙ p) (λ j o. ap (λ (x : List A). slice_index_or x j d) e)

  pub each-ended : (d : A) (k : ℕ) (l w : List A) → w ≡ each_to k l → length l ≤ k → w ≡ each f l
  each-ended d k l w e h =
      e
      ∙ ext_get_or d (each_to k l) (each f l) (length-each _ l ∙ sym (length-each f l))
      (λ j g.
      let i : j < length l = subst (λ (m : ℕ). j < m) (length-each (λ j x. cond (nat_lt j k) (f j x) x) l) g in
      at_written k l j d i (omega arith) ∙ sym (get_or-each f l j d i))

-- where f leaves every element, so does the loop
pub from_same : {A : Type 0} (f : ℕ → A → A) → ((k : ℕ) (x : A) → f k x ≡ x) → (i : ℕ) (l : List A) → each_from i f l ≡ l
unfolding each_from
from_same f h i [] = refl
from_same f h i (x ∷ l) = ap₂ ◌∷◌ (h i x) (from_same f h (suc i) l)

-- .. as a store into no place does
pub stored-none : {A : Type 0} (m : ℕ) (v : A) (l : List A) → is_empty m ≡ true → l ≡ store_at m v l
stored-none m v l h = sym (from_same (λ k x. cond (has m k) v x) (λ k x. rw (empty_none m k h)) 0 l)

-- ---- a set of those that pass a test

pub those-none : (n : ℕ) (p : ℕ → Bool) → ((k : ℕ) → p k ≡ false) → those n p ≡ none
unfolding those
those-none zero p h = refl
those-none (suc n) p h = rw (h n) (those-none n p h)

module _ (p : ℕ → Bool) where
  -- a turn that adds k
  pub those_turned : (k w w' : ℕ) → k < 32 → w ≡ those k p → p k ≡ true → w' ≡ with w k → w' ≡ those (k + 1) p
  unfolding those with_in
  those_turned k w w' h e t q = rw (add-one k, t) (q ∙ rw (lt-ltb k 32 h, e))

  -- a turn that does not
  pub those_passed : (k w : ℕ) → w ≡ those k p → p k ≡ false → w ≡ those (k + 1) p
  unfolding those
  those_passed k w e t = rw (add-one k, t) e
