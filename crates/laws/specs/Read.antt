-- What is read of a changed list, or of a choice, is one of two things: what holds of both holds of it.
use Rattle.std.specs.Prelude.{ℕ, zero, suc, ◌≤◌, ◌<◌, ◌≡◌, refl, Bool, true, false, cond, ◌&&◌, List, [], ◌∷◌, length, set, ◌==◌, nat_lt, slice_index_or}
use Rattle.std.proofs.Common.{sym, ap, ◌∙◌, subst, ltb-true, ltb-false, eq-eqb, ne_eqb}
use Rattle.std.proofs.Math.Path.{fun_ext}
use Rattle.std.proofs.Math.ListN.{get_or-eq_default}
use Rattle.protocol.specs.Lists.{each}
use Rattle.laws.specs.Tests.{Test, yes_so, not_so, test, Same, same, other, same?}
use Rattle.laws.specs.Lists.{length-each, get_or-each, Stored, here, there, stored}

module _ {A : Type 0} (P : A → Type 0) where
  -- a choice is the one side or the other
  pub cond_keeps : (b : Bool) (x y : A) → (b ≡ true → P x) → (b ≡ false → P y) → P (cond b x y)
  cond_keeps true x y f g = f refl
  cond_keeps false x y f g = g refl

  -- a list with x stored at i gives at j what it gave, or x if j is i
  pub set_keeps : (l : List A) (i j : ℕ) (x d : A) → (j ≡ i → P x) → P (slice_index_or l j d) → P (slice_index_or (set l i x) j d)
  set_keeps [] i j x d f h = h
  set_keeps (y ∷ l) zero zero x d f h = f refl
  set_keeps (y ∷ l) zero (suc j) x d f h = h
  set_keeps (y ∷ l) (suc i) zero x d f h = h
  set_keeps (y ∷ l) (suc i) (suc j) x d f h = set_keeps l i j x d (λ e. f (ap suc e)) h

  -- a list with each element anew gives at j the new one, or past its end what it gave
  pub each_keeps : (f : ℕ → A → A) (l : List A) (j : ℕ) (d : A)
      → P (f j (slice_index_or l j d)) → P (slice_index_or l j d) → P (slice_index_or (each f l) j d)
  each_keeps f l j d g h = go (test (nat_lt j (length l)))
    where
      go : Test (nat_lt j (length l)) → P (slice_index_or (each f l) j d)
      go (yes_so e) = rw (get_or-each f l j d (ltb-true j (length l) e)) g
      go (not_so e) =
          let past : length l ≤ j = ltb-false j (length l) e in
          let new_past : length (each f l) ≤ j = rw length-each past in
          subst P (get_or-eq_default l d past ∙ sym (get_or-eq_default (each f l) d new_past)) h

  -- a list with some of its elements anew, those at the places k of which the test b holds
  pub some_keeps : (b : ℕ → Bool) (f : ℕ → A → A) (l : List A) (j : ℕ) (d : A)
      → (b j ≡ true → P (f j (slice_index_or l j d))) → P (slice_index_or l j d) → P (slice_index_or (each (λ k x. cond (b k) (f k x) x) l) j d)
  some_keeps b f l j d g h =
      each_keeps (λ k x. cond (b k) (f k x) x) l j d
      (cond_keeps (b j) (f j (slice_index_or l j d)) (slice_index_or l j d) g (λ e. h)) h

module _ {A : Type 0} where
  -- what is read, in one equation: of a list with x stored at i ..
  pub set_at : (l : List A) (i : ℕ) (x d : A) (j : ℕ) → i < length l
      → slice_index_or (set l i x) j d ≡ cond (j == i) x (slice_index_or l j d)
  set_at l i x d j h = go (stored l i j x d h)
    where
      go : Stored l i j x d → slice_index_or (set l i x) j d ≡ cond (j == i) x (slice_index_or l j d)
      go (here e g) = g ∙ rw (eq-eqb j i e)
      go (there n g) = g ∙ rw (ne_eqb j i n)

  -- .. where element i is what g true makes of it: every element is what g makes of it, by whether it is element i
  pub set_by : (l : List A) (i : ℕ) (d : A) (g : Bool → A → A) → i < length l → ((x : A) → g false x ≡ x)
      → ◌≡◌ {A = ℕ → A} (λ j. slice_index_or (set l i (g true (slice_index_or l i d))) j d) (λ j. g (j == i) (slice_index_or l j d))
  set_by l i d g h e = fun_ext (λ j. set_at l i (g true (slice_index_or l i d)) d j h ∙ go j (same? j i))
    where
      go : (j : ℕ) → Same j i → cond (j == i) (g true (slice_index_or l i d)) (slice_index_or l j d) ≡ g (j == i) (slice_index_or l j d)
      go j (same q) = rw (eq-eqb j i q, q)
      go j (other q) = rw (ne_eqb j i q) (sym (e (slice_index_or l j d)))

  -- .. and of a list with those elements anew that are at the places k of which the test b holds
  pub some_read : (b : ℕ → Bool) (f : ℕ → A → A) (l : List A) (k : ℕ) (d : A)
      → slice_index_or (each (λ k x. cond (b k) (f k x) x) l) k d ≡ cond (nat_lt k (length l) && b k) (f k (slice_index_or l k d)) (slice_index_or l k d)
  some_read b f l k d = go (test (nat_lt k (length l)))
    where
      new : List A
      new = each (λ k x. cond (b k) (f k x) x) l

      go : Test (nat_lt k (length l)) → slice_index_or new k d ≡ cond (nat_lt k (length l) && b k) (f k (slice_index_or l k d)) (slice_index_or l k d)
      go (yes_so e) = rw e (get_or-each (λ k x. cond (b k) (f k x) x) l k d (ltb-true k (length l) e))
      go (not_so e) =
          let past : length l ≤ k = ltb-false k (length l) e in
          let new_past : length new ≤ k = rw length-each past in
          rw e (get_or-eq_default new d new_past ∙ sym (get_or-eq_default l d past))
