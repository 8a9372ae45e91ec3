-- The order of priorities, strict and total on distinct ones, and the highest of a queue. The first three laws look
-- inside `outranks`; whatever else is said of the order rests on them alone.
use Prim.Native.Nat.{ℕ, zero, suc, ◌^◌, ◌≤◌, ◌<◌}
use Rattle.std.specs.Prelude.{◌≡◌, true, false, cond, ◌||◌, ◌⊎◌, List, ◌==◌, nat_lt}
use Rattle.std.proofs.Math.Path.{refl}
use Rattle.std.proofs.Common.{sym, ◌∙◌, subst, inl, inr, ⊎_elim, le_refl, not-suc-le-zero, arith, ltb-true, ltb-false, lt-ltb, le-ltb, eq-eqb, ne_eqb}
use Rattle.std.proofs.lemmas.Bool.{false≢true}
use Rattle.sets.specs.Set.{has, none}
use Rattle.sets.specs.Laws.{ext_in, has-none}
use Rattle.protocol.specs.State.{max_txns, txn_in}
use Rattle.protocol.specs.Order.{outranks, higher_of, highest_below, highest}
use Rattle.protocol.specs.declared.Txn.{Txn}
use Rattle.laws.specs.Tests.{Test, yes_so, not_so, test}
use Rattle.laws.specs.Lists.{below_suc}

-- ---- the order

-- nobody outranks itself
pub outranks_irreflexive : (x : Txn) → outranks x x ≡ false
unfolding outranks
outranks_irreflexive x = le-ltb x.priority x.priority (omega arith)

-- one who outranks another outranks all whom the other outranks
pub outranks_transitive : (x y z : Txn) → outranks x y ≡ true → outranks y z ≡ true → outranks x z ≡ true
unfolding outranks
outranks_transitive x y z p q = lt-ltb z.priority x.priority (omega (arith, ltb-true))

-- of two whose priorities differ, one outranks the other
pub outranks-total : (x y : Txn) → (x.priority ≡ y.priority → ⊥) → (outranks x y ≡ true) ⊎ (outranks y x ≡ true)
unfolding outranks
outranks-total x y n = go (test (nat_lt y.priority x.priority))
  where
    go : Test (nat_lt y.priority x.priority) → (outranks x y ≡ true) ⊎ (outranks y x ≡ true)
    go (yes_so h) = inl h
    go (not_so h) = inr (lt-ltb x.priority y.priority (omega (arith, ltb-false)))

-- whoever does not outrank y does not outrank one who does
pub outranks_behind : (x y z : Txn) → outranks x y ≡ true → outranks z y ≡ false → outranks z x ≡ false
outranks_behind x y z p n = go (test (outranks z x))
  where
    go : Test (outranks z x) → outranks z x ≡ false
    go (yes_so q) = absurd (false≢true (sym n ∙ outranks_transitive z x y q p))
    go (not_so q) = q

-- no two outrank each other
pub outranks_asymmetric : (x y : Txn) → outranks x y ≡ true → outranks y x ≡ false
outranks_asymmetric x y p = outranks_behind x y y p (outranks_irreflexive y)

-- ---- the highest of a queue

-- what holds of n and of each number below it
up_to : {P : ℕ → Type 0} (n : ℕ) → P n → ((k : ℕ) → k < n → P k) → (k : ℕ) → k < suc n → P k
up_to {P} n h f k l = ⊎_elim (λ e. subst P (sym e) h) (λ m. f k m) (below_suc l)

module _ (xs : List Txn) (q : ℕ) where
  -- r stands for nobody, and there is none in q below n; or it is one of them, whom no other of them outranks
  data Top (n r : ℕ) : Type 0 where
    nobody : r ≡ max_txns → ((k : ℕ) → k < n → has q k ≡ false) → Top n r
    somebody : r < n → has q r ≡ true → ((k : ℕ) → k < n → has q k ≡ true → outranks (txn_in xs k) (txn_in xs r) ≡ false) → Top n r

  -- n is not in q
  passed : (n r : ℕ) → has q n ≡ false → Top n r → Top (suc n) r
  passed n r h (nobody z f) = nobody z (up_to n h f)
  passed n r h (somebody l i f) = somebody (omega arith) i (up_to n (λ p. absurd (false≢true (sym h ∙ p))) f)

  -- n is in q
  joined : (n r : ℕ) → n < max_txns → has q n ≡ true → Top n r → Top (suc n) (cond (r == max_txns || outranks (txn_in xs n) (txn_in xs r)) n r)
  joined n r l h (nobody z f) =
      rw (eq-eqb r max_txns z)
      (somebody (omega arith) h
      (up_to n (λ p. outranks_irreflexive (txn_in xs n)) (λ k m p. absurd (false≢true (sym (f k m) ∙ p)))))
  joined n r l h (somebody m i f) = rw (ne_eqb r max_txns (λ z. omega arith)) (go (test (outranks (txn_in xs n) (txn_in xs r))))
    where
      go : Test (outranks (txn_in xs n) (txn_in xs r)) → Top (suc n) (cond (outranks (txn_in xs n) (txn_in xs r)) n r)
      go (yes_so o) =
          rw o (somebody (omega arith) h
          (up_to n (λ p. outranks_irreflexive (txn_in xs n)) (λ k b p. outranks_behind (txn_in xs n) (txn_in xs r) (txn_in xs k) o (f k b p))))
      go (not_so o) = rw o (somebody (omega arith) i (up_to n (λ p. o) f))

  -- the loop that finds the highest, after n of its turns
  top_below : (n : ℕ) → n ≤ max_txns → Top n (highest_below n xs q)
  unfolding highest_below higher_of
  top_below zero l = nobody refl (λ k m. absurd (not-suc-le-zero m))
  top_below (suc n) l = go (test (has q n)) (top_below n (omega arith))
    where
      go : Test (has q n) → Top n (highest_below n xs q) → Top (suc n) (higher_of xs q (highest_below n xs q) n)
      go (yes_so h) t = rw h (joined n (highest_below n xs q) l h t)
      go (not_so h) t = rw h (passed n (highest_below n xs q) h t)

  top : Top max_txns (highest xs q)
  top = top_below max_txns (le_refl max_txns)

  -- "The highest priority in the queue is taken first": it is one of the queue
  pub highest_in : q < 2 ^ 32 → (q ≡ 0 → ⊥) → (highest xs q < max_txns) × (has q (highest xs q) ≡ true)
  highest_in l n = go top
    where
      go : {r : ℕ} → Top max_txns r → (r < max_txns) × (has q r ≡ true)
      go (nobody z f) = absurd (n (ext_in max_txns q none l (omega arith) (λ k m. f k m ∙ sym (has-none k))))
      go (somebody m i f) = (m, i)

  -- what a member t of the queue knows of the one taken
  taken : (t : ℕ) → t < max_txns → has q t ≡ true
      → (highest xs q < max_txns) × (has q (highest xs q) ≡ true) × (outranks (txn_in xs t) (txn_in xs (highest xs q)) ≡ false)
  taken t l h = go top
    where
      go : {r : ℕ} → Top max_txns r → (r < max_txns) × (has q r ≡ true) × (outranks (txn_in xs t) (txn_in xs r) ≡ false)
      go (nobody z f) = absurd (false≢true (sym (f t l) ∙ h))
      go (somebody m i f) = (m, i, f t l h)

  -- nobody in the queue outranks the one taken
  pub highest_top : (t : ℕ) → t < max_txns → has q t ≡ true → outranks (txn_in xs t) (txn_in xs (highest xs q)) ≡ false
  highest_top t l h = (taken t l h).2

  -- where no two in the queue have one priority, the one taken outranks all others
  pub highest-first : ((t u : ℕ) → t < max_txns → u < max_txns → has q t ≡ true → has q u ≡ true → (t ≡ u → ⊥)
      → (txn_in xs t).priority ≡ (txn_in xs u).priority → ⊥)
      → (t : ℕ) → t < max_txns → has q t ≡ true → (t ≡ highest xs q → ⊥) → outranks (txn_in xs (highest xs q)) (txn_in xs t) ≡ true
  highest-first d t l h n =
      let k = taken t l h in
      ⊎_elim (λ p. absurd (false≢true (sym k.2 ∙ p))) (λ p. p)
      (outranks-total (txn_in xs t) (txn_in xs (highest xs q)) (d t (highest xs q) l k.0 h k.1 n))
