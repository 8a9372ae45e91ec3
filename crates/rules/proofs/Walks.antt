-- Chains of iterators over the numbers below n, in the words of the definitions.
use Rattle.std.specs.Prelude.{ℕ, zero, suc, ◌+◌, ◌^◌, ◌≤◌, ◌<◌, Bool, true, false, ◌≡◌, [], ◌∷◌, ◌++◌, cond, List, Option}
use Rattle.std.specs.Fn.{Called, CalledAt}
use Rattle.std.specs.Iterator.{Drains, YieldsThen}
use Rattle.std.specs.Iterator.Adapters.{filter_source, filter_callee, filter_steps}
use Rattle.std.specs.List.{range_with_len, list_any, filter, fold, FoldsTo}
use Rattle.std.specs.Option.{MatchOption}
use Rattle.std.specs.declared.iter.Filter.{Filter}
use Rattle.std.specs.declared.ops.Range.{Range}
use Rattle.std.specs.Int.Bits.{bit_or}
use Rattle.std.proofs.iter.Yields.{nat_range_steps}
use Rattle.std.proofs.lemmas.Iterator.{YieldsList-from_range}
use Rattle.std.proofs.lemmas.Iterator.Search.{any_from_yields_List}
use Rattle.std.proofs.lemmas.Iterator.Consumers.{YieldsList-from_filter, fold_from_yields_List}
use Rattle.std.proofs.Common.{refl, ap, ◌∙◌, arith, lt-ltb, add-zero}
use Rattle.std.proofs.lemmas.List.Elements.{filter-append}
use Rattle.std.proofs.lemmas.List.Folds.{list_any-append}
use Rattle.std.proofs.lemmas.List.Sums.{fold-append}
use Rattle.std.proofs.Math.Bool.{or-false}
use denote.Param.Members.{Mut}
use denote.Ref.{Bor}
use Rattle.sets.specs.Set.{with, with_in, those}
use Rattle.protocol.specs.Lists.{some_below}

-- the last of n numbers from a on, and of those below n
last_from : (a n j : ℕ) → a + n ≡ j → range_with_len a (suc n) ≡ range_with_len a n ++ j ∷ []
last_from a zero j e = rw (← e, add-zero a)
last_from a (suc n) j e = ap (λ l. a ∷ l) (last_from (a + 1) n j (omega arith))

last : (n : ℕ) → range_with_len 0 (suc n) ≡ range_with_len 0 n ++ n ∷ []
last n = last_from 0 n n (omega arith)

module _ (p : ℕ → Bool) where
  any_below : (n : ℕ) → list_any p (range_with_len 0 n) ≡ some_below n p
  unfolding some_below
  any_below zero = refl
  any_below (suc n) =
      ap (list_any p) (last n) ∙ list_any-append p (range_with_len 0 n) (n ∷ []) ∙ rw (any_below n, or-false (p n))

  -- `any` over a range
  pub some_found : {F : Type 0} {g : Mut F (ℕ × Unit {0}) Bool} {f : F} {u : Range ℕ} (n : ℕ) (r : Bool)
      → ((xs : List ℕ) × (o : Option ℕ) × (e : F) × YieldsThen nat_range_steps (record { start = 0; end = n }) xs o u
      × FoldsTo (λ a x b. Called g a (x, tt) false b) f xs e
      × MatchOption o (r ≡ false) (λ x. (r ≡ true) × ((q : F) × Called g e (x, tt) true q)))
      → ((x : ℕ) (b : Bool) (q : F) → Called g f (x, tt) b q → (b ≡ p x) × (q ≡ f))
      → r ≡ some_below n p
  some_found n r ran tested =
      any_from_yields_List p _ _ r ran (YieldsList-from_range 0 n n refl (omega arith))
      (λ x b q k. ((tested x b q k).1, (tested x b q k).0))
      ∙ any_below n

  put_last : (n m : ℕ) → n < 32 → fold with m (filter p (n ∷ [])) ≡ cond (p n) (bit_or m (2 ^ n)) m
  unfolding with_in
  put_last n m h = go (p n)
    where
      go : (b : Bool) → fold with m (cond b (n ∷ []) []) ≡ cond b (bit_or m (2 ^ n)) m
      go true = rw (lt-ltb n 32 h)
      go false = refl

  fold_below : (n : ℕ) → n ≤ 32 → fold with 0 (filter p (range_with_len 0 n)) ≡ those n p
  unfolding those
  fold_below zero h = refl
  fold_below (suc n) h =
      ap (λ l. fold with 0 (filter p l)) (last n)
      ∙ ap (fold with 0) (filter-append p (range_with_len 0 n) (n ∷ []))
      ∙ fold-append with 0 (filter p (range_with_len 0 n)) (filter p (n ∷ []))
      ∙ ap (λ m. fold with m (filter p (n ∷ []))) (fold_below n (omega arith))
      ∙ put_last n (those n p) h

  -- a chain that puts into a set those of a range that pass a test
  pub those_found : {F G : Type 0} {g : Mut F (Bor ℕ × Unit {0}) Bool} {h : Mut G (ℕ × (ℕ × Unit {0})) ℕ} {f : F} {e : G}
      {s : Filter (Range ℕ) F} (n m : ℕ) → n ≤ 32
      → ((xs : List ℕ) × (q : G) × Drains (filter_steps nat_range_steps g) s xs
      × FoldsTo {P = G × ℕ} (λ a x b. Called h a.0 (a.1, (x, tt)) b.1 b.0) (e, 0) xs (q, m))
      → filter_source s ≡ record { start = 0; end = n } → filter_callee s ≡ f
      → ((x : ℕ) (b : Bool) (q : F) → CalledAt g f x b q → (b ≡ p x) × (q ≡ f))
      → ((a x b : ℕ) (q : G) → Called h e (a, (x, tt)) b q → (q ≡ e) × (b ≡ with a x))
      → m ≡ those n p
  those_found n m small ran source callee tested added =
      fold_from_yields_List _ with 0 m ran
      (YieldsList-from_filter _ p (YieldsList-from_range 0 n n source (omega arith)) callee
      (λ x b q k. ((tested x b q k).1, (tested x b q k).0)))
      added
      ∙ fold_below n small
