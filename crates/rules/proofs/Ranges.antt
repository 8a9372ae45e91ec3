-- Chains that test each number of a range or each element of a slice, as the definitions over the numbers below n say it.
use Rattle.std.specs.Prelude.{slice_index_or, nat_lt, Option}
use Rattle.std.specs.List.{list_all, range_with_len, enumerate_from, filter, FoldsTo}
use Rattle.std.specs.Iterator.{YieldsThen}
use Rattle.std.specs.declared.iter.Enumerate.{Enumerate}
use Rattle.std.specs.declared.slice.Iter.{Iter}
use Rattle.std.specs.Iterator.Adapters.{enumerate_source, enumerate_count, enumerate_steps}
use Rattle.std.specs.Fn.{Called}
use Rattle.std.specs.Option.{MatchOption}
use Rattle.std.specs.Slice.Iter.{iter_rest}
use Rattle.std.proofs.Common.{◌≡◌, refl, sym, ap, ap₂, ◌∙◌, Bool, true, false, not, cond, ◌&&◌, ◌||◌, List, [], ◌∷◌, ℕ, zero, suc, ◌+◌, ◌==◌, ◌≤◌, ◌<◌, add-one, zero-add, arith, length, take, Bor}
use Rattle.std.proofs.Math.Seq.{take-length}
use Rattle.std.proofs.iter.Yields.{fronts, nat_range_steps}
use Rattle.std.proofs.lemmas.Iterator.{YieldsList-from_range, YieldsList-from_slice}
use Rattle.std.proofs.lemmas.Iterator.Consumers.{YieldsList-from_enumerate}
use Rattle.std.proofs.lemmas.Iterator.Search.{all_from_yields_List}
use Rattle.std.proofs.lemmas.List.{get_or-take}
use Rattle.std.proofs.lemmas.List.Folds.{list_all_more}
use Rattle.std.proofs.lemmas.List.FromFn.{get_or-range_with_len, length-range_with_len, get_or-enumerate_from, length-enumerate_from}
use denote.Param.Members.{Mut}
use Rattle.protocol.specs.Lists.{all_below, all_of, times}
use Rattle.protocol.specs.Range.{within, txn_fine, statuses_fine, channel_fine, versions_fine, queue_fine, log_fine, site_fine, table_fine, in_range}
use Rattle.protocol.specs.Setup.{sites_fine, count_fine, homes_fine, priorities_differ}
use Rattle.protocol.specs.State.{idle, no_txn, txn_in, status_in, row_at, place_at}
use Rattle.protocol.specs.declared.Place.{Place}
use Rattle.protocol.specs.declared.Row.{Row}
use Rattle.protocol.specs.declared.State.{State}
use Rattle.protocol.specs.declared.Txn.{Txn}
use Rattle.sets.specs.Set.{has}
use Rattle.laws.specs.Lists.{all_same}

module _ {A : Type 0} (d : A) (p : A → Bool) (q : ℕ → Bool) where
  -- the first n elements of a list pass one test where the numbers below n pass another that agrees with it
  pub first_pass : (n : ℕ) (l : List A) → n ≤ length l → ((t : ℕ) → t < n → p (slice_index_or l t d) ≡ q t) → list_all p (take n l) ≡ all_below n q
  unfolding all_below
  first_pass zero l h f = refl
  first_pass (suc n) l h f =
      ap (λ (k : ℕ). list_all p (take k l)) (sym (add-one n))
      ∙ list_all_more p l n d h
      ∙ ap₂ ◌&&◌ (first_pass n l (omega arith) (λ t g. f t (omega arith))) (f n (omega arith))

  -- .. and the whole list where all of its places do
  all_pass : (n : ℕ) (l : List A) → length l ≡ n → ((t : ℕ) → t < n → p (slice_index_or l t d) ≡ q t) → list_all p l ≡ all_below n q
  all_pass n l e f =
      ap (λ (m : List A). list_all p m) (sym (take-length l) ∙ ap (λ (k : ℕ). take k l) e) ∙ first_pass n l (omega (arith, e)) f

module _ {A F : Type 0} (g : Mut F (A × Unit {0}) Bool) where
  -- what `all` ran through, and what it answered
  abbrev pub Ran : {S : Type 0} (steps : S → Option A → S → Type 0) (s u : S) (f : F) (r : Bool) → Type 0
  Ran steps s u f r =
      (xs : List A) × (o : Option A) × (j : F)
      × YieldsThen steps s xs o u
      × FoldsTo (λ p x q. Called g p (x, tt) true q) f xs j
      × MatchOption o (r ≡ true) (λ x. (r ≡ false) × ((h : F) × Called g j (x, tt) false h))

  -- the closure leaves itself as it is, and answers the test
  abbrev pub Tests : F → (A → Bool) → Type 0
  Tests f test = (x : A) (b : Bool) (q : F) → Called g f (x, tt) b q → (q ≡ f) × (b ≡ test x)

-- the chain `(0..n).all(test)`
pub all_in_range : {F : Type 0} {g : Mut F (ℕ × Unit {0}) Bool} {n : ℕ} (test : ℕ → Bool) (u : _) (f : F) (r : Bool)
    → Ran g nat_range_steps (record { start = 0; end = n }) u f r → Tests g f test → r ≡ all_below n test
all_in_range {n = n} test u f r ran k =
    all_from_yields_List test u f r ran (YieldsList-from_range 0 n n refl (omega arith)) k
    ∙ all_pass 0 test test n (range_with_len 0 n) (length-range_with_len 0 n) (λ t h. ap test (get_or-range_with_len 0 n t 0 h ∙ zero-add t))

module _ {X F : Type 0} where
  -- the chain `xs.iter().all(test)`
  pub all_in_slice : {g : Mut F (Bor X × Unit {0}) Bool} {xs : List X} {s : Iter X} {n : ℕ} (d : X) (test : X → Bool) (u : _) (f : F) (r : Bool)
      → Ran g fronts s u f r → iter_rest s ≡ xs → length xs ≡ n → Tests g f (λ x. test x.now)
      → r ≡ all_below n (λ t. test (slice_index_or xs t d))
  all_in_slice {xs = xs} {n = n} d test u f r ran e h k =
      all_from_yields_List test u f r ran (YieldsList-from_slice xs e) k ∙ all_pass d test _ n xs h (λ t g. refl)

  -- the chain `xs.iter().enumerate().all(test)`
  pub all_in_places : {g : Mut F ((ℕ × Bor X) × Unit {0}) Bool} {xs : List X} {s : Enumerate (Iter X)} {n : ℕ} (d : X) (test : ℕ → X → Bool) (u : _)
      (f : F) (r : Bool) → Ran g (enumerate_steps fronts) s u f r → iter_rest (enumerate_source s) ≡ xs
      → enumerate_count s ≡ 0 → length xs ≡ n → Tests g f (λ p. test p.0 p.1.now)
      → r ≡ all_below n (λ t. test t (slice_index_or xs t d))
  all_in_places {xs = xs} {n = n} d test u f r ran e c h k =
      all_from_yields_List (λ p. test p.0 p.1) u f r ran (YieldsList-from_enumerate (YieldsList-from_slice xs e) c) k
      ∙ all_pass (0, d) (λ p. test p.0 p.1) _ n (enumerate_from 0 xs) (length-enumerate_from 0 xs ∙ h)
      (λ t g.
      ap (λ p. test p.0 p.1) (get_or-enumerate_from 0 xs t (0, d) (omega (arith, h)))
      ∙ ap (λ j. test j (slice_index_or xs t d)) (zero-add t))

-- ---- the elements of a list, counted and tested

pub all_of_list : (p : ℕ → Bool) (l : List ℕ) → list_all p l ≡ all_of p l
unfolding all_of
all_of_list p [] = refl
all_of_list p (x ∷ l) = ap (λ (b : Bool). p x && b) (all_of_list p l)

-- one element more counts once where it passes
counted_on : (b : Bool) (x : ℕ) (l : List ℕ) (n : ℕ) → length l ≡ n → length (cond b (x ∷ l) l) ≡ cond b 1 0 + n
counted_on true x l n e = omega (arith, e)
counted_on false x l n e = omega (arith, e)

pub times_of_list : (t : ℕ) (l : List ℕ) → length (filter (λ x. x == t) l) ≡ times t l
unfolding times
times_of_list t [] = refl
times_of_list t (x ∷ l) = counted_on (x == t) x (filter (λ y. y == t) l) (times t l) (times_of_list t l)

-- ---- the first n elements of a list stand where they stood

module _ {A : Type 0} (d : A) (n : ℕ) (l : List A) (h : length (take n l) ≡ n) where
  all_of_first : (q : ℕ → A → Bool)
      → all_below (length (take n l)) (λ t. q t (slice_index_or (take n l) t d)) ≡ all_below n (λ t. q t (slice_index_or l t d))
  all_of_first q =
      ap (λ k. all_below k (λ t. q t (slice_index_or (take n l) t d))) h
      ∙ all_same n _ _ (λ t g. ap (q t) (get_or-take n l t d g))

-- ---- the first n transactions of the table

module _ (n : ℕ) (xs : List Txn) (h : length (take n xs) ≡ n) where
  pub homes_of_first : (sites : ℕ)
      → homes_fine sites (length (take n xs)) (λ t. (txn_in (take n xs) t).home) ≡ homes_fine sites n (λ t. (txn_in xs t).home)
  unfolding homes_fine
  homes_of_first sites = all_of_first no_txn n xs h (λ t x. nat_lt x.home sites)

  pub priorities_of_first :
      priorities_differ (length (take n xs)) (λ t. (txn_in (take n xs) t).priority) ≡ priorities_differ n (λ t. (txn_in xs t).priority)
  unfolding priorities_differ
  priorities_of_first =
      rw h
      (all_same n _ _ (λ t g. all_same t _ _ (λ u k. rw (get_or-take n xs t no_txn g, get_or-take n xs u no_txn (omega (arith, g, k))))))

  txns_of_first : (sites : ℕ)
      → all_below (length (take n xs)) (λ t. txn_fine sites (length (take n xs)) (txn_in (take n xs) t))
      ≡ all_below n (λ t. txn_fine sites n (txn_in xs t))
  txns_of_first sites =
      all_of_first no_txn n xs h (λ t x. txn_fine sites (length (take n xs)) x)
      ∙ ap (λ k. all_below n (λ t. txn_fine sites k (txn_in xs t))) h

  site_of_first : (sites i : ℕ) (r : Row) (p : Place) → site_fine sites (length (take n xs)) (take n xs) i r p ≡ site_fine sites n xs i r p
  unfolding site_fine queue_fine
  site_of_first sites i r p =
      rw h
      (ap (λ b. statuses_fine n r && (channel_fine sites n p.channel && (versions_fine n p && ((within n p.queue && b) && log_fine n r p))))
      (all_same n _ _ (λ t g. ap (λ x. not (has p.queue t) || (not (x.home == i) && status_in r t == idle)) (get_or-take n xs t no_txn g))))

  places_of_first : (s : State)
      → all_below s.sites (λ i. site_fine s.sites (length (take n xs)) (take n xs) i (row_at s i) (place_at s i))
      ≡ all_below s.sites (λ i. site_fine s.sites n xs i (row_at s i) (place_at s i))
  places_of_first s = all_same s.sites _ _ (λ i g. site_of_first s.sites i (row_at s i) (place_at s i))

-- where the counts are fine, a state is in range if the first transactions of its table and its sites are
pub in_range_by_parts : (s : State) → length (take s.count s.txns) ≡ s.count → sites_fine s.sites ≡ true → count_fine s.count ≡ true
    → in_range s
    ≡ (homes_fine s.sites (length (take s.count s.txns)) (λ t. (txn_in (take s.count s.txns) t).home)
    && priorities_differ (length (take s.count s.txns)) (λ t. (txn_in (take s.count s.txns) t).priority))
    && (all_below (length (take s.count s.txns)) (λ t. txn_fine s.sites (length (take s.count s.txns)) (txn_in (take s.count s.txns) t))
    && all_below s.sites (λ i. site_fine s.sites (length (take s.count s.txns)) (take s.count s.txns) i (row_at s i) (place_at s i)))
unfolding in_range table_fine
in_range_by_parts s h p q =
    rw (
      homes_of_first s.count s.txns h s.sites,
      priorities_of_first s.count s.txns h,
      txns_of_first s.count s.txns h s.sites,
      places_of_first s.count s.txns h s,
      p,
      q,
    )
