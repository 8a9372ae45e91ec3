-- Who is in a set that an action has changed, and how many: each in one equation.
use Rattle.std.specs.Prelude.{ℕ, zero, suc, ◌+◌, ◌≤◌, ◌<◌, ◌≡◌, refl, Bool, true, false, not, cond, ◌&&◌, ◌||◌, ◌==◌, nat_lt}
use Rattle.std.proofs.Common.{sym, ap, ◌∙◌, ⊎_elim, not-suc-le-zero, arith, lt-ltb, ltb-true}
use Rattle.std.proofs.Math.Bool.{and-true, and-false, or-false}
use Rattle.std.proofs.lemmas.Bool.{false≢true}
use Rattle.sets.specs.Set.{width, has, none, with, without, union, size}
use Rattle.sets.specs.Laws.{ext, has-none, has-union, has-with, has-without, has-without_same, has-without_other, has_all_but, size_none, size-with, size-without}
use Rattle.protocol.specs.State.{max_sites}
use Rattle.protocol.specs.Channel.{others}
use Rattle.protocol.specs.Figure.{only}
use Rattle.protocol.specs.declared.State.{State}
use Rattle.laws.specs.Tests.{Test, yes_so, not_so, test}
use Rattle.laws.specs.Lists.{below_suc}
use Rattle.laws.specs.Count.{total, total_same}
use Rattle.laws.specs.InRange.{Below, below_lt, in_without}

-- ---- who

-- a set without t, where the test b passes
pub has_dropped : (b : Bool) (m t u : ℕ) → has (cond b (without m t) m) u ≡ cond (u == t && b) false (has m u)
has_dropped true m t u = has-without m t u ∙ go (u == t)
  where
    go : (d : Bool) → (has m u && not d) ≡ cond (d && true) false (has m u)
    go true = and-false (has m u)
    go false = and-true (has m u)
has_dropped false m t u = rw (and-false (u == t))

turned : (a d : Bool) → (a || d) ≡ cond (d && true) true a
turned true true = refl
turned true false = refl
turned false true = refl
turned false false = refl

-- a set with t, where the test b passes
pub has_added : (b : Bool) (m t u : ℕ) → t < width → has (cond b (with m t) m) u ≡ cond (u == t && b) true (has m u)
has_added true m t u h =
    has-with width m t u ∙ rw (lt-ltb t width h, and-true (u == t)) (turned (has m u) (u == t) ∙ rw (and-true (u == t)))
has_added false m t u h = rw (and-false (u == t))

-- a set with those of ts, where the test b passes
pub has-joined : (b : Bool) (m ts u : ℕ) → has (union m (cond b ts none)) u ≡ cond (has ts u && b) true (has m u)
has-joined true m ts u = has-union m ts u ∙ turned (has m u) (has ts u)
has-joined false m ts u = has-union m none u ∙ rw (has-none u, and-false (has ts u)) (or-false (has m u))

-- the set of t alone
pub has-only : (t u : ℕ) → t < width → has (only t) u ≡ (u == t)
has-only t u h = has-with width none t u ∙ rw (has-none u, lt-ltb t width h) (and-true (u == t))

-- the sites other than i
pub has-others : (s : State) (i j : ℕ) → s.sites ≤ max_sites → has (others s i) j ≡ (nat_lt j s.sites && not (j == i))
has-others s i j fits = has_all_but width s.sites i j ∙ go (test (nat_lt j s.sites))
  where
    go : Test (nat_lt j s.sites) → (nat_lt j s.sites && nat_lt j width && not (j == i)) ≡ (nat_lt j s.sites && not (j == i))
    go (yes_so e) = rw (e, lt-ltb j width (omega (arith, ltb-true j s.sites e)))
    go (not_so e) = rw e

-- ---- how many

pub size-only : (t : ℕ) → t < width → size (only t) ≡ 1
size-only t l = size-with width none t (omega arith) l (has-none t) ∙ ap suc (size_none width)

-- the size of a set of numbers below n is a sum, in which each member counts 1
pub total_size : (n m : ℕ) → n ≤ width → Below n m → total n (λ k. cond (has m k) 1 0) ≡ size m
unfolding total
total_size zero m l b =
    sym (ap size (ext m none (λ k. go k (test (has m k)) ∙ sym (has-none k))) ∙ size_none width)
  where
    go : (k : ℕ) → Test (has m k) → has m k ≡ false
    go k (yes_so e) = absurd (not-suc-le-zero (b k e))
    go k (not_so e) = e
total_size (suc n) m l b = go (test (has m n)) (λ m' b'. total_size n m' (omega arith) b')
  where
    -- all but n
    less : (m' : ℕ) → has m' n ≡ false → ((k : ℕ) → has m' k ≡ true → has m k ≡ true) → Below n m'
    less m' out part k i =
        ⊎_elim (λ q. absurd (false≢true (sym out ∙ (rw q at i)))) (λ q. q) (below_suc (b k (part k i)))

    go : Test (has m n) → ((m' : ℕ) → Below n m' → total n (λ k. cond (has m' k) 1 0) ≡ size m')
        → total n (λ k. cond (has m k) 1 0) + cond (has m n) 1 0 ≡ size m
    go (yes_so e) ih =
        rw e
        (ap (λ (x : ℕ). x + 1)
        (total_same n _ (λ k. cond (has (without m n) k) 1 0) (λ k q.
        ap (λ (d : Bool). cond d 1 0) (sym (has-without_other m n k (λ z. omega arith))))
        ∙ ih (without m n) (less (without m n) (has-without_same m n) (in_without m n)))
        ∙ omega (arith, size-without width m n (below_lt (suc n) m l b) e))
    go (not_so e) ih = rw e (omega (arith, ih m (less m e (λ k i. i))))
