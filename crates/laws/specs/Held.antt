-- Who holds what, and what a lock clash and a conflict are. Whatever else is said of locks rests on these laws alone.
use Rattle.std.specs.Prelude.{ℕ, ◌≡◌, Bool, cond, ◌&&◌, ◌||◌, ◌==◌}
use Rattle.std.proofs.Math.Path.{refl, sym, ap}
use Rattle.std.proofs.Common.{◌∙◌}
use Rattle.std.proofs.Math.Bool.{true, false, or_comm, false≢true}
use Rattle.sets.specs.Set.{has, none, overlap}
use Rattle.sets.specs.Laws.{has-none, has-union, overlap_in, overlap_out}
use Rattle.protocol.specs.Database.{executes, held_reads, held_writes, held, clashes_with, conflicts_with}
use Rattle.protocol.specs.declared.Txn.{Txn}
use Rattle.laws.specs.Compare.{untrue}
use Rattle.laws.specs.Tests.{Test, yes_so, not_so, test, either_left, either_right}

-- y, of status v, executes at site i, and o is an object
module _ (y : Txn) (i v o : ℕ) (r : executes v ≡ true) where
  -- "At home it then holds its read and write sets. Elsewhere it holds its write set only"
  held_writes_lem : has (held_writes y i v) o ≡ has y.writes o
  unfolding held_writes
  held_writes_lem = rw r

  held_all : has (held y i v) o ≡ (has y.writes o || (y.home == i && has y.reads o))
  unfolding held held_reads held_writes
  held_all =
      has-union (held_reads y i v) (held_writes y i v) o
      ∙ rw r (or_comm (has (cond (y.home == i) y.reads none) o) (has y.writes o))
      ∙ ap (λ (b : Bool). has y.writes o || b) (held_at_home (y.home == i))
    where
      held_at_home : (b : Bool) → has (cond b y.reads none) o ≡ (b && has y.reads o)
      held_at_home true = refl
      held_at_home false = has-none o

  -- where the pending operation of x does not clash with y, y holds no write of what is pending for reading ..
  pub clash_reads : (x : Txn) → clashes_with x y i v ≡ false → has x.pendingreads o ≡ true → has y.writes o ≡ false
  unfolding clashes_with
  clash_reads x h p =
      sym held_writes_lem
      ∙ untrue (has (held_writes y i v) o) (λ w.
      false≢true (sym (either_left _ _ h) ∙ overlap_in (held_writes y i v) x.pendingreads o w p))

  -- .. and nothing of what is pending for writing
  pub clash-writes : (x : Txn) → clashes_with x y i v ≡ false → has x.pendingwrites o ≡ true
      → (has y.writes o || (y.home == i && has y.reads o)) ≡ false
  unfolding clashes_with
  clash-writes x h p =
      sym held_all
      ∙ untrue (has (held y i v) o) (λ w.
      false≢true
      (sym (either_right (overlap (held_writes y i v) x.pendingreads) _ h) ∙ overlap_in (held y i v) x.pendingwrites o w p))

  -- where y is no conflict of x, y holds nothing that x writes
  pub conflict_writes : (x : Txn) → conflicts_with x y i v ≡ false → has x.writes o ≡ true
      → (has y.writes o || (y.home == i && has y.reads o)) ≡ false
  unfolding conflicts_with
  conflict_writes x h p =
      sym held_all
      ∙ untrue (has (held y i v) o) (λ w. false≢true (sym h ∙ overlap_in (held y i v) x.writes o w p))

-- who holds an object executes, and so does a conflict
held-executes : (x : Txn) (i v k : ℕ) → has (held x i v) k ≡ true → executes v ≡ true
unfolding held held_reads held_writes
held-executes x i v k h = go (test (executes v))
  where
    go : Test (executes v) → executes v ≡ true
    go (yes_so e) = e
    go (not_so e) = absurd (false≢true (simp (e, has-union, has-none) at h))

pub conflict_executes : (x y : Txn) (i v : ℕ) → conflicts_with x y i v ≡ true → executes v ≡ true
unfolding conflicts_with
conflict_executes x y i v h = let k = overlap_out (held y i v) x.writes h in held-executes y i v k.0 k.1
