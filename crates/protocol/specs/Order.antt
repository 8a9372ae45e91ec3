-- Who outranks whom. Nothing else compares priorities.
use Rattle.std.specs.Prelude.{ℕ, zero, suc, Bool, cond, ◌&&◌, ◌||◌, List, ◌==◌, nat_lt}
use Rattle.sets.specs.Set.{has}
use Rattle.protocol.specs.State.{max_txns, txn_in}
use Rattle.protocol.specs.declared.Txn.{Txn}

-- Figure 2, higher_priority (b): t.priority > t'.priority, where x is t and y is t'
unfoldable pub outranks : Txn → Txn → Bool
outranks x y = nat_lt y.priority x.priority

-- of `best`, the highest of the queue q so far, and u; max_txns stands for none so far
unfoldable pub higher_of : List Txn → ℕ → ℕ → ℕ → ℕ
higher_of xs q best u = cond (has q u && (best == max_txns || outranks (txn_in xs u) (txn_in xs best))) u best

-- the highest of those in q that are below n
unfoldable pub highest_below : ℕ → List Txn → ℕ → ℕ
highest_below zero xs q = max_txns
highest_below (suc n) xs q = higher_of xs q (highest_below n xs q) n

-- "a set, taken by priority"; Figure 2: first(queue)
abbrev pub highest : List Txn → ℕ → ℕ
highest xs q = highest_below max_txns xs q
