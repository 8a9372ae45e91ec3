-- What the functions below setup make of the entries is the fresh state, and what they answer is setup's answer.
use Rattle.std.specs.Prelude.{◌==◌, ◌&&◌, nat_lt, nat_le, slice_index_or}
use Rattle.std.proofs.lemmas.List.{get_or-replicate}
use Prim.Native.Nat.{ℕ, ◌≤◌, ◌<◌, min}
use mathlib.Core.Path.{◌≡◌, refl, sym, ap, ◌∙◌, fun_ext}
use mathlib.Core.Bool.{Bool, true, false, not, cond, and-false}
use mathlib.Core.List.{List, []}
use native.Mathlib.Omega.{arith}
use lib.ListN.{length, replicate, get_or-eq_default}
use lib.Seq.{ext_get_or}
use borrow.Author.Tests.{leb-true, lt-leb, lt-ltb, le-ltb, ltb-true, ltb-false}
use Rattle.laws.specs.Tests.{Test, yes_so, not_so, test, both_right}
use Rattle.laws.specs.Lists.{length-each, get_or-each, length-table, get_or-table}
use Rattle.protocol.specs.Lists.{table, table_from, each, each_from}
use Rattle.protocol.specs.State.{max_txns, idle, start, empty_state, no_txn, txn_in}
use Rattle.protocol.specs.Check.{first_of}
use Rattle.protocol.specs.Setup.{Started, sites_fine, count_fine, entry_at, fresh_row, fresh_txn, fresh_state, setup_checks, setup_answer, setup, setup_of}
use Rattle.protocol.specs.declared.Entry.{Entry}
use Rattle.protocol.specs.declared.Txn.{Txn}
use Rattle.protocol.specs.declared.State.{State}
use Rattle.rules.specs.Copied.{from_entry, entry_of, started_row, refusal_with, begun_with, judged_with, judged_of}
use Rattle.rules.proofs.Loops.{each_to}

-- where the count is fine there is room
pub few : (n : ℕ) → count_fine n ≡ true → n ≤ max_txns
unfolding count_fine
few n h = leb-true n max_txns (both_right (nat_le 1 n) (nat_le n max_txns) h)

-- .. as there is where no test fails
accepted : (a b : Bool) (m : ℕ) → ◌≡◌ {A = ℕ} 0 (cond (not a) 21 (cond (not b) 22 m)) → b ≡ true
accepted true true m h = refl
accepted true false m h = absurd (omega arith)
accepted false b m h = absurd (omega arith)

pub few_accepted : (sites n : ℕ) (e : ℕ → Entry) → 0 ≡ refusal_with sites n e → n ≤ max_txns
unfolding first_of
few_accepted sites n e h = few n (accepted (sites_fine sites) (count_fine n) _ h)

-- ---- rows

-- the statuses at site i, all idle, with start for those of the first k that have their home there
abbrev pub row_to : (ℕ → ℕ) → ℕ → ℕ → List ℕ
row_to home i k = each_to (λ t x. cond (home t == i) start x) k (replicate max_txns idle)

-- .. which is the row of a fresh state where k are all that there is room for
pub row_begun : (home : ℕ → ℕ) (i n k : ℕ) → k ≡ min n max_txns → row_to home i k ≡ (started_row n home i).status
row_begun home i n k e =
    ext_get_or idle (row_to home i k) (started_row n home i).status (length-each _ (replicate max_txns idle) ∙ sym (length-table _ max_txns))
    (λ j h. go j (omega (arith, length-each (λ t x. cond (nat_lt t k) (cond (home t == i) start x) x) (replicate max_txns idle))) (test (nat_lt j n)))
  where
    go : (j : ℕ) → j < max_txns → Test (nat_lt j n)
        → slice_index_or (row_to home i k) j idle ≡ slice_index_or (started_row n home i).status j idle
    go j h (yes_so b) =
        get_or-each _ (replicate max_txns idle) j idle h
        ∙ rw (lt-ltb j k (omega (arith, ltb-true j n b)), get_or-replicate max_txns j idle idle h, get_or-table (λ t. cond (nat_lt t n && home t == i) start idle) max_txns j idle h, b)
    go j h (not_so b) =
        get_or-each _ (replicate max_txns idle) j idle h
        ∙ rw (le-ltb j k (omega (arith, ltb-false j n b)), get_or-replicate max_txns j idle idle h, get_or-table (λ t. cond (nat_lt t n && home t == i) start idle) max_txns j idle h, b)

-- the empty state with these transactions
abbrev pub empty_with : List Txn → State
empty_with xs = record {
  sites = empty_state.sites;
  count = empty_state.count;
  rows = empty_state.rows;
  places = empty_state.places;
  txns = xs;
}

-- ---- the copied state becomes the fresh state

-- a transaction of the fresh state has what stands in the table, also past its end
of_table : (es : List Entry) → length es ≤ max_txns → (t : ℕ)
    → entry_of (txn_in (table max_txns (fresh_txn es)) t) ≡ entry_at es t
unfolding fresh_txn
of_table es l t = go (test (nat_lt t (length es))) (test (nat_lt t max_txns))
  where
    within : t < max_txns → entry_of (txn_in (table max_txns (fresh_txn es)) t) ≡ entry_of (fresh_txn es t)
    within h = ap entry_of (get_or-table (fresh_txn es) max_txns t no_txn h)

    past : length es ≤ t → record { home = 0; priority = 0 } ≡ entry_at es t
    past h = sym (get_or-eq_default es _ h)

    go : Test (nat_lt t (length es)) → Test (nat_lt t max_txns)
        → entry_of (txn_in (table max_txns (fresh_txn es)) t) ≡ entry_at es t
    go (yes_so b) c = within (omega (arith, ltb-true t (length es) b)) ∙ rw b
    go (not_so b) (yes_so c) = within (ltb-true t max_txns c) ∙ rw b (past (ltb-false t (length es) b))
    go (not_so b) (not_so c) =
        ap entry_of
        (get_or-eq_default (table max_txns (fresh_txn es)) no_txn
        (omega (arith, length-table (fresh_txn es) max_txns, ltb-false t max_txns c)))
        ∙ past (ltb-false t (length es) b)

-- transaction t with its entry, where the table has one
abbrev pub entered : List Entry → ℕ → Txn → Txn
entered es t x = cond (nat_lt t (length es)) (from_entry x (entry_at es t)) x

-- those of the empty state, each with its entry
pub all_entered : (es : List Entry) → each (entered es) empty_state.txns ≡ table max_txns (fresh_txn es)
unfolding each_from table_from fresh_txn empty_state
all_entered es = refl

-- ---- the answers

abbrev pub copied : List Entry → State
copied es = empty_with (table max_txns (fresh_txn es))

module _ (sites : ℕ) (es : List Entry) where
  -- setup, by its tests of the table
  by_table : judged_with sites (length es) (entry_at es) (copied es) ≡ setup sites es
  unfolding setup setup_answer setup_checks fresh_state fresh_row empty_state
  by_table = refl

  -- a table with room for its entries is copied whole
  few_judged : length es ≤ max_txns → judged_of sites (length es) (copied es) ≡ setup sites es
  few_judged l =
      ap (λ (e : ℕ → Entry). judged_with sites (length es) e (copied es)) (fun_ext (of_table es l)) ∙ by_table

-- where the count is refused nothing else matters but the count of sites
uncounted : (sites n : ℕ) (e : ℕ → Entry) (s : State) → count_fine n ≡ false
    → judged_with sites n e s ≡ record { answer = cond (sites_fine sites) 22 21; state = empty_state }
unfolding first_of
uncounted sites n e s h = rw h (go (sites_fine sites))
  where
    go : (a : Bool)
        → ◌≡◌ {A = Started} (record { answer = cond (not a) 21 22; state = cond (cond (not a) 21 22 == 0) (begun_with sites n e s) empty_state })
        (record { answer = cond a 22 21; state = empty_state })
    go true = refl
    go false = refl

-- .. as it is of a table that has more entries than there is room for
many_judged : (sites n : ℕ) (e : ℕ → Entry) (s : State) → nat_le n max_txns ≡ false
    → judged_with sites n e s ≡ record { answer = cond (sites_fine sites) 22 21; state = empty_state }
unfolding count_fine
many_judged sites n e s h = uncounted sites n e s (ap (λ (b : Bool). nat_le 1 n && b) h ∙ and-false (nat_le 1 n))

-- setup is what `judged` makes of the entries that were copied
pub setup_judged : (sites : ℕ) (es : List Entry)
    → judged_of sites (length es) (copied es) ≡ setup sites es
setup_judged sites es = go (test (nat_le (length es) max_txns))
  where
    go : Test (nat_le (length es) max_txns)
        → judged_of sites (length es) (copied es) ≡ setup sites es
    go (yes_so b) = few_judged sites es (leb-true (length es) max_txns b)
    go (not_so b) = many_judged sites (length es) _ (copied es) b ∙ sym (many_judged sites (length es) (entry_at es) (copied es) b) ∙ by_table sites es

-- more than fit, handed over by value, are refused as none are
pub none_refused : (sites n : ℕ) (es : List Entry) → max_txns < n → setup sites [] ≡ setup_of sites n es
unfolding setup_of count_fine
none_refused sites n es h = rw (lt-leb _ _ h) (sym (by_table sites []) ∙ uncounted sites 0 (entry_at []) (copied []) refl)
