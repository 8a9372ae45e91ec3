-- What fits where: the numbers of a state in range, and the sizes of sets.
use Rattle.std.specs.Prelude.{nat_lt, nat_le}
use Prim.Native.Nat.{ℕ, ◌*◌, ◌≤◌, ◌<◌}
use mathlib.Core.Path.{◌≡◌}
use mathlib.Core.Bool.{true, cond}
use native.Mathlib.Nat.{mul-le-mul, le_refl}
use native.Mathlib.Omega.{arith}
use borrow.Author.Tests.{leb-true, ltb-true}
use Rattle.sets.specs.Set.{size}
use Rattle.sets.specs.Laws.{size_le}
use Rattle.protocol.specs.State.{max_sites, max_txns, place_at, version_in}
use Rattle.protocol.specs.Setup.{sites_fine, count_fine}
use Rattle.protocol.specs.Range.{table_fine, in_range}
use Rattle.protocol.specs.declared.State.{State}
use Rattle.laws.specs.Tests.{Test, yes_so, not_so, test, both_left, both_right}
use Rattle.laws.specs.InRange.{range_out, sites_fit, count_fits}
use Rattle.rules.specs.Turn.{index_of}

-- an index is below what the number of things is at most
index_below : (k n m : ℕ) → 1 ≤ n → n ≤ m → index_of k n < m
index_below k n m l h = go (test (nat_lt k n))
  where
    go : Test (nat_lt k n) → cond (nat_lt k n) k 0 < m
    go (yes_so b) = rw b (omega (arith, ltb-true k n b))
    go (not_so b) = rw b (omega arith)

module _ (s : State) (fine : in_range s ≡ true) where
  table_fine_lem : table_fine s ≡ true
  table_fine_lem = (range_out s fine).table

  pub count_below : s.count ≤ 32
  count_below = count_fits s table_fine_lem

  -- there is a site, and a transaction
  sites_some : 1 ≤ s.sites
  unfolding table_fine sites_fine
  sites_some = leb-true 1 s.sites (both_left _ (nat_le s.sites max_sites) (both_left _ _ table_fine_lem))

  count_some : 1 ≤ s.count
  unfolding table_fine count_fine
  count_some =
      leb-true 1 s.count (both_left _ (nat_le s.count max_txns) (both_left _ _ (both_right (sites_fine s.sites) _ table_fine_lem)))

  -- an index that stands for what an event names
  pub site_at : (k i : ℕ) → i ≡ index_of k s.sites → (i < s.sites) × (i < 8)
  site_at k i e =
      let l : i < s.sites = rw e (index_below k s.sites s.sites sites_some (le_refl s.sites)) in
      (l, omega (arith, l, sites_fit s table_fine_lem))

  pub txn_at_lem : (k t : ℕ) → t ≡ index_of k s.count → t < 32
  txn_at_lem k t e = rw e (index_below k s.count 32 count_some count_below)

  pub versions_below : (i : ℕ) → i < s.sites → (o : ℕ) → o < 32 → version_in (place_at s i) o < 255
  versions_below i h o l = omega (arith, count_below, ((range_out s fine).site i h).versions o l)

-- a set has few members
pub few : (n m : ℕ) → n ≡ size m → n ≤ 32
few n m e = omega (arith, size_le 32 m)

pub few_times : (n k m l : ℕ) → n ≡ size m → k ≡ size l → n * k ≤ 1024
few_times n k m l e f = mul-le-mul (few n m e) (few k l f)
