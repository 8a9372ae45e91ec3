-- How many messages: those that an action sends about a transaction, and those that it sends in all.
use Rattle.std.specs.Prelude.{ℕ, zero, suc, ◌+◌, ◌*◌, ◌-◌, ◌<◌, ◌≡◌, refl, Bool, true, false, cond, ◌&&◌, ◌==◌}
use Rattle.onecopy.specs.Words.{sym, ap, ap₂, ◌∙◌, fun_ext, arith, has, size, txn_at, others, State, total-zero, total_add, total_one, total_scaled, total_size, Below, sites_fit, count_fits, Fine, home_fits, eqb_same, others_below}
use Rattle.laws.specs.Count.{total}
use Rattle.onecopy.specs.Statements.{Sendings, sends, sent_about}
use Rattle.onecopy.specs.Tables.{more}

-- ---- sums

-- 3 for each number below n, and for each but h
threes : (n : ℕ) → total n (λ k. 3) ≡ 3 * n
unfolding total
threes zero = omega arith
threes (suc n) = omega (arith, threes n)

pub total_rest : (n h : ℕ) → h < n → total n (λ k. cond (h == k) 0 3) ≡ 3 * (n - 1)
total_rest n h l =
    let sum : total n (λ k. cond (h == k) 0 3) + total n (λ k. cond (h == k) 3 0) ≡ 3 * n =
    sym (total_add n _ _) ∙ ap (total n) (fun_ext (λ k. go (h == k))) ∙ threes n in
    let one : total n (λ k. cond (h == k) 3 0) ≡ 3 = total_scaled n (λ k. h == k) 3 ∙ rw (total_one n h l) in
    omega arith
  where
    go : (b : Bool) → ◌≡◌ {A = ℕ} (cond b 0 3 + cond b 3 0) 3
    go true = refl
    go false = refl

-- one more wherever a test passes
pub total-more : (n : ℕ) (f : ℕ → ℕ → ℕ) (g : ℕ → ℕ → Bool) (u : ℕ)
    → total n (λ j. more f g j u) ≡ total n (λ j. f j u) + total n (λ j. cond (g j u) 1 0)
total-more n f g u =
    ap (total n) (fun_ext (λ j. one (g j u) (f j u))) ∙ total_add n (λ j. f j u) (λ j. cond (g j u) 1 0)
  where
    one : (b : Bool) (x : ℕ) → cond b (suc x) x ≡ x + cond b 1 0
    one true x = omega arith
    one false x = omega arith

-- ---- what site i sends

module _ (s : State) (f : Fine s) (i : ℕ) where
  -- the number of the other sites
  abbrev pub N : ℕ
  N = size (others s i)

  -- a multicast, or none, by whether b holds
  pub cast_total : (b : Bool) → total s.sites (λ j. cond (b && has (others s i) j) 1 0) ≡ cond b N 0
  cast_total true = total_size s.sites (others s i) (omega (arith, sites_fit s f.ranged.table)) (others_below s i)
  cast_total false = total-zero s.sites

  -- a message to site h, or none
  pub home_total : (h : ℕ) (b : Bool) → (b ≡ true → h < s.sites) → total s.sites (λ j. cond (b && h == j) 1 0) ≡ cond b 1 0
  home_total h true l = total_one s.sites h (l refl)
  home_total h false l = total-zero s.sites

  -- messages about u: a multicast for each kind that it is sent of, and one ready
  pub about_is : (x : Sendings) → Below s.count x.ready → (u : ℕ) → sent_about s i x u
      ≡ cond (has x.remote u) N 0
      + (cond (has x.ready u) 1 0 + (cond (has x.commit u) N 0 + cond (has x.abort u) N 0))
  unfolding sent_about sends
  about_is x b u = total_add s.sites _ _ ∙ ap₂ ◌+◌ (cast_total (has x.remote u)) (total_add s.sites _ _
      ∙ ap₂ ◌+◌ (rw (eqb_same i) (home_total (txn_at s u).home (has x.ready u) (λ e. home_fits s f u (b u e))))
      (total_add s.sites _ _ ∙ ap₂ ◌+◌ (cast_total (has x.commit u)) (cast_total (has x.abort u))))

  -- messages in all
  pub sum_is : (x : Sendings) → Below s.count x.remote → Below s.count x.ready → Below s.count x.commit
      → Below s.count x.abort
      → total s.count (λ u. sent_about s i x u) ≡ size x.remote * N + (size x.ready + (size x.commit * N + size x.abort * N))
  sum_is x br by bc ba = ap (total s.count) (fun_ext (about_is x by)) ∙ total_add s.count _ _
      ∙ ap₂ ◌+◌ (scaled x.remote br) (total_add s.count _ _
      ∙ ap₂ ◌+◌ (total_size s.count x.ready (count_fits s f.ranged.table) by)
      (total_add s.count _ _ ∙ ap₂ ◌+◌ (scaled x.commit bc) (scaled x.abort ba)))
    where
      scaled : (m : ℕ) → Below s.count m → total s.count (λ u. cond (has m u) N 0) ≡ size m * N
      scaled m b = total_scaled s.count (λ u. has m u) N
          ∙ ap (λ (y : ℕ). y * N) (total_size s.count m (count_fits s f.ranged.table) b)
