-- 01, "The scan": what a turn and a whole scan do to the queue, to the statuses and to the messages.
use Prim.Native.Nat.{ℕ, zero, suc, ◌^◌, ◌<◌}
use Rattle.std.specs.Prelude.{◌≡◌, cond, ◌&&◌, ◌||◌, ◌⊎◌, length, set, nat_lt, slice_index_or, ◌==◌}
use Rattle.std.proofs.Math.Path.{refl}
use Rattle.std.proofs.Common.{sym, ◌∙◌, not-suc-le-zero, lt-suc_self, arith, length-set}
use Rattle.std.proofs.Math.Bool.{Bool, true, false, not}
use Rattle.std.proofs.Math.Logic.{inl, inr, ⊎_elim}
use mathlib.Core.List.{List}
use borrow.Author.Tests.{eqb-true, ltb-true, not-false, eq-eqb}
use Rattle.sets.specs.Set.{has, none, without, width, size}
use Rattle.sets.specs.Laws.{has-none, has-union, has-those, has-with_same, has-with_other, has-without_same, has-without_other, without_lt, size_none, size-without}
use Rattle.protocol.specs.Lists.{store_at}
use Rattle.protocol.specs.State.{max_txns, idle, blocked, precommit, aborted, status_in, txn_in}
use Rattle.protocol.specs.Order.{outranks, highest}
use Rattle.protocol.specs.Database.{conflicts}
use Rattle.protocol.specs.Scan.{makes_wait, must_wait, waits, asked, submits, scan_with, scan_one, scan_many, scan_all}
use Rattle.protocol.specs.declared.Row.{Row}
use Rattle.protocol.specs.declared.Txn.{Txn}
use Rattle.protocol.specs.declared.Scan.{Scan}
use Rattle.laws.specs.Tests.{Test, yes_so, not_so, test, Same, same, other, same?, both_left, both_right, either, either_left, either_right}
use Rattle.laws.specs.Lists.{length-each, get_or-each, some_none, Stored, here, there, stored}
use Rattle.laws.specs.Shape.{RowShaped}
use Rattle.laws.specs.Order.{highest_in}

-- where u stands in a scan: whether it was in the queue, is in the rest, waits and is submitted
data Stands : Bool → Bool → Bool → Bool → Type 0 where
  outside : Stands false false false false
  left : Stands true true false false
  waiting : Stands true false true false
  ready : Stands true false false true

begins : (b : Bool) → Stands b b false false
begins true = left
begins false = outside

goes_waiting : {q w r : Bool} → Stands q true w r → Stands q false true r
goes_waiting left = waiting

goes_ready : {q w r : Bool} → Stands q true w r → Stands q false w true
goes_ready left = ready

in_one : {q w r : Bool} → Stands q false w r → ((w || r) ≡ q) × ((w && r) ≡ false)
in_one outside = (refl, refl)
in_one waiting = (refl, refl)
in_one ready = (refl, refl)

-- where u stands in c, a scan of the queue q
abbrev At : ℕ → ℕ → Scan → Type 0
At q u c = Stands (has q u) (has c.rest u) (has c.waiting u) (has c.readies u)

-- in d, which c has become, u has the status v only if it had it in c
abbrev Had : Scan → ℕ → ℕ → Scan → Type 0
Had c u v d = RowShaped d.row × (status_in d.row u ≡ v → status_in c.row u ≡ v)

-- At site i, among the n transactions xs of the table:
module _ (n : ℕ) (xs : List Txn) (i : ℕ) where
  -- the conflicts of t at a site with the statuses r
  abbrev them : Row → ℕ → ℕ
  them r t = conflicts n xs i r t

  -- ---- one turn

  -- the one that is taken waits or is submitted
  pub scan_one_lem : (P : Scan → Type 0) (c : Scan) (t : ℕ)
      → (must_wait n xs i c.row t (them c.row t) ≡ true → P (waits t c))
      → (must_wait n xs i c.row t (them c.row t) ≡ false → P (submits n t (them c.row t) c)) → P (scan_one n xs i t c)
  unfolding scan_one scan_with
  scan_one_lem P c t f g = go (test (must_wait n xs i c.row t (them c.row t)))
    where
      go : Test (must_wait n xs i c.row t (them c.row t)) → P (scan_one n xs i t c)
      go (yes_so h) = rw h (f h)
      go (not_so h) = rw h (g h)

  -- either way it leaves the rest of the queue
  pub scan_takes : (c : Scan) (t : ℕ) → (scan_one n xs i t c).rest ≡ without c.rest t
  unfolding waits submits
  scan_takes c t = scan_one_lem (λ d. d.rest ≡ without c.rest t) c t (λ h. refl) (λ h. refl)

  -- ---- all turns

  -- so the rest has one fewer
  pub scan_falls : (c : Scan) → c.rest < 2 ^ 32 → (c.rest ≡ 0 → ⊥)
      → size c.rest ≡ suc (size (scan_one n xs i (highest xs c.rest) c).rest)
  scan_falls c l e =
      rw scan_takes (size-without width c.rest (highest xs c.rest) l (highest_in xs c.rest l e).1)

  -- from an empty rest nothing happens
  pub scan-nothing : (c : Scan) → c.rest ≡ 0 → scan_all n xs i c ≡ c
  unfolding scan_many
  scan-nothing c e = rw (e, size_none)

  -- else the highest is taken, "then the rest of the queue is taken the same way, seeing what was just done"
  pub scan-more : (c : Scan) → c.rest < 2 ^ 32 → (c.rest ≡ 0 → ⊥)
      → scan_all n xs i c ≡ scan_all n xs i (scan_one n xs i (highest xs c.rest) c)
  unfolding scan_many
  scan-more c l e = rw (scan_falls c l e)

  -- P outlasts every turn
  abbrev pub Lasts : (Scan → Type 0) → Type 0
  Lasts P = (c : Scan) (t : ℕ) → t < max_txns → has c.rest t ≡ true → P c → P (scan_one n xs i t c)

  -- turn by turn, where fewer than k are in the rest
  scan_through : (P : Scan → Type 0) → Lasts P → (k : ℕ) (c : Scan) → size c.rest < k → c.rest < 2 ^ 32 → P c
      → P (scan_all n xs i c) × ((scan_all n xs i c).rest ≡ none)
  scan_through P f zero c s l p = absurd (not-suc-le-zero s)
  scan_through P f (suc k) c s l p = go (same? c.rest 0) (scan_through P f k next)
    where
      next : Scan
      next = scan_one n xs i (highest xs c.rest) c

      Ends : Scan → Type 0
      Ends d = P (scan_all n xs i d) × ((scan_all n xs i d).rest ≡ none)

      go : Same c.rest 0 → (size next.rest < k → next.rest < 2 ^ 32 → P next → Ends next) → Ends c
      go (same e) ih = rw (scan-nothing c e) (p, e)
      go (other e) ih =
          let h = highest_in xs c.rest l e in
          rw (scan-more c l e)
          (ih (omega (arith, scan_falls c l e)) (rw scan_takes (without_lt width c.rest (highest xs c.rest) l))
          (f c (highest xs c.rest) h.0 h.1 p))

  -- what outlasts every turn outlasts the scan
  pub scan_keeps : (P : Scan → Type 0) → Lasts P → (c : Scan) → c.rest < 2 ^ 32 → P c → P (scan_all n xs i c)
  scan_keeps P f c l p = (scan_through P f (suc (size c.rest)) c (lt-suc_self (size c.rest)) l p).0

  -- and it ends: the whole queue has been taken
  pub scan_ends : (c : Scan) → c.rest < 2 ^ 32 → (scan_all n xs i c).rest ≡ none
  scan_ends c l =
      (scan_through (λ d. Unit {0}) (λ d t m h p. tt) (suc (size c.rest)) c (lt-suc_self (size c.rest)) l tt).1

  -- ---- the queue

  stands : (q u : ℕ) → Lasts (At q u)
  unfolding waits submits
  stands q u c t l h s = go (same? u t)
    where
      go : Same u t → At q u (scan_one n xs i t c)
      go (same e) =
          scan_one_lem (At q u) c t
          (λ m. rw (e, has-without_same, has-with_same width c.waiting t) (goes_waiting (rw (e, h) at s)))
          (λ m. rw (e, has-without_same, has-with_same width c.readies t) (goes_ready (rw (e, h) at s)))
      go (other e) =
          scan_one_lem (At q u) c t
          (λ m. rw (has-without_other c.rest t u e, has-with_other width c.waiting t u e) s)
          (λ m. rw (has-without_other c.rest t u e, has-with_other width c.readies t u e) s)

  -- "Those that wait are the queue afterwards": whoever was in the queue either waits or is submitted, and nobody else
  pub scan-parts : (c : Scan) → c.rest < 2 ^ 32 → c.waiting ≡ none → c.readies ≡ none → (u : ℕ)
      → ((has (scan_all n xs i c).waiting u || has (scan_all n xs i c).readies u) ≡ has c.rest u)
      × ((has (scan_all n xs i c).waiting u && has (scan_all n xs i c).readies u) ≡ false)
  scan-parts c l w r u = in_one (rw (scan_ends c l, has-none) at kept)
    where
      kept : At c.rest u (scan_all n xs i c)
      kept = scan_keeps (At c.rest u) (stands c.rest u) c l (rw (w, r, has-none) (begins (has c.rest u)))

  -- ---- the statuses

  shaped : (c : Scan) (t : ℕ) → RowShaped c.row → RowShaped (scan_one n xs i t c).row
  unfolding waits submits
  shaped c t s =
      scan_one_lem (λ d. RowShaped d.row) c t (λ m. s) (λ m. record { status = simp (length-set, length-each) s.status })

  -- a scan keeps the length of the row
  pub scan_shaped : (c : Scan) → c.rest < 2 ^ 32 → RowShaped c.row → RowShaped (scan_all n xs i c).row
  scan_shaped = scan_keeps (λ d. RowShaped d.row) (λ c t l h. shaped c t)

  -- a conflict is one of the table
  conflict_below : (r : Row) (t u : ℕ) → has (them r t) u ≡ true → u < n
  unfolding conflicts
  conflict_below r t u h = ltb-true u n (both_left (nat_lt u n) _ (rw has-those at h))

  -- where t does not wait, each of its conflicts has its home here, and t outranks each that is in pre_commit
  pub scan_conflict : (r : Row) (t u : ℕ) → must_wait n xs i r t (them r t) ≡ false → has (them r t) u ≡ true
      → ((txn_in xs u).home ≡ i) × (status_in r u ≡ precommit → outranks (txn_in xs t) (txn_in xs u) ≡ true)
  unfolding must_wait makes_wait
  scan_conflict r t u m h =
      let home : Bool = (txn_in xs u).home == i in
      let tied : Bool = status_in r u == precommit && not (outranks (txn_in xs t) (txn_in xs u)) in
      let no : (not home || tied) ≡ false =
      rw h at (some_none n (λ v. has (them r t) v && makes_wait (txn_in xs t) (txn_in xs v) i (status_in r v)) u m (conflict_below r t u h)) in (
        eqb-true (txn_in xs u).home i (not-false home (either_left (not home) tied no)),
        λ p. not-false (outranks (txn_in xs t) (txn_in xs u)) (rw (eq-eqb (status_in r u) precommit p) at (either_right (not home) tied no)),
      )

  -- what a turn in which t is taken makes of the status of u: it stays; or u is a conflict, "each conflict is aborted",
  -- and its home is here; or u is t, "and it is blocked"
  pub data After (c : Scan) (t u v : ℕ) : Type 0 where
    stays : v ≡ status_in c.row u → After c t u v
    falls : has (them c.row t) u ≡ true → (txn_in xs u).home ≡ i → v ≡ aborted → After c t u v
    enters : u ≡ t → v ≡ blocked → After c t u v

  pub scan_status : (c : Scan) (t u : ℕ) → t < max_txns → u < max_txns → RowShaped c.row
      → After c t u (status_in (scan_one n xs i t c).row u)
  unfolding waits submits
  scan_status c t u l k s =
      scan_one_lem (λ d. After c t u (status_in d.row u)) c t (λ m. stays refl)
      (λ m. set_to m (stored kills t u blocked idle (simp length-each (omega (arith, s.status)))))
    where
      kills : List ℕ
      kills = store_at (them c.row t) aborted c.row.status

      hit : must_wait n xs i c.row t (them c.row t) ≡ false → Test (has (them c.row t) u)
          → After c t u (cond (has (them c.row t) u) aborted (status_in c.row u))
      hit m (yes_so h) = falls h (scan_conflict c.row t u m h).0 (rw h)
      hit m (not_so h) = stays (rw h)

      set_to : must_wait n xs i c.row t (them c.row t) ≡ false → Stored kills t u blocked idle → After c t u (slice_index_or (set kills t blocked) u idle)
      set_to m (here e g) = enters e g
      set_to m (there e g) =
          let b : u < length c.row.status = omega arith in
          rw (g, get_or-each) (hit m (test (has (them c.row t) u)))

  had_before : (c : Scan) (u v : ℕ) → u < max_txns → (v ≡ blocked → ⊥) → (v ≡ aborted → (txn_in xs u).home ≡ i → ⊥)
      → Lasts (Had c u v)
  had_before c u v k nb na d t l h p = (shaped d t p.0, go (scan_status d t u l k p.0))
    where
      go : {w : ℕ} → After d t u w → w ≡ v → status_in c.row u ≡ v
      go (stays e) q = p.1 (sym e ∙ q)
      go (falls g o e) q = absurd (na (sym q ∙ e) o)
      go (enters o e) q = absurd (nb (sym q ∙ e))

  -- blocked and aborted are all that a scan gives, and aborted only to those with their home here: any other status was
  -- there before it
  pub scan-before : (c : Scan) (u v : ℕ) → c.rest < 2 ^ 32 → RowShaped c.row → u < max_txns
      → (v ≡ blocked → ⊥) → (v ≡ aborted → (txn_in xs u).home ≡ i → ⊥)
      → status_in (scan_all n xs i c).row u ≡ v → status_in c.row u ≡ v
  scan-before c u v l s k nb na = (scan_keeps (Had c u v) (had_before c u v k nb na) c l (s, λ e. e)).1

  -- a scan aborts nobody with a home elsewhere
  pub scan_spares : (c : Scan) (u : ℕ) → c.rest < 2 ^ 32 → RowShaped c.row → u < max_txns
      → ((txn_in xs u).home ≡ i → ⊥) → status_in (scan_all n xs i c).row u ≡ aborted → status_in c.row u ≡ aborted
  scan_spares c u l s k away = scan-before c u aborted l s k (λ e. omega arith) (λ e. away)

  -- ---- the messages

  -- "it waits on and aborts nobody", and it sends nothing
  pub scan-waits_alone : (c : Scan) (t : ℕ) → must_wait n xs i c.row t (them c.row t) ≡ true
      → ((scan_one n xs i t c).row ≡ c.row) × ((scan_one n xs i t c).aborts ≡ c.aborts)
      × ((scan_one n xs i t c).readies ≡ c.readies)
  unfolding scan_one scan_with waits
  scan-waits_alone c t h = rw h (refl, refl, refl)

  -- those that `asked` names are in pre_commit
  asked_in : (r : Row) (t u : ℕ) → has (asked n r (them r t)) u ≡ true → status_in r u ≡ precommit
  unfolding asked
  asked_in r t u h =
      eqb-true (status_in r u) precommit (both_right (has (them r t) u) (status_in r u == precommit)
      (both_right (nat_lt u n) _ (rw has-those at h)))

  -- "one that was in pre_commit also sends abort": only about such a one is abort sent
  pub scan-asked : (c : Scan) (t u : ℕ) → has (scan_one n xs i t c).aborts u ≡ true
      → (has c.aborts u ≡ true) ⊎ (status_in c.row u ≡ precommit)
  unfolding waits submits
  scan-asked c t u =
      scan_one_lem (λ d. has d.aborts u ≡ true → (has c.aborts u ≡ true) ⊎ (status_in c.row u ≡ precommit)) c t
      (λ m h. inl h)
      (λ m h. ⊎_elim inl (λ a. inr (asked_in c.row t u a))
      (either (has c.aborts u) (has (asked n c.row (them c.row t)) u) (rw has-union at h)))

  -- and so it is of a whole scan: the one about whom abort is sent was in pre_commit before it
  pub scan-asks : (c : Scan) (u : ℕ) → c.rest < 2 ^ 32 → RowShaped c.row → u < max_txns
      → has (scan_all n xs i c).aborts u ≡ true → (has c.aborts u ≡ true) ⊎ (status_in c.row u ≡ precommit)
  scan-asks c u l s k = (scan_keeps Asked step c l ((s, λ e. e), inl)).1
    where
      Asked : Scan → Type 0
      Asked d =
          Had c u precommit d
          × (has d.aborts u ≡ true → (has c.aborts u ≡ true) ⊎ (status_in c.row u ≡ precommit))

      step : Lasts Asked
      step d t m h p = (
        had_before c u precommit k (λ e. omega arith) (λ e. omega arith) d t m h p.0,
        λ a. ⊎_elim p.1 (λ e. inr (p.0.1 e)) (scan-asked d t u a),
      )
