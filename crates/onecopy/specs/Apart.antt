-- Apart: of two transactions that execute at one site, neither holds there an object that the other writes.
use Rattle.std.specs.Prelude.{ℕ, ◌<◌, ◌≡◌, refl, Bool, true, false, cond, ◌&&◌, ◌||◌, ◌≢◌, ◌==◌}
use Rattle.onecopy.specs.Words.{sym, ◌∙◌, and-false, ⊎_elim, arith, idle, start, active, blocked, committed, either, either_left, either_right, Cmp, cmp, eqb_same, eqb_other, clash, untrue, same, other}
use Rattle.onecopy.specs.Tables.{upd, Read, new, old, upd_read, was}
use Rattle.onecopy.specs.Phase as phase
use Rattle.onecopy.specs.Phases.{Phases}
use Rattle.onecopy.specs.Views.{View, Sets, Runs, holds, ends_operation}
use Rattle.onecopy.specs.Kinds.{Kind, still, quiet, begins, enters, ends, leads, follows, not-idle, not-committed, runs_blocked}

-- besides, one that has not begun has read, written and noted nothing
pub record Apart (n : ℕ) (home : ℕ → ℕ) (st : ℕ → ℕ → ℕ) (x : Sets) : Type 0 where
  pub apart : (i t u o : ℕ) → i < n → t ≢ u → Runs (st i t) → Runs (st i u) → x.writes t o ≡ true
      → holds home x i u o ≡ false
  pub fresh_writes : (t o : ℕ) → st (home t) t ≡ start → x.writes t o ≡ false
  pub fresh_reads : (t o : ℕ) → st (home t) t ≡ start → x.reads t o ≡ false
  pub fresh_noted : (t o : ℕ) → st (home t) t ≡ start → x.noted t o ≡ 0

abbrev pub ApartOf : View → Type 0
ApartOf s = Apart s.sites s.home s.status s.sets

module _ (n : ℕ) (home : ℕ → ℕ) (x : Sets) where
  -- nobody begins to execute, and none is at the start that was not
  fewer : (f g : ℕ → ℕ → ℕ) → ((i t : ℕ) → Runs (g i t) → Runs (f i t)) → ((i t : ℕ) → g i t ≡ start → f i t ≡ start)
      → Apart n home f x → Apart n home g x
  fewer f g r e a = record {
    apart = λ i t u o b ne k l w. a.apart i t u o b ne (r i t k) (r i u l) w;
    fresh_writes = λ t o h. a.fresh_writes t o (e (home t) t h);
    fresh_reads = λ t o h. a.fresh_reads t o (e (home t) t h);
    fresh_noted = λ t o h. a.fresh_noted t o (e (home t) t h);
  }

  -- one commits
  fewer_one : (f : ℕ → ℕ → ℕ) (i t : ℕ) → Apart n home f x → Apart n home (upd f i t committed) x
  fewer_one f i t = fewer f _ (λ j u. was Runs f i t committed j u not-committed)
      (λ j u. was (λ y. y ≡ start) f i t committed j u (λ h. omega arith))

  -- one begins to execute, and conflicts with none
  one_more : (f : ℕ → ℕ → ℕ) (i t v : ℕ) → v ≢ start
      → ((u o : ℕ) → t ≢ u → Runs (f i u) → x.writes t o ≡ true → holds home x i u o ≡ false)
      → ((u o : ℕ) → t ≢ u → Runs (f i u) → x.writes u o ≡ true → holds home x i t o ≡ false)
      → Apart n home f x → Apart n home (upd f i t v) x
  one_more f i t v e k l a = record {
    apart = λ j y z o b ne r q w. go j y z o b ne w (upd_read Runs f i t v j y r) (upd_read Runs f i t v j z q);
    fresh_writes = λ u o h. a.fresh_writes u o (before u h);
    fresh_reads = λ u o h. a.fresh_reads u o (before u h);
    fresh_noted = λ u o h. a.fresh_noted u o (before u h);
  }
    where
      before : (u : ℕ) → upd f i t v (home u) u ≡ start → f (home u) u ≡ start
      before u = was (λ y. y ≡ start) f i t v (home u) u (λ h. absurd (e h))

      go : (j y z o : ℕ) → j < n → y ≢ z → x.writes y o ≡ true → Read Runs f i t v j y → Read Runs f i t v j z
          → holds home x j z o ≡ false
      go j y z o b ne w (new p q r) (new p' q' r') = absurd (ne (p ∙ sym p'))
      go j y z o b ne w (new p q r) (old m r') = rw q (k z o (λ h. ne (p ∙ h)) (rw q at r') (rw p at w))
      go j y z o b ne w (old m r) (new p q r') = rw (q, p) (l y o (λ h. ne (sym h ∙ sym p)) (rw q at r) w)
      go j y z o b ne w (old m r) (old m' r') = a.apart j y z o b ne r r' w

-- what begins holds nothing
begins_apart : (s : View) (t : ℕ) → s.status (s.home t) t ≡ start → ApartOf s
    → Apart s.sites s.home (upd s.status (s.home t) t active) s.sets
begins_apart s t g a = one_more s.sites s.home s.sets s.status (s.home t) t active (omega arith)
    (λ u o ne r w. clash w (a.fresh_writes t o g))
    (λ u o ne r w. rw (a.fresh_writes t o g, a.fresh_reads t o g) (and-false (s.home t == s.home t))) a

-- what it would conflict with is no longer there
enters_apart : (s : View) (i t : ℕ) → i ≢ s.home t
    → ((u o : ℕ) → t ≢ u → Runs (s.status i u) → s.sets.writes t o ≡ true → holds s.home s.sets i u o ≡ false)
    → ApartOf s → Apart s.sites s.home (upd s.status i t blocked) s.sets
enters_apart s i t ne k a = one_more s.sites s.home s.sets s.status i t blocked (omega arith) k
    (λ u o d r w.
    rw (
      untrue (s.sets.writes t o) (λ h. clash w (either_left (s.sets.writes u o) _ (k u o d r h))),
      eqb_other {i = s.home t} (λ q. ne (sym q)),
    ))
    a

-- while home is blocked on it, it executes nowhere else
only_home : (s : View) → Phases s → (t j : ℕ) → s.status (s.home t) t ≡ blocked → j < s.sites → Runs (s.status j t)
    → j ≡ s.home t
only_home s c t j g b r = go (j == s.home t) (cmp j (s.home t))
  where
    go : (d : Bool) → Cmp j (s.home t) d → j ≡ s.home t
    go true (same e) = e
    go false (other ne) =
        let z : s.status j t ≡ idle = phase.unasked_idle (rw g at (c t j b ne)) in not-idle (rw z at r)

-- t ends an operation at home, which reads p and writes q
module _ (s : View) (t : ℕ) (p q : ℕ → Bool) (g : s.status (s.home t) t ≡ blocked)
    (k : (u o : ℕ) → t ≢ u → Runs (s.status (s.home t) u) → p o ≡ true → s.sets.writes u o ≡ false)
    (l : (u o : ℕ) → t ≢ u → Runs (s.status (s.home t) u) → q o ≡ true
    → holds s.home s.sets (s.home t) u o ≡ false) (c : Phases s) (a : ApartOf s) where
  ends_runs : (j u : ℕ) → Runs (upd s.status (s.home t) t active j u) → Runs (s.status j u)
  ends_runs j u = was Runs s.status (s.home t) t active j u (λ r. runs_blocked g)

  -- t writes more, z is another
  ends_writes : (j z o : ℕ) → j < s.sites → t ≢ z → Runs (s.status j t) → Runs (s.status j z)
      → s.sets.writes t o || q o ≡ true → holds s.home s.sets j z o ≡ false
  ends_writes j z o lt ne r r' w =
      let e : j ≡ s.home t = only_home s c t j g lt r in
      ⊎_elim (λ h. a.apart j t z o lt ne r r' h) (λ h. rw e (l z o ne (rw e at r') h)) (either (s.sets.writes t o) (q o) w)

  -- t holds more, y is another
  ends_holds : (j y o : ℕ) → j < s.sites → t ≢ y → Runs (s.status j y) → Runs (s.status j t)
      → s.sets.writes y o ≡ true
      → (s.sets.writes t o || q o) || (s.home t == j && (s.sets.reads t o || p o)) ≡ false
  ends_holds j y o lt ne r r' w =
      let e : j ≡ s.home t = only_home s c t j g lt r' in
      let h : holds s.home s.sets j t o ≡ false = a.apart j y t o lt (λ z. ne (sym z)) r r' w in
      let h1 : s.sets.writes t o ≡ false = either_left (s.sets.writes t o) _ h in
      let h2 : s.sets.reads t o ≡ false = rw (e, eqb_same) at (either_right (s.sets.writes t o) _ h) in
      let h3 : p o ≡ false = untrue (p o) (λ z. clash w (k y o ne (rw e at r) z)) in
      let h4 : q o ≡ false = untrue (q o) (λ z. clash w (either_left (s.sets.writes y o) _ (l y o ne (rw e at r) z))) in
      rw (h1, h2, h3, h4) (and-false (s.home t == j))

  ends_go : (j y z o : ℕ) → j < s.sites → y ≢ z → Runs (s.status j y) → Runs (s.status j z) → (d d' : Bool) → Cmp y t d
      → Cmp z t d' → cond d (s.sets.writes t o || q o) (s.sets.writes y o) ≡ true
      → cond d' (s.sets.writes t o || q o) (s.sets.writes z o)
      || (s.home z == j && cond d' (s.sets.reads t o || p o) (s.sets.reads z o)) ≡ false
  ends_go j y z o lt ne r r' true true (same e) (same e') w = absurd (ne (e ∙ sym e'))
  ends_go j y z o lt ne r r' true false (same e) (other m) w = ends_writes j z o lt (λ h. m (sym h)) (rw e at r) r' w
  ends_go j y z o lt ne r r' false true (other m) (same e) w = rw e (ends_holds j y o lt (λ h. m (sym h)) r (rw e at r') w)
  ends_go j y z o lt ne r r' false false (other m) (other m') w = a.apart j y z o lt ne r r' w

  ends_fresh : (u : ℕ) → upd s.status (s.home t) t active (s.home u) u ≡ start
      → ((u == t) ≡ false) × (s.status (s.home u) u ≡ start)
  ends_fresh u h =
      go (u == t) (cmp u t) (was (λ y. y ≡ start) s.status (s.home t) t active (s.home u) u (λ z. omega arith) h)
    where
      go : (d : Bool) → Cmp u t d → s.status (s.home u) u ≡ start → (d ≡ false) × (s.status (s.home u) u ≡ start)
      go true (same e) z = absurd (let y : s.status (s.home t) t ≡ start = rw e at z in omega arith)
      go false (other ne) z = (refl, z)

  ends_apart : ApartOf (ends_operation s t p q)
  ends_apart = record {
    apart = λ j y z o lt ne r r' w.
        ends_go j y z o lt ne (ends_runs j y r) (ends_runs j z r') (y == t) (z == t) (cmp y t) (cmp z t) w;
    fresh_writes = λ u o h. rw (ends_fresh u h).0 (a.fresh_writes u o (ends_fresh u h).1);
    fresh_reads = λ u o h. rw (ends_fresh u h).0 (a.fresh_reads u o (ends_fresh u h).1);
    fresh_noted = λ u o h. rw (ends_fresh u h).0 (a.fresh_noted u o (ends_fresh u h).1);
  }

pub apart_kept : (s s' : View) → Phases s → Kind s s' → ApartOf s → ApartOf s'
apart_kept s s' c (still m) a = a
apart_kept s s' c (quiet f m r e n5 f5) a = fewer s.sites s.home s.sets s.status f r e a
apart_kept s s' c (begins t m g) a = begins_apart s t g a
apart_kept s s' c (enters i t m ne g k) a = enters_apart s i t ne k a
apart_kept s s' c (ends t p q g k l) a = ends_apart s t p q g k l c a
apart_kept s s' c (leads t m lt g e) a = fewer_one s.sites s.home s.sets s.status (s.home t) t a
apart_kept s s' c (follows i t m lt ne g h) a = fewer_one s.sites s.home s.sets s.status i t a
