-- Every move keeps every transaction in a phase with every site other than its home, and keeps its own home's channel free
-- of remote, commit and abort about it.
use Rattle.std.specs.Prelude.{ℕ, suc, ◌<◌, ◌≡◌, refl, Bool, true, false, cond, ◌&&◌, ◌≢◌, ◌==◌, nat_lt}
use Rattle.onecopy.specs.Words.{sym, ◌∙◌, subst, and-false, lt-ltb, precommit, aborted, Cmp, cmp, eqb_same, eqb_other, same, other}
use Rattle.onecopy.specs.Phase as phase
use Rattle.onecopy.specs.Phase.{Phase}
use Rattle.onecopy.specs.Views.{View, Net, Runs, works, blocks, asks, besides, quits, Move, create, begin_operation, end_operation, end_away, begin_commit, end_commit, quit, receive_remote, receive_ready, submit, receive_commit, receive_abort, discard_remote, discard_ready}

-- the phase of t with site j
abbrev pub At : (ℕ → ℕ) → (ℕ → ℕ → ℕ) → Net → ℕ → ℕ → Type 0
At home st m t j =
    Phase (st (home t) t) (st j t) (m.remote j t) (m.ready j t) (m.commit j t) (m.abort j t) (m.missing j t)
    (m.queued j t) (m.spent j t)

abbrev pub Phases : View → Type 0
Phases s = (t j : ℕ) → j < s.sites → j ≢ s.home t → At s.home s.status s.net t j

-- ---- the frame: what a move leaves alone

module _ (s s' : View) where
  -- before and after
  abbrev Was : ℕ → ℕ → Type 0
  Was t j = At s.home s.status s.net t j

  abbrev Is : ℕ → ℕ → Type 0
  Is t j = At s.home s'.status s'.net t j

  -- a move at the home of x: of other transactions nothing changes
  at_home_lem : (x : ℕ) → ((t j : ℕ) → (t == x) ≡ false → Was t j → Is t j)
      → ((j : ℕ) → nat_lt j s.sites ≡ true → (j == s.home x) ≡ false → Was x j → Is x j)
      → Phases s → (t j : ℕ) → j < s.sites → j ≢ s.home t → Is t j
  at_home_lem x off on inv t j b e = go (t == x) (cmp t x) refl
    where
      go : (d : Bool) → Cmp t x d → (t == x) ≡ d → Is t j
      go false (other ne) d = off t j d (inv t j b e)
      go true (same q) d =
          subst (λ (u : ℕ). Is u j) (sym q) (on j (lt-ltb j s.sites b) (eqb_other (rw q at e)) (inv x j b (rw q at e)))

  -- a move at another site i: of x nothing changes elsewhere
  at_site : (i x : ℕ) → ((t j : ℕ) → (t == x) ≡ false → Was t j → Is t j) → ((j : ℕ) → (j == i) ≡ false → Was x j → Is x j)
      → (Was x i → Is x i) → Phases s → (t j : ℕ) → j < s.sites → j ≢ s.home t → Is t j
  at_site i x off far on inv = at_home_lem x off (λ j b e h. go j h (j == i) (cmp j i) refl) inv
    where
      go : (j : ℕ) → Was x j → (d : Bool) → Cmp j i d → (j == i) ≡ d → Is x j
      go j h false (other ne) d = far j d h
      go j h true (same q) d = subst (λ (u : ℕ). Is x u) (sym q) (on (rw q at h))

-- those of a set are aborted at their home
quits_phases : (s : View) (i : ℕ) (m : ℕ → Bool) → ((u : ℕ) → m u ≡ true → (s.home u ≡ i) × Runs (s.status i u))
    → Phases s → Phases (quits s i m)
quits_phases s i m f inv t j b ne = go (m t) refl
  where
    -- with the status h at home and i at the site, x for abort and k for what is spent
    Has : ℕ → ℕ → Bool → ℕ → Type 0
    Has h i x k =
        Phase h i (s.net.remote j t) (s.net.ready j t) (s.net.commit j t) x (s.net.missing j t) (s.net.queued j t) k

    fall : (v : ℕ) → Runs v → Has v (s.status j t) (s.net.abort j t) (s.net.spent j t)
        → Has aborted (s.status j t) (cond (v == precommit && true) true (s.net.abort j t))
        (cond (v == precommit && true) (suc (s.net.spent j t)) (s.net.spent j t))
    fall v works h = phase.quit_active h
    fall v blocks h = phase.quit_blocked h
    fall v asks h = phase.quit_asked h

    go : (d : Bool) → m t ≡ d
        → Has (cond (d && s.home t == i) aborted (s.status (s.home t) t)) (cond (d && j == i) aborted (s.status j t))
        (cond (d && (s.status i t == precommit && besides s i j)) true (s.net.abort j t))
        (cond (d && (s.status i t == precommit && besides s i j)) (suc (s.net.spent j t)) (s.net.spent j t))
    go false e = inv t j b ne
    go true e =
        let h : s.home t ≡ i = (f t e).0 in
        rw (h, eqb_same, eqb_other {i = j} (λ q. ne (q ∙ sym h)), lt-ltb j s.sites b)
        (fall (s.status i t) (f t e).1 (rw h at (inv t j b ne)))

off : {h i : ℕ} → i ≢ h → (h == i) ≡ false
off ne = eqb_other (λ q. ne (sym q))

pub phases_kept : (s s' : View) → Move s s' → Phases s → Phases s'
phases_kept s s' (create t g) =
    at_home_lem s s' t (λ t j d h. rw d h) (λ j b d h. simp (eqb_same, d) (phase.create (rw g at h)))
phases_kept s s' (begin_operation t g) =
    at_home_lem s s' t (λ t j d h. rw d h) (λ j b d h. simp (eqb_same, d) (phase.begin_operation (rw g at h)))
phases_kept s s' (end_operation t p q g _ _) =
    at_home_lem s s' t (λ t j d h. rw d h) (λ j b d h. simp (eqb_same, d) (phase.end_operation (rw g at h)))
phases_kept s s' (end_away i t ne g) = at_site s s' i t (λ t j d h. rw d h) (λ j d h. simp (eqb_same, d, off ne) h)
    (λ h. simp (eqb_same, off ne) (phase.end_away (rw g at h)))
phases_kept s s' (begin_commit t g) =
    at_home_lem s s' t (λ t j d h. rw d h) (λ j b d h. simp (eqb_same, d, b) (phase.begin_commit (rw g at h)))
phases_kept s s' (end_commit t b g m) =
    at_home_lem s s' t (λ t j d h. rw d h) (λ j b d h. simp (eqb_same, d, b, m j) (phase.end_commit (rw (g, m j) at h)))
phases_kept s s' (quit i m f) = quits_phases s i m f
phases_kept s s' (receive_remote i t g m) = at_site s s' i t (λ t j d h. rw d h) (λ j d h. simp (eqb_same, d) h)
    (λ h. simp (eqb_same, g) (phase.receive_remote (rw (g, m) at h)))
phases_kept s s' (receive_ready i t g m) = at_site s s' i t (λ t j d h. rw d h) (λ j d h. simp (eqb_same, d) h)
    (λ h. simp (eqb_same, g) (phase.receive_ready (rw (g, m) at h)))
phases_kept s s' (submit i t ne g m _) = at_site s s' i t (λ t j d h. rw d h) (λ j d h. simp (eqb_same, d, off ne) h)
    (λ h. simp (eqb_same, off ne) (phase.submit (rw (g, m) at h)))
phases_kept s s' (receive_commit i t b ne g m) =
    at_site s s' i t (λ t j d h. rw d h) (λ j d h. simp (eqb_same, d, off ne) h)
    (λ h. simp (eqb_same, off ne) (phase.receive_commit (rw (g, m) at h)))
phases_kept s s' (receive_abort i t b ne m) =
    at_site s s' i t (λ t j d h. rw d h) (λ j d h. simp (eqb_same, d, off ne) h)
    (λ h. simp (eqb_same, off ne) (phase.receive_abort (rw m at h)))
phases_kept s s' (discard_remote i t g) = at_site s s' i t (λ t j d h. rw d h) (λ j d h. simp (eqb_same, d) h)
    (λ h. simp (eqb_same, g) (phase.discard_remote (rw g at h)))
phases_kept s s' (discard_ready i t g) = at_site s s' i t (λ t j d h. rw d h) (λ j d h. simp (eqb_same, d) h)
    (λ h. simp (eqb_same, g) (phase.discard_ready (rw g at h)))

-- ---- Own: at home no remote, commit or abort about t lies, and no message about t counts for the home itself

pub data OwnAt : Bool → Bool → Bool → ℕ → Type 0 where
  nothing : OwnAt false false false 0

abbrev pub Own : View → Type 0
Own s = (t : ℕ)
    → OwnAt (s.net.remote (s.home t) t) (s.net.commit (s.home t) t) (s.net.abort (s.home t) t) (s.net.spent (s.home t) t)

pub own-quiet : {a c x : Bool} {k : ℕ} → OwnAt a c x k → (c ≡ false) × (x ≡ false)
own-quiet nothing = (refl, refl)

pub own_spent : {a c x : Bool} {k : ℕ} → OwnAt a c x k → k ≡ 0
own_spent nothing = refl

-- a message is taken, where the test b passes
takes_remote : {a c x : Bool} {k : ℕ} (b : Bool) → OwnAt a c x k → OwnAt (cond b false a) c x k
takes_remote true nothing = nothing
takes_remote false nothing = nothing

takes_commit : {a c x : Bool} {k : ℕ} (b : Bool) → OwnAt a c x k → OwnAt a (cond b false c) x k
takes_commit true nothing = nothing
takes_commit false nothing = nothing

takes_abort : {a c x : Bool} {k : ℕ} (b : Bool) → OwnAt a c x k → OwnAt a c (cond b false x) k
takes_abort true nothing = nothing
takes_abort false nothing = nothing

-- messages about x go to all sites but its home
not_home : (s : View) (x t : ℕ) → (t == x && besides s (s.home x) (s.home t)) ≡ false
not_home s x t = go (t == x) (cmp t x)
  where
    go : (d : Bool) → Cmp t x d → (d && besides s (s.home x) (s.home t)) ≡ false
    go false e = refl
    go true (same e) = rw (e, eqb_same) (and-false (nat_lt (s.home x) s.sites))

pub own-kept : (s s' : View) → Move s s' → Own s → Own s'
own-kept s s' (create t g) o u = o u
own-kept s s' (begin_operation t g) o u = o u
own-kept s s' (end_operation t p q g _ _) o u = o u
own-kept s s' (end_away i t ne g) o u = o u
own-kept s s' (begin_commit t g) o u = rw (not_home s t u) (o u)
own-kept s s' (end_commit t b g m) o u = rw (not_home s t u) (o u)
own-kept s s' (quit i m f) o u = rw (none (m u) refl) (o u)
  where
    none : (d : Bool) → m u ≡ d → (d && (s.status i u == precommit && besides s i (s.home u))) ≡ false
    none false e = refl
    none true e = rw ((f u e).0, eqb_same, and-false (nat_lt i s.sites)) (and-false (s.status i u == precommit))
own-kept s s' (receive_remote i t g m) o u = takes_remote (u == t && s.home u == i) (o u)
own-kept s s' (receive_ready i t g m) o u = o u
own-kept s s' (submit i t ne g m _) o u = rw (away (u == t) (cmp u t)) (o u)
  where
    away : (d : Bool) → Cmp u t d → (d && s.home u == i) ≡ false
    away false e = refl
    away true (same e) = rw e (off ne)
own-kept s s' (receive_commit i t b ne g m) o u = takes_commit (u == t && s.home u == i) (o u)
own-kept s s' (receive_abort i t b ne m) o u = takes_abort (u == t && s.home u == i) (o u)
own-kept s s' (discard_remote i t g) o u = takes_remote (u == t && s.home u == i) (o u)
own-kept s s' (discard_ready i t g) o u = o u
