-- The moves by what they do to statuses, sets and logs: seven kinds. What is said of conflicts, logs and versions is shown
-- once for each kind.
use Rattle.std.specs.Prelude.{ℕ, ◌<◌, ◌≡◌, refl, Bool, true, false, cond, ◌&&◌, ◌||◌, ◌≢◌, [], ◌∷◌, ◌++◌, ◌==◌}
use Rattle.onecopy.specs.Words.{⊎_elim, arith, eqb-true, idle, start, active, blocked, precommit, committed, aborted, either, Cmp, cmp, same}
use Rattle.protocol.specs.Database.{executes}
use Rattle.onecopy.specs.Tables.{upd, upd-put, was}
use Rattle.onecopy.specs.Phase as phase
use Rattle.onecopy.specs.Phase.{Away}
use Rattle.onecopy.specs.Phases.{Phases}
use Rattle.onecopy.specs.Views as view
use Rattle.onecopy.specs.Views.{View, Net, Runs, works, blocks, asks, holds, with_statuses, ends_operation, commits, Move}

pub data Kind (s : View) : View → Type 0 where
  -- no status changes
  still : (m : Net) → Kind s (with_statuses s s.status m)
  -- statuses change, none to or from committed, none to start, and nobody begins to execute
  quiet : (g : ℕ → ℕ → ℕ) (m : Net) → ((j u : ℕ) → Runs (g j u) → Runs (s.status j u))
      → ((j u : ℕ) → g j u ≡ start → s.status j u ≡ start) → ((j u : ℕ) → g j u ≡ committed → s.status j u ≡ committed)
      → ((j u : ℕ) → s.status j u ≡ committed → g j u ≡ committed) → Kind s (with_statuses s g m)
  -- t begins to execute at home
  begins : (t : ℕ) (m : Net) → s.status (s.home t) t ≡ start
      → Kind s (with_statuses s (upd s.status (s.home t) t active) m)
  -- t begins to execute at another site, where nothing that executes holds an object that it writes
  enters : (i t : ℕ) (m : Net) → i ≢ s.home t → s.status i t ≡ idle
      → ((u o : ℕ) → t ≢ u → Runs (s.status i u) → s.sets.writes t o ≡ true
      → holds s.home s.sets i u o ≡ false) → Kind s (with_statuses s (upd s.status i t blocked) m)
  -- t ends an operation at home, without a clash
  ends : (t : ℕ) (p q : ℕ → Bool) → s.status (s.home t) t ≡ blocked
      → ((u o : ℕ) → t ≢ u → Runs (s.status (s.home t) u) → p o ≡ true → s.sets.writes u o ≡ false)
      → ((u o : ℕ) → t ≢ u → Runs (s.status (s.home t) u) → q o ≡ true
      → holds s.home s.sets (s.home t) u o ≡ false) → Kind s (ends_operation s t p q)
  -- t, which executes at every other site, commits at home
  leads : (t : ℕ) (m : Net) → s.home t < s.sites → s.status (s.home t) t ≡ precommit
      → ((j : ℕ) → j < s.sites → j ≢ s.home t → Away (s.status j t))
      → Kind s (commits s (s.home t) t m (s.logs.list ++ (t ∷ [])))
  -- t, which home has committed, commits at another site
  follows : (i t : ℕ) (m : Net) → i < s.sites → i ≢ s.home t → s.status i t ≡ precommit
      → s.status (s.home t) t ≡ committed → Kind s (commits s i t m s.logs.list)

-- ---- who executes

pub not-idle : {A : Type 0} → Runs idle → A
not-idle = elim [ ]

pub not_start : {A : Type 0} → Runs start → A
not_start = elim [ ]

pub not-committed : {A : Type 0} → Runs committed → A
not-committed = elim [ ]

pub not-aborted : {A : Type 0} → Runs aborted → A
not-aborted = elim [ ]

pub runs_active : {v : ℕ} → v ≡ active → Runs v
runs_active e = rw e works

pub runs_blocked : {v : ℕ} → v ≡ blocked → Runs v
runs_blocked e = rw e blocks

pub away_runs : {v : ℕ} → Away v → Runs v
away_runs phase.blocks = blocks
away_runs phase.asks = asks

runs_unfinished : {v : ℕ} → Runs v → v ≢ committed
runs_unfinished works e = omega arith
runs_unfinished blocks e = omega arith
runs_unfinished asks e = omega arith

-- .. by the definition of the database
pub runs_executes : {v : ℕ} → Runs v → executes v ≡ true
unfolding executes
runs_executes works = refl
runs_executes blocks = refl
runs_executes asks = refl

pub executes_runs : (v : ℕ) → executes v ≡ true → Runs v
unfolding executes
executes_runs v h = ⊎_elim (λ e. runs_active (eqb-true v active e)) (λ k.
    ⊎_elim (λ e. runs_blocked (eqb-true v blocked e)) (λ e. let q : v ≡ precommit = eqb-true v precommit e in rw q asks)
    (either (v == blocked) (v == precommit) k)) (either (v == active) (v == blocked || v == precommit) h)

-- ---- the kind of each move

-- one status changes, not to or from committed, not to start, and nobody begins to execute
quiet_at : (s : View) (i t v : ℕ) (m : Net) → (Runs v → Runs (s.status i t)) → v ≢ start → v ≢ committed
    → s.status i t ≢ committed → Kind s (with_statuses s (upd s.status i t v) m)
quiet_at s i t v m r n1 n5 f5 = quiet _ m (λ j u. was Runs s.status i t v j u r)
    (λ j u. was (λ y. y ≡ start) s.status i t v j u (λ h. absurd (n1 h)))
    (λ j u. was (λ y. y ≡ committed) s.status i t v j u (λ h. absurd (n5 h)))
    (λ j u h. upd-put (λ y. y ≡ committed) s.status i t v j u (λ p q. absurd (f5 (rw (p, q) at h))) (λ _. h))

-- those of a set are aborted
quiet_all : (s : View) (i : ℕ) (m : ℕ → Bool) (n : Net) → ((u : ℕ) → m u ≡ true → (s.home u ≡ i) × Runs (s.status i u))
    → Kind s (with_statuses s (λ j u. cond (m u && j == i) aborted (s.status j u)) n)
quiet_all s i m n f = quiet _ n (λ j u. back Runs not-aborted (m u && j == i) (s.status j u))
    (λ j u. back (λ y. y ≡ start) (λ e. omega arith) (m u && j == i) (s.status j u))
    (λ j u. back (λ y. y ≡ committed) (λ e. omega arith) (m u && j == i) (s.status j u))
    (λ j u h. forth j u h (m u) refl (j == i) (cmp j i))
  where
    back : (P : ℕ → Type 0) → (P aborted → ⊥) → (b : Bool) (v : ℕ) → P (cond b aborted v) → P v
    back P never true v h = absurd (never h)
    back P never false v h = h

    forth : (j u : ℕ) → s.status j u ≡ committed → (d : Bool) → m u ≡ d → (e : Bool) → Cmp j i e
        → cond (d && e) aborted (s.status j u) ≡ committed
    forth j u h false k e c = h
    forth j u h true k false c = h
    forth j u h true k true (same q) = absurd (runs_unfinished (f u k).1 (rw q at h))

pub kind : (s s' : View) → Phases s → Move s s' → Kind s s'
kind s s' c (view.create t g) = begins t s.net g
kind s s' c (view.begin_operation t g) =
    quiet_at s (s.home t) t blocked s.net (λ r. runs_active g) (omega arith) (omega arith) (omega arith)
kind s s' c (view.end_operation t p q g x y) = ends t p q g x y
kind s s' c (view.end_away i t ne g) =
    quiet_at s i t precommit s.net (λ r. runs_blocked g) (omega arith) (omega arith) (omega arith)
kind s s' c (view.begin_commit t g) =
    quiet_at s (s.home t) t precommit _ (λ r. runs_active g) (omega arith) (omega arith) (omega arith)
kind s s' c (view.end_commit t b g m) = leads t _ b g (λ j l ne. phase.answered (rw (g, m j) at (c t j l ne)))
kind s s' c (view.quit i m f) = quiet_all s i m _ f
kind s s' c (view.receive_remote i t g m) = still _
kind s s' c (view.receive_ready i t g m) = still _
kind s s' c (view.submit i t ne g m x) = enters i t _ ne g x
kind s s' c (view.receive_commit i t b ne g m) = follows i t _ b ne g (phase.commit_told (rw m at (c t i b ne)))
kind s s' c (view.receive_abort i t b ne m) =
    quiet_at s i t aborted _ not-aborted (omega arith) (omega arith) (phase.abort_told (rw m at (c t i b ne)))
kind s s' c (view.discard_remote i t g) = still _
kind s s' c (view.discard_ready i t g) = still _
