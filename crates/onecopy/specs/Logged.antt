-- Logs, versions and noted reads against L: the clauses Listed, Logged, Stored, Ordered (as Lag), Held-still and Serial.
use Rattle.std.specs.Prelude.{ℕ, ◌+◌, ◌<◌, ◌≡◌, refl, Bool, true, false, not, cond, ◌&&◌, ◌||◌, ◌≢◌, List, [], ◌∷◌, ◌++◌, ◌==◌, nat_lt}
use Rattle.onecopy.specs.Words.{sym, ◌∙◌, ap, false≢true, ⊎_elim, Memᴰ-head, Memᴰ-tail, Memᴰ-append_cases, Memᴰ-eq_of_singleton, Memᴰ-append_left, Memᴰ-append_right, arith, ltb-true, lt-ltb, eqb-false, objects, idle, active, blocked, precommit, committed, either_left, either_right, Cmp, cmp, eqb_same, eqb_other, clash, keep, keep_yes, keep_no, keep_ext, same, other}
use Rattle.onecopy.specs.Statements.{In, Once, ran_on, replay}
use Rattle.onecopy.specs.Tables.{upd, Read, new, old, upd_read, upd-put, was}
use Rattle.onecopy.specs.Histories.{last, last_snoc, replay-last, once_snoc, Lag, lag_last, lag_late, lag_ext, lag_led, lag_followed}
use Rattle.onecopy.specs.Phase as phase
use Rattle.onecopy.specs.Phase.{Away}
use Rattle.onecopy.specs.Phases.{Phases}
use Rattle.onecopy.specs.Views.{View, Net, Sets, Logs, Runs, blocks, asks, holds, notes, ends_operation, commits, appended_at, stored_at}
use Rattle.onecopy.specs.Kinds.{Kind, still, quiet, begins, enters, ends, leads, follows, not-committed, away_runs}
use Rattle.onecopy.specs.Apart.{ApartOf}

-- Serial: run one after another on a copy, each of the list finds the versions that it noted
abbrev pub Serial : Sets → (ℕ → ℕ) → List ℕ → Type 0
Serial x copy [] = Unit {0}
Serial x copy (t ∷ l) = ((o v : ℕ) → x.noted t o ≡ v + 1 → copy o ≡ v) × Serial x (ran_on x.writes copy t) l

serial_snoc : (x : Sets) (copy : ℕ → ℕ) (l : List ℕ) (t : ℕ) → Serial x copy l
    → ((o v : ℕ) → x.noted t o ≡ v + 1 → replay x.writes copy l o ≡ v) → Serial x copy (l ++ (t ∷ []))
serial_snoc x copy [] t h k = (k, tt)
serial_snoc x copy (y ∷ l) t h k = (h.0, serial_snoc x (ran_on x.writes copy y) l t h.1 k)

-- it asks only what those of the list wrote and noted
serial_ext : (x y : Sets) (v w : ℕ → ℕ) (l : List ℕ) → ((o : ℕ) → v o ≡ w o)
    → ((t o : ℕ) → In t l → (x.writes t o ≡ y.writes t o) × (x.noted t o ≡ y.noted t o)) → Serial x v l → Serial y w l
serial_ext x y v w [] e f h = tt
serial_ext x y v w (t ∷ l) e f h = (
  λ o n k. sym (e o) ∙ h.0 o n ((f t o (Memᴰ-head refl)).1 ∙ k),
  serial_ext x y (ran_on x.writes v t) (ran_on y.writes w t) l (λ o. rw ((f t o (Memᴰ-head refl)).0, e o))
      (λ u o m. f u o (Memᴰ-tail m)) h.1,
)

pub record Logged (n : ℕ) (home : ℕ → ℕ) (st : ℕ → ℕ → ℕ) (x : Sets) (y : Logs) : Type 0 where
  -- Listed
  pub list_in : (t : ℕ) → In t y.list → st (home t) t ≡ committed
  pub in_list : (t : ℕ) → st (home t) t ≡ committed → In t y.list
  pub list_once : Once y.list
  -- Logged
  pub log_in : (i t : ℕ) → In t (y.log i) → st i t ≡ committed
  pub in_log : (i t : ℕ) → st i t ≡ committed → In t (y.log i)
  pub log_once : (i : ℕ) → Once (y.log i)
  -- Stored
  pub stored : (i o : ℕ) → i < n → o < objects → y.version i o ≡ last 0 (keep (λ t. x.writes t o) (y.log i))
  -- Ordered
  pub lag : (i o : ℕ) → i < n → Lag (λ t. x.writes t o) (λ t. st i t ≢ committed) y.list (y.log i)
  -- what is noted is an object and has been read
  pub read : (t o v : ℕ) → x.noted t o ≡ v + 1 → (o < objects) × (x.reads t o ≡ true)
  -- Held-still
  pub held_still : (t o v : ℕ) → Runs (st (home t) t) → x.noted t o ≡ v + 1 → y.version (home t) o ≡ v
  -- Serial
  pub serial : Serial x (λ o. 0) y.list

abbrev pub LoggedOf : View → Type 0
LoggedOf s = Logged s.sites s.home s.status s.sets s.logs

-- ---- statuses change, and none is or becomes committed

module _ (n : ℕ) (home : ℕ → ℕ) (x : Sets) (y : Logs) where
  moved : (f g : ℕ → ℕ → ℕ) → ((j u : ℕ) → g j u ≡ committed → f j u ≡ committed)
      → ((j u : ℕ) → f j u ≡ committed → g j u ≡ committed)
      → ((t o v : ℕ) → Runs (g (home t) t) → x.noted t o ≡ v + 1 → y.version (home t) o ≡ v)
      → Logged n home f x y → Logged n home g x y
  moved f g back forth holding h = record {
    list_in = λ u m. forth (home u) u (h.list_in u m);
    in_list = λ u e. h.in_list u (back (home u) u e);
    list_once = h.list_once;
    log_in = λ j u m. forth j u (h.log_in j u m);
    in_log = λ j u e. h.in_log j u (back j u e);
    log_once = h.log_once;
    stored = h.stored;
    lag = λ j o b. lag_late (λ u a c k e. k (back j u e)) (h.lag j o b);
    read = h.read;
    held_still = holding;
    serial = h.serial;
  }

  -- of one status
  moved_at : (f : ℕ → ℕ → ℕ) (i t v : ℕ) → v ≢ committed → f i t ≢ committed
      → ((u o w : ℕ) → Runs (upd f i t v (home u) u) → x.noted u o ≡ w + 1 → y.version (home u) o ≡ w)
      → Logged n home f x y → Logged n home (upd f i t v) x y
  moved_at f i t v new-not old-not =
      moved f (upd f i t v) (λ j u. was (λ z. z ≡ committed) f i t v j u (λ e. absurd (new-not e)))
      (λ j u h. upd-put (λ z. z ≡ committed) f i t v j u (λ p q. absurd (old-not (rw (p, q) at h))) (λ _. h))

-- what is committed elsewhere was so before
far_committed : (f : ℕ → ℕ → ℕ) (i t j u : ℕ) → j ≢ i → upd f i t committed j u ≡ committed → f j u ≡ committed
far_committed f i t j u ne h = go (upd_read (λ y. y ≡ committed) f i t committed j u h)
  where
    go : Read (λ y. y ≡ committed) f i t committed j u → f j u ≡ committed
    go (new _ q _) = absurd (ne q)
    go (old _ z) = z

-- one that passes the test w is late where it was, if t does not pass it
still_late : (f : ℕ → ℕ → ℕ) (i t j u : ℕ) (w : ℕ → Bool) → w t ≡ false → w u ≡ true → f j u ≢ committed
    → upd f i t committed j u ≢ committed
still_late f i t j u w out v k z = go (upd_read (λ y. y ≡ committed) f i t committed j u z)
  where
    go : Read (λ y. y ≡ committed) f i t committed j u → ⊥
    go (new q _ _) = clash v (rw q out)
    go (old _ y) = k y

-- ---- what executes where

module _ (s : View) (c : Phases s) (h : LoggedOf s) where
  -- one of L executes wherever it has not committed
  list_runs : (t j : ℕ) → In t s.logs.list → j < s.sites → s.status j t ≢ committed → Runs (s.status j t)
  list_runs t j m b ne = go (j == s.home t) (cmp j (s.home t))
    where
      go : (d : Bool) → Cmp j (s.home t) d → Runs (s.status j t)
      go true (same e) = absurd (ne (rw e (h.list_in t m)))
      go false (other k) =
          ⊎_elim (λ e. away_runs e) (λ e. absurd (ne e)) (phase.home_committed (rw (h.list_in t m) at (c t j b k)))

  not_listed : (t u v : ℕ) → v ≢ committed → s.status (s.home t) t ≡ v → In u s.logs.list → t ≢ u
  not_listed t u v n g m e = n (sym g ∙ rw e (h.list_in u m))

-- ---- the end of an operation

module _ (s : View) (t : ℕ) (p q : ℕ → Bool) (g : s.status (s.home t) t ≡ blocked) (c : Phases s) (h : LoggedOf s) where
  ends_list : (u : ℕ) → In u s.logs.list → (u == t) ≡ false
  ends_list u m = eqb_other (λ e. not_listed s c h t u blocked (omega arith) g m (sym e))

  ends_log : (i u : ℕ) → i < s.sites → In u (s.logs.log i) → (u == t) ≡ false
  ends_log i u lt m =
      eqb_other {i = u} {j = t} (λ e. go (rw e at (h.log_in i u m)) (i == s.home t) (cmp i (s.home t)))
    where
      go : s.status i t ≡ committed → (d : Bool) → Cmp i (s.home t) d → ⊥
      go f true (same e) = let z : s.status (s.home t) t ≡ committed = rw e at f in omega arith
      go f false (other k) =
          let z : s.status i t ≡ idle = phase.unasked_idle (rw g at (c t i lt k)) in omega arith

  ends_still : (u o v : ℕ) → Runs (upd s.status (s.home t) t active (s.home u) u)
      → (ends_operation s t p q).sets.noted u o ≡ v + 1 → s.logs.version (s.home u) o ≡ v
  ends_still u o v r = go (u == t) (notes s t p o) (cmp u t)
    where
      r' : Runs (s.status (s.home u) u)
      r' = was Runs s.status (s.home t) t active (s.home u) u (λ z. rw g blocks) r

      go : (d e : Bool) → Cmp u t d
          → cond d (cond e (s.logs.version (s.home t) o + 1) (s.sets.noted t o)) (s.sets.noted u o) ≡ v + 1
          → s.logs.version (s.home u) o ≡ v
      go true true (same k) w = rw k (omega arith)
      go true false (same k) w = rw k (h.held_still t o v (rw k at r') w)
      go false e (other k) w = h.held_still u o v r' w

  ends_read : (u o v : ℕ) → (ends_operation s t p q).sets.noted u o ≡ v + 1
      → (o < objects) × ((ends_operation s t p q).sets.reads u o ≡ true)
  ends_read u o v = go (u == t) (nat_lt o objects) refl (p o) (s.sets.reads t o) (s.sets.writes t o) (h.read t o v)
    where
      go : (d b : Bool) → nat_lt o objects ≡ b → (a r w : Bool) → (s.sets.noted t o ≡ v + 1 → (o < objects) × (r ≡ true))
          → cond d (cond (b && (a && not (r || w))) (s.logs.version (s.home t) o + 1) (s.sets.noted t o)) (s.sets.noted u o) ≡ v + 1
          → (o < objects) × (cond d (r || a) (s.sets.reads u o) ≡ true)
      go false b l a r w f e = h.read u o v e
      go true false l a r w f e = let k = f e in (k.0, rw k.1)
      go true true l a true w f e = (ltb-true o objects l, refl)
      go true true l true false w f e = (ltb-true o objects l, refl)
      go true true l false false w f e = absurd (false≢true (f e).1)

  ends_logged : LoggedOf (ends_operation s t p q)
  ends_logged =
      let m =
      moved_at s.sites s.home s.sets s.logs s.status (s.home t) t active (omega arith) (omega arith)
      (λ u o v r. h.held_still u o v (was Runs s.status (s.home t) t active (s.home u) u (λ z. rw g blocks) r)) h in
      record {
        list_in = m.list_in;
        in_list = m.in_list;
        list_once = h.list_once;
        log_in = m.log_in;
        in_log = m.in_log;
        log_once = h.log_once;
        stored = λ i o lt b. h.stored i o lt b ∙ ap (last 0) (keep_ext _ _ (s.logs.log i) (λ u k. rw (ends_log i u lt k)));
        lag = λ i o lt. lag_ext (λ u k. rw (ends_list u k)) (λ u k. rw (ends_log i u lt k)) (m.lag i o lt);
        read = ends_read;
        held_still = ends_still;
        serial =
            serial_ext s.sets (ends_operation s t p q).sets _ _ s.logs.list (λ o. refl)
            (λ u o k. (rw (ends_list u k), rw (ends_list u k))) h.serial;
      }

-- ---- t commits at site i

module _ (s : View) (i t : ℕ) (b : i < s.sites) (g : s.status i t ≡ precommit) (a : ApartOf s) (h : LoggedOf s) where
  committed_here : (j u : ℕ) → u ≡ t → j ≡ i → upd s.status i t committed j u ≡ committed
  committed_here j u d e =
      upd-put (λ y. y ≡ committed) s.status i t committed j u (λ _ _. refl) (λ m. absurd (m d e))

  committed_still : (j u : ℕ) → s.status j u ≡ committed → upd s.status i t committed j u ≡ committed
  committed_still j u k = upd-put (λ y. y ≡ committed) s.status i t committed j u (λ _ _. refl) (λ _. k)

  commits_log_in : (j u : ℕ) → In u (appended_at s.logs.log i t j) → upd s.status i t committed j u ≡ committed
  commits_log_in j u = go (j == i) (cmp j i)
    where
      go : (d : Bool) → Cmp j i d → In u (cond d (s.logs.log j ++ (t ∷ [])) (s.logs.log j))
          → upd s.status i t committed j u ≡ committed
      go true (same e) m =
          ⊎_elim (λ k. committed_still j u (h.log_in j u k)) (λ k. committed_here j u (Memᴰ-eq_of_singleton k) e)
          (Memᴰ-append_cases (s.logs.log j) m)
      go false (other e) m = committed_still j u (h.log_in j u m)

  commits_in_log : (j u : ℕ) → upd s.status i t committed j u ≡ committed → In u (appended_at s.logs.log i t j)
  commits_in_log j u e = go (j == i) (cmp j i) (upd_read (λ y. y ≡ committed) s.status i t committed j u e)
    where
      go : (d : Bool) → Cmp j i d → Read (λ y. y ≡ committed) s.status i t committed j u
          → In u (cond d (s.logs.log j ++ (t ∷ [])) (s.logs.log j))
      go true (same q) (new k l r) = Memᴰ-append_right (s.logs.log j) (Memᴰ-head k)
      go true (same q) (old x r) = Memᴰ-append_left (t ∷ []) (h.in_log j u r)
      go false (other q) (new k l r) = absurd (q l)
      go false (other q) (old x r) = h.in_log j u r

  commits_once : (j : ℕ) → Once (appended_at s.logs.log i t j)
  commits_once j = go (j == i) (cmp j i)
    where
      go : (d : Bool) → Cmp j i d → Once (cond d (s.logs.log j ++ (t ∷ [])) (s.logs.log j))
      go true (same e) = once_snoc (s.logs.log j) t
          (λ m. let z : s.status i t ≡ committed = rw e at (h.log_in j t m) in omega arith) (h.log_once j)
      go false (other e) = h.log_once j

  commits-stored : (j o : ℕ) → j < s.sites → o < objects → stored_at s.logs.version s.sets.writes i t j o
      ≡ last 0 (keep (λ u. s.sets.writes u o) (appended_at s.logs.log i t j))
  commits-stored j o lt k = rw (lt-ltb o objects k) (go (j == i) (s.sets.writes t o) refl)
    where
      go : (d e : Bool) → s.sets.writes t o ≡ e → cond (d && e) (t + 1) (s.logs.version j o)
          ≡ last 0 (keep (λ u. s.sets.writes u o) (cond d (s.logs.log j ++ (t ∷ [])) (s.logs.log j)))
      go true true e = rw (keep_yes (λ u. s.sets.writes u o) (s.logs.log j) t e)
          (sym (last_snoc 0 (keep (λ u. s.sets.writes u o) (s.logs.log j)) t))
      go true false e = rw (keep_no (λ u. s.sets.writes u o) (s.logs.log j) t e) (h.stored j o lt k)
      go false e _ = h.stored j o lt k

  commits_still : (u o v : ℕ) → Runs (upd s.status i t committed (s.home u) u) → s.sets.noted u o ≡ v + 1
      → stored_at s.logs.version s.sets.writes i t (s.home u) o ≡ v
  commits_still u o v r n = go (s.home u == i) (nat_lt o objects) (s.sets.writes t o) (cmp (s.home u) i) refl
      (upd_read Runs s.status i t committed (s.home u) u r)
    where
      go : (d l e : Bool) → Cmp (s.home u) i d → s.sets.writes t o ≡ e → Read Runs s.status i t committed (s.home u) u
          → cond (d && (l && e)) (t + 1) (s.logs.version (s.home u) o) ≡ v
      go d l e q w (new _ _ k) = not-committed k
      go false l e q w (old x k) = h.held_still u o v k n
      go true false e q w (old x k) = h.held_still u o v k n
      go true true false q w (old x k) = h.held_still u o v k n
      go true true true (same q) w (old x k) =
          let f : holds s.home s.sets i u o ≡ false =
          a.apart i t u o b (λ z. x (sym z) q) (rw g asks) (rw q at k) w in
          clash (h.read u o v n).1 (rw (q, eqb_same) at (either_right (s.sets.writes u o) _ f))

-- ---- t commits at home

module _ (s : View) (t : ℕ) (b : s.home t < s.sites) (g : s.status (s.home t) t ≡ precommit)
    (x : (j : ℕ) → j < s.sites → j ≢ s.home t → Away (s.status j t)) (c : Phases s) (a : ApartOf s) (h : LoggedOf s) where
  -- t executes everywhere
  runs_all : (j : ℕ) → j < s.sites → Runs (s.status j t)
  runs_all j lt = go (j == s.home t) (cmp j (s.home t))
    where
      go : (d : Bool) → Cmp j (s.home t) d → Runs (s.status j t)
      go true (same e) = rw (e, g) asks
      go false (other k) = away_runs (x j lt k)

  -- so an earlier writer of what it writes has committed everywhere
  no_late : (j o u : ℕ) → j < s.sites → s.sets.writes t o ≡ true → In u s.logs.list → s.sets.writes u o ≡ true
      → s.status j u ≢ committed → ⊥
  no_late j o u lt w m v ne = clash v (either_left (s.sets.writes u o) _
      (a.apart j t u o lt (not_listed s c h t u precommit (omega arith) g m) (runs_all j lt) (list_runs s c h u j m lt ne) w))

  -- and an earlier writer of what it has noted has committed at its home
  no_unread : (o v u : ℕ) → s.sets.noted t o ≡ v + 1 → In u s.logs.list → s.sets.writes u o ≡ true
      → s.status (s.home t) u ≢ committed → ⊥
  no_unread o v u n m w ne = clash (h.read t o v n).1 (rw eqb_same at (either_right (s.sets.writes t o) _
      (a.apart (s.home t) u t o b (λ z. not_listed s c h t u precommit (omega arith) g m (sym z))
      (list_runs s c h u (s.home t) m b ne) (runs_all (s.home t) b) w)))

  leads_lag : (j o : ℕ) → j < s.sites
      → Lag (λ u. s.sets.writes u o) (λ u. upd s.status (s.home t) t committed j u ≢ committed)
      (s.logs.list ++ (t ∷ [])) (appended_at s.logs.log (s.home t) t j)
  leads_lag j o lt =
      lag_led s.logs.list (s.logs.log j) t (j == s.home t) (λ w u m v k. no_late j o u lt w m v k)
      (λ q z.
      let far : j ≢ s.home t = eqb-false j (s.home t) q in
      phase.away_unfinished (x j lt far) (far_committed s.status (s.home t) t j t far z))
      (λ w u v k. still_late s.status (s.home t) t j u (λ u. s.sets.writes u o) w v k) (h.lag j o lt)

  leads_logged : (m : Net) → LoggedOf (commits s (s.home t) t m (s.logs.list ++ (t ∷ [])))
  leads_logged m = record {
    list_in = λ u k.
        ⊎_elim (λ y. committed_still s (s.home t) t b g a h (s.home u) u (h.list_in u y))
        (λ y.
        let e : u ≡ t = Memᴰ-eq_of_singleton y in
        committed_here s (s.home t) t b g a h (s.home u) u e (rw e))
        (Memᴰ-append_cases s.logs.list k);
    in_list = λ u e. in_list u (upd_read (λ y. y ≡ committed) s.status (s.home t) t committed (s.home u) u e);
    list_once =
        once_snoc s.logs.list t (λ m. not_listed s c h t t precommit (omega arith) g m refl) h.list_once;
    log_in = commits_log_in s (s.home t) t b g a h;
    in_log = commits_in_log s (s.home t) t b g a h;
    log_once = commits_once s (s.home t) t b g a h;
    stored = commits-stored s (s.home t) t b g a h;
    lag = leads_lag;
    read = h.read;
    held_still = commits_still s (s.home t) t b g a h;
    serial = serial_snoc s.sets (λ o. 0) s.logs.list t h.serial (λ o v n.
        replay-last s.sets.writes (λ o. 0) s.logs.list o
        ∙ sym (lag_last 0 (h.lag (s.home t) o b) (λ u k w ne. no_unread o v u n k w ne))
        ∙ sym (h.stored (s.home t) o b (h.read t o v n).0) ∙ h.held_still t o v (runs_all (s.home t) b) n);
  }
    where
      in_list : (u : ℕ) → Read (λ y. y ≡ committed) s.status (s.home t) t committed (s.home u) u
          → In u (s.logs.list ++ (t ∷ []))
      in_list u (new q _ _) = Memᴰ-append_right s.logs.list (Memᴰ-head q)
      in_list u (old _ z) = Memᴰ-append_left (t ∷ []) (h.in_list u z)

-- ---- t commits away from home

module _ (s : View) (i t : ℕ) (b : i < s.sites) (far : i ≢ s.home t) (g : s.status i t ≡ precommit)
    (told : s.status (s.home t) t ≡ committed) (a : ApartOf s) (h : LoggedOf s) where
  follows_lag : (j o : ℕ) → j < s.sites
      → Lag (λ u. s.sets.writes u o) (λ u. upd s.status i t committed j u ≢ committed) s.logs.list
      (appended_at s.logs.log i t j)
  follows_lag j o lt = go (j == i) (cmp j i)
    where
      go : (d : Bool) → Cmp j i d
          → Lag (λ u. s.sets.writes u o) (λ u. upd s.status i t committed j u ≢ committed) s.logs.list
          (cond d (s.logs.log j ++ (t ∷ [])) (s.logs.log j))
      go false (other q) = lag_late (λ u _ _ k z. k (far_committed s.status i t j u q z)) (h.lag j o lt)
      go true (same q) =
          lag_followed s.logs.list (s.logs.log j) t (h.in_list t told)
          (λ m. let z : s.status i t ≡ committed = rw q at (h.log_in j t m) in omega arith)
          (λ w u v k. still_late s.status i t j u (λ u. s.sets.writes u o) w v k) (h.lag j o lt)

  follows_logged : (m : Net) → LoggedOf (commits s i t m s.logs.list)
  follows_logged m = record {
    list_in = λ u k. committed_still s i t b g a h (s.home u) u (h.list_in u k);
    in_list = λ u e. in_list u (upd_read (λ y. y ≡ committed) s.status i t committed (s.home u) u e);
    list_once = h.list_once;
    log_in = commits_log_in s i t b g a h;
    in_log = commits_in_log s i t b g a h;
    log_once = commits_once s i t b g a h;
    stored = commits-stored s i t b g a h;
    lag = follows_lag;
    read = h.read;
    held_still = commits_still s i t b g a h;
    serial = h.serial;
  }
    where
      in_list : (u : ℕ) → Read (λ y. y ≡ committed) s.status i t committed (s.home u) u → In u s.logs.list
      in_list u (new q e _) = absurd (far (sym e ∙ rw q))
      in_list u (old _ z) = h.in_list u z

pub logged_kept : (s s' : View) → Phases s → ApartOf s → Kind s s' → LoggedOf s → LoggedOf s'
logged_kept s s' c a (still m) h = h
logged_kept s s' c a (quiet f m r e back forth) h =
    moved s.sites s.home s.sets s.logs s.status f back forth
    (λ u o v k. h.held_still u o v (r (s.home u) u k)) h
logged_kept s s' c a (begins t m g) h =
    moved_at s.sites s.home s.sets s.logs s.status (s.home t) t active (omega arith) (omega arith)
    (λ u o v k n. go u o v n (upd_read Runs s.status (s.home t) t active (s.home u) u k)) h
  where
    go : (u o v : ℕ) → s.sets.noted u o ≡ v + 1 → Read Runs s.status (s.home t) t active (s.home u) u
        → s.logs.version (s.home u) o ≡ v
    go u o v n (new q _ _) =
        absurd (let z : s.sets.noted t o ≡ v + 1 = rw q at n in omega (arith, a.fresh_noted t o g))
    go u o v n (old _ r) = h.held_still u o v r n
logged_kept s s' c a (enters i t m ne g k) h =
    moved_at s.sites s.home s.sets s.logs s.status i t blocked (omega arith) (omega arith)
    (λ u o v r n. go u o v n (upd_read Runs s.status i t blocked (s.home u) u r)) h
  where
    go : (u o v : ℕ) → s.sets.noted u o ≡ v + 1 → Read Runs s.status i t blocked (s.home u) u
        → s.logs.version (s.home u) o ≡ v
    go u o v n (new q e _) = absurd (ne (sym e ∙ rw q))
    go u o v n (old _ r) = h.held_still u o v r n
logged_kept s s' c a (ends t p q g k l) h = ends_logged s t p q g c h
logged_kept s s' c a (leads t m lt g e) h = leads_logged s t lt g e c a h m
logged_kept s s' c a (follows i t m lt ne g told) h = follows_logged s i t lt ne g told a h m
