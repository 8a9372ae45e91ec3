-- Every action that is enabled, and so every event and every list of events, refused ones among them, keeps the invariant
-- with L and the costs of the run so far.
use Rattle.std.specs.Prelude.{ℕ, ◌+◌, ◌<◌, ◌≡◌, refl, Bool, true, false, not, cond, ◌&&◌, ◌||◌, List, [], ◌∷◌, ◌++◌, ◌==◌}
use Rattle.onecopy.specs.Words.{sym, ap, ap₂, ◌∙◌, fun_ext, subst, append-nil, append_assoc, arith, eqb-true, eqb-false, not-true, eq-eqb, ne_eqb, width, has, none, is_empty, size, has-none, size_none, idle, active, blocked, precommit, committed, aborted, txn_at, place_at, at_home, with_status, with_txn, ended, others, scan_from, is, away, clash_at, only, Remote, Ready, Commit, Abort, Action, Create, BeginOperation, EndOperation, BeginCommit, EndCommit, LocalAbort, Receive, ExecuteRemote, Discard, State, Test, yes_so, not_so, test, both_left, both_right, add-zero, add_assoc, action_of, answer, step, Event, total, total-zero, total_add, Below, below_none, below_with, sites_fit, count_fits, has-only, has-others, size-only, Fine, effect_fine, scan_keeps, scanned, Scanning, scanning, scanning_first, eqb_sym, doable, step-done, step-refused}
use Rattle.laws.specs.Tests.{Same, same, other, same?}
use Rattle.laws.specs.Ranged.{step_counts}
use Rattle.protocol.specs.Database.{woken, commit_here}
use Rattle.protocol.specs.Channel.{lies}
use Rattle.protocol.specs.Scan.{scan, scan_leaves}
use Rattle.protocol.specs.Figure.{enabled, effect}
use Rattle.onecopy.specs.Statements.{commits_home, Sendings, nothing, sendings, sent_about, listed, cost}
use Rattle.onecopy.specs.Tables.{more}
use Rattle.onecopy.specs.Views.{View, besides}
use Rattle.onecopy.specs.Kept.{Good}
use Rattle.onecopy.specs.Seen.{seen}
use Rattle.onecopy.specs.Actions as acts
use Rattle.onecopy.specs.Scan.{aborts_of, readies_of, scan_spent, scan_good}
use Rattle.onecopy.specs.Costs.{total-more, cast_total, home_total, about_is, sum_is}
use Rattle.protocol.specs.Answer.{done}
use Rattle.protocol.specs.Run.{state_after, sent_by}

-- a state that a run came to with L and with what it has spent about each transaction
pub record Reached (s : State) (l : List ℕ) (costs : ℕ → ℕ) : Type 0 where
  pub fine : Fine s
  pub spent : ℕ → ℕ → ℕ
  pub good : Good (seen s l spent)
  pub counted : (u : ℕ) → total s.sites (λ j. spent j u) ≡ costs u

-- ---- what is sent

-- the scan's messages are about transactions of the table
pub scanned_below : (s : State) (i : ℕ) → Fine s → i < s.sites
    → Below s.count (scanned s i).aborts × Below s.count (scanned s i).readies
scanned_below s i f hi =
    let first = scanning_first s i f hi in
    let end =
    scan_keeps s.count s.txns i (Scanning s.count s.txns i (place_at s i).log)
    (scanning s.count s.txns i (place_at s i).log) (scan_from s i) first.0 first.1 in
    (end.aborts, end.readies)

module _ (s : State) (f : Fine s) (i t : ℕ) (hi : i < s.sites) (ht : t < s.count) where
  t_fits : t < width
  t_fits = omega (arith, count_fits s f.ranged.table)

  only_below : Below s.count (only t)
  only_below = below_with s.count none t (below_none s.count) ht

  -- an action that sends nothing
  silent_about : (u : ℕ) → sent_about s i nothing u ≡ 0
  silent_about u = about_is s f i nothing (below_none s.count) u ∙ rw (has-none u)

  silent_sum : total s.count (λ u. sent_about s i nothing u) ≡ 0
  silent_sum = ap (total s.count) (fun_ext silent_about) ∙ total-zero s.count

  -- "A run's answer gives the sum": what an action sends in all is what it sends about each transaction, summed up
  pub sent_is : (a : Action) → (effect a s i t).sent ≡ total s.count (λ u. sent_about s i (sendings a s i t) u)
  unfolding effect sendings scan scan_leaves
  sent_is Create = sym silent_sum
  sent_is (BeginOperation r w) = sym silent_sum
  sent_is EndOperation = sym silent_sum
  sent_is BeginCommit = sym
      (sum_is s f i _ only_below (below_none s.count) (below_none s.count) (below_none s.count)
      ∙ rw (size-only t t_fits, size_none width) (omega arith))
  sent_is EndCommit = sym
      (sum_is s f i _ (below_none s.count) (below_none s.count) only_below (below_none s.count)
      ∙ rw (size-only t t_fits, size_none width) (omega arith))
  sent_is LocalAbort = sym silent_sum
  sent_is (Receive Remote) = sym silent_sum
  sent_is (Receive (Ready k)) = sym silent_sum
  sent_is (Receive Commit) = sym silent_sum
  sent_is (Receive Abort) = sym silent_sum
  sent_is ExecuteRemote =
      let b = scanned_below s i f hi in
      sym
      (sum_is s f i _ (below_none s.count) b.1 (below_none s.count) b.0
      ∙ rw (size_none width) (omega arith))
  sent_is (Discard m) = sym silent_sum

-- ---- what an action does

module _ (s : State) (l : List ℕ) (costs : ℕ → ℕ) (r : Reached s l costs) (i t : ℕ) (hi : i < s.sites) (ht : t < s.count) where
  -- what has to be shown of an action
  abbrev Then : Action → Type 0
  Then a = Reached (effect a s i t).state (l ++ commits_home a t) (λ u. costs u + sent_about s i (sendings a s i t) u)

  abbrev v : View
  v = seen s l r.spent

  -- t is at home: what holds of its home holds of i
  at_home_lem : (P : ℕ → Type 0) → at_home s i t ≡ true → P (txn_at s t).home → P i
  at_home_lem P e p = subst P (eqb-true (txn_at s t).home i e) p

  -- t is away from home
  from_home : away s i t ≡ true → i ≡ (txn_at s t).home → ⊥
  from_home e q = eqb-false (txn_at s t).home i (not-true (at_home s i t) e) (sym q)

  -- an action that is enabled at site j keeps the invariant, where it spends nothing ..
  abbrev Keeps : Action → ℕ → Type 0
  Keeps a j = enabled a s j t ≡ true → Good (seen (effect a s j t).state l r.spent)

  -- .. and where it spends one message about t for each other site, and L is then l'
  abbrev spends : ℕ → ℕ → ℕ → ℕ
  spends j = more r.spent (λ k u. u == t && besides v j k)

  abbrev Casts : Action → List ℕ → ℕ → Type 0
  Casts a l' j = enabled a s j t ≡ true → Good (seen (effect a s j t).state l' (spends j))

  -- the other sites are counted once each
  cast_counts : (b : Bool) → total s.sites (λ j. cond (b && besides v i j) 1 0) ≡ cond b (size (others s i)) 0
  cast_counts b =
      ap (total s.sites)
      (fun_ext (λ j. ap (λ (d : Bool). cond (b && d) 1 0) (sym (has-others s i j (sites_fit s r.fine.ranged.table)))))
      ∙ cast_total s r.fine i b

  cast_counted : (x : Sendings) → ((u : ℕ) → sent_about s i x u ≡ cond (u == t) (size (others s i)) 0) → (u : ℕ)
      → total s.sites (λ j. spends i j u) ≡ costs u + sent_about s i x u
  cast_counted x e u =
      total-more s.sites r.spent (λ j u. u == t && besides v i j) u
      ∙ ap₂ ◌+◌ (r.counted u) (cast_counts (u == t) ∙ sym (e u))

  -- the scan's messages: abort to the other sites, and ready from here
  scan_counted : (u : ℕ) → total s.sites (λ j. scan_spent s l r.spent i (scanned s i) j u)
      ≡ costs u + sent_about s i (sendings ExecuteRemote s i t) u
  unfolding sendings
  scan_counted u =
      let A = aborts_of s l r.spent i (scanned s i) in
      let aborts : ℕ = cond (has (scanned s i).aborts u) (size (others s i)) 0 in
      let readies : ℕ = cond (has (scanned s i).readies u) 1 0 in
      let from_here : total s.sites (λ j. cond (has (scanned s i).readies u && j == i) 1 0) ≡ readies =
      ap (total s.sites) (fun_ext (λ j. ap (λ (d : Bool). cond (has (scanned s i).readies u && d) 1 0) (eqb_sym j i)))
      ∙ home_total s r.fine i i (has (scanned s i).readies u) (λ e. hi) in
      let about : sent_about s i (sendings ExecuteRemote s i t) u ≡ readies + aborts =
      about_is s r.fine i _ (scanned_below s i r.fine hi).1 u ∙ rw (has-none u) (omega arith) in
      total-more s.sites (more r.spent A) (readies_of s l r.spent i (scanned s i)) u
      ∙ ap₂ ◌+◌ (total-more s.sites r.spent A u ∙ ap₂ ◌+◌ (r.counted u) (cast_counts (has (scanned s i).aborts u)))
      from_here
      ∙ rw about (omega arith)

  -- an action that sends nothing and commits nothing at home
  quietly : (s' : State) → Fine s' → s'.sites ≡ s.sites → Good (seen s' l r.spent)
      → Reached s' (l ++ []) (λ u. costs u + sent_about s i nothing u)
  quietly s' f e g = record {
    fine = f;
    spent = r.spent;
    good = rw (append-nil l) g;
    counted = λ u. rw (e, silent_about s r.fine i t hi ht u) (r.counted u ∙ omega arith);
  }

  pub acted : (a : Action) → enabled a s i t ≡ true → Then a
  unfolding effect enabled sendings commits_home lies woken commit_here scan scan_leaves
  acted Create h =
      quietly _ (effect_fine s i t r.fine hi ht Create h) refl
      (at_home_lem (Keeps Create) (both_left _ _ h)
      (λ e. acts.creates s l r.spent r.fine r.good t ht (both_right (at_home s (txn_at s t).home t) _ e)) h)
  acted (BeginOperation x y) h =
      quietly _ (effect_fine s i t r.fine hi ht (BeginOperation x y) h) refl
      (at_home_lem (Keeps (BeginOperation x y)) (both_left _ _ h)
      (λ e. acts.begins_operation_lem s l r.spent r.fine r.good t ht x y (both_right (at_home s (txn_at s t).home t) _ e)) h)
  acted EndOperation h = go (test (at_home s i t)) (effect_fine s i t r.fine hi ht EndOperation h)
    where
      ended_at : ℕ → State
      ended_at j = with_status (with_txn s t (ended (txn_at s t) (place_at s j))) j t active

      go : Test (at_home s i t) → Fine (cond (at_home s i t) (ended_at i) (with_status s i t precommit))
          → Reached (cond (at_home s i t) (ended_at i) (with_status s i t precommit)) (l ++ []) (λ u. costs u + sent_about s i nothing u)
      go (yes_so e) = rw e (λ f.
          quietly (ended_at i) f refl
          (at_home_lem (λ j. is s j t blocked ≡ true → clash_at s j t ≡ false → Good (seen (ended_at j) l r.spent)) e
          (acts.ends_operation_lem s l r.spent r.fine r.good t ht) (both_left _ _ h)
          (rw e at (not-true (at_home s i t && clash_at s i t) (both_right (is s i t blocked) _ h)))))
      go (not_so e) = rw e (λ f.
          quietly (with_status s i t precommit) f refl
          (acts.ends_away s l r.spent r.fine r.good i t hi ht (λ q. eqb-false (txn_at s t).home i e (sym q)) (both_left _ _ h)))
  acted BeginCommit h = record {
    fine = effect_fine s i t r.fine hi ht BeginCommit h;
    spent = spends i;
    good =
        rw (append-nil l)
        (at_home_lem (Casts BeginCommit l) (both_left _ _ h)
        (λ e. acts.begins_commit_lem s l r.spent r.fine r.good t ht (both_right (at_home s (txn_at s t).home t) _ e)) h);
    counted = cast_counted _ (λ u.
        about_is s r.fine i _ (below_none s.count) u ∙ rw (has-only t u (t_fits s r.fine i t hi ht), has-none u) (omega arith));
  }
  acted EndCommit h = record {
    fine = effect_fine s i t r.fine hi ht EndCommit h;
    spent = spends i;
    good =
        at_home_lem (Casts EndCommit (l ++ (t ∷ []))) (both_left _ _ h) (λ e.
        let rest = both_right (at_home s (txn_at s t).home t) _ e in
        acts.ends_commit_lem s l r.spent r.fine r.good t ht (both_left _ _ rest)
        (both_right (is s (txn_at s t).home t precommit) _ rest)) h;
    counted = cast_counted _ (λ u.
        about_is s r.fine i _ (below_none s.count) u ∙ rw (has-only t u (t_fits s r.fine i t hi ht), has-none u) (omega arith));
  }
  acted LocalAbort h =
      quietly _ (effect_fine s i t r.fine hi ht LocalAbort h) refl
      (at_home_lem (Keeps LocalAbort) (both_left _ _ h)
      (λ e. acts.aborts_local s l r.spent r.fine r.good t ht (both_right (at_home s (txn_at s t).home t) _ e)) h)
  acted (Receive Remote) h =
      let rest = both_right (away s i t) _ h in
      quietly _ (effect_fine s i t r.fine hi ht (Receive Remote) h) refl
      (acts.receives_remote s l r.spent r.fine r.good i t hi ht (both_left _ _ rest) (both_right (is s i t idle) _ rest))
  acted (Receive (Ready k)) h =
      quietly _ (effect_fine s i t r.fine hi ht (Receive (Ready k)) h) refl
      (at_home_lem (Keeps (Receive (Ready k))) (both_left _ _ h) (λ e.
      let rest = both_right (at_home s (txn_at s t).home t) _ e in
      acts.receives_ready s l r.spent r.fine r.good t ht k (both_left _ _ rest)
      (both_right (not (is_empty (txn_at s t).missing)) _ (both_right (is s (txn_at s t).home t precommit) _ rest))) h)
  acted (Receive Commit) h =
      let rest = both_right (away s i t) _ h in
      quietly _ (effect_fine s i t r.fine hi ht (Receive Commit) h) refl
      (acts.receives_commit s l r.spent r.fine r.good i t hi ht (from_home (both_left _ _ h)) (both_left _ _ rest)
      (both_right (is s i t precommit) _ rest))
  acted (Receive Abort) h =
      let rest = both_right (away s i t) _ h in
      quietly _ (effect_fine s i t r.fine hi ht (Receive Abort) h) refl
      (acts.receives_abort s l r.spent r.fine r.good i t hi ht (from_home (both_left _ _ h))
      (both_right (not (is s i t committed || is s i t aborted)) _ rest))
  acted ExecuteRemote h = record {
    fine = effect_fine s i t r.fine hi ht ExecuteRemote h;
    spent = scan_spent s l r.spent i (scanned s i);
    good = rw (append-nil l) (scan_good s l r.spent i r.fine hi r.good);
    counted = scan_counted;
  }
  acted (Discard m) h =
      quietly _ (effect_fine s i t r.fine hi ht (Discard m) h) refl
      (acts.discards s l r.spent r.fine r.good i t hi ht m (both_left _ _ h) (both_right (is s i t aborted) _ h))

-- ---- events

-- what one event adds to L and to the costs
abbrev new_listed : State → Event → List ℕ
new_listed s e = cond (answer s e == 0) (commits_home (action_of e) e.txn) []

abbrev new_cost : State → Event → ℕ → ℕ
new_cost s e = λ u. cond (answer s e == 0) (sent_about s e.site (sendings (action_of e) s e.site e.txn) u) 0

-- one event
module _ (s : State) (e : Event) where
  stepped : (l : List ℕ) (costs : ℕ → ℕ) → Reached s l costs
      → Reached (step s e).state (l ++ new_listed s e) (λ u. costs u + new_cost s e u)
  stepped l costs r = go (same? (answer s e) 0)
    where
      go : Same (answer s e) 0 → Reached (step s e).state (l ++ new_listed s e) (λ u. costs u + new_cost s e u)
      go (same z) =
          let d = doable s e z in
          rw (step-done s e z, z)
          (unfold done in (acted s l costs r e.site e.txn d.site d.txn (action_of e) d.on))
      go (other n) = simp (step-refused s e n, ne_eqb (answer s e) 0 n, append-nil, add-zero) r

  step_sent : Fine s → (step s e).sent ≡ total s.count (new_cost s e)
  step_sent f = go (same? (answer s e) 0)
    where
      -- the sum, where b says whether the event is done
      sum : Bool → ℕ
      sum b = total s.count (λ u. cond b (sent_about s e.site (sendings (action_of e) s e.site e.txn) u) 0)

      go : Same (answer s e) 0 → (step s e).sent ≡ total s.count (new_cost s e)
      go (same z) =
          let d = doable s e z in
          rw (step-done s e z)
          (unfold done in
          (sent_is s f e.site e.txn d.site d.txn (action_of e) ∙ ap sum (sym (eq-eqb (answer s e) 0 z))))
      go (other n) = rw (step-refused s e n) (sym (total-zero s.count) ∙ ap sum (sym (ne_eqb (answer s e) 0 n)))

-- a list of events
pub ran : (s : State) (es : List Event) (l : List ℕ) (costs : ℕ → ℕ) → Reached s l costs
    → Reached (state_after s es) (l ++ listed s es) (λ u. costs u + cost s es u)
unfolding state_after listed cost
ran s [] l costs r = simp (append-nil, add-zero) r
ran s (e ∷ es) l costs r = simp (append_assoc, add_assoc) at (ran (step s e).state es _ _ (stepped s e l costs r))

-- "the run's sum is the sum of these costs"
pub ran_sent : (s : State) (es : List Event) (l : List ℕ) (costs : ℕ → ℕ) → Reached s l costs
    → sent_by s es ≡ total s.count (cost s es)
unfolding sent_by cost
ran_sent s [] l costs r = sym (total-zero s.count)
ran_sent s (e ∷ es) l costs r = ap₂ ◌+◌ (step_sent s e r.fine)
    (ran_sent (step s e).state es _ _ (stepped s e l costs r)
    ∙ ap (λ (n : ℕ). total n (cost (step s e).state es)) (step_counts s e).1)
    ∙ sym (total_add s.count (new_cost s e) (cost (step s e).state es))
