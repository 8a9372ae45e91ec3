-- The claims of Statements.antt, proved: of every state that a run comes to from an accepted setup, and of what a run
-- returns.
use Rattle.std.specs.Prelude.{ℕ, ◌+◌, ◌*◌, ◌-◌, ◌≤◌, ◌<◌, ◌≡◌, refl, Bool, true, false, cond, ◌&&◌, ◌≢◌, List, [], ◌∷◌, ◌++◌, ◌==◌, nat_lt}
use Rattle.onecopy.specs.Words.{sym, ◌∙◌, or-true, ⊎_elim, zero-add, arith, lt-ltb, ltb-true, eqb-true, eqb-false, not-true, has, none, idle, active, precommit, committed, aborted, status_at, place_at, txn_at, at_home, setup_answer, setup, scan_from, others, only, action_of, state_after, sent_by, run_answer, run, Message, Remote, Ready, Commit, Abort, Action, Create, BeginOperation, EndOperation, BeginCommit, EndCommit, LocalAbort, Receive, ExecuteRemote, Discard, Entry, Event, State, both_left, both_right, sites_fit, count_fits, in_none, total_same, total_smaller, has-only, has-others, site_stands, home_fits, scan-parts, scan-asks, scanned, scanning_first, doable, run-done, Cmp, cmp, clash, same, other}
use Rattle.std.proofs.Common.{ap, subst, Ok}
use Rattle.protocol.specs.Channel.{lies}
use Rattle.protocol.specs.Refusals.{answer_of, sent_of, ran as in_numbers}
use Rattle.protocol.specs.Run.{Ran, events_of}
use Rattle.protocol.specs.declared.Answered.{Answered}
use Rattle.laws.specs.Tests.{Same, same?}
use Rattle.laws.specs.Tests as tests
use Rattle.laws.specs.Enabled.{run-refused}
use Rattle.laws.specs.Ranged.{after_counts}
use Rattle.protocol.specs.Figure.{enabled}
use Rattle.onecopy.specs.Statements.{In, listed, writes_of, ran_on, replay, Sendings, nothing, sendings, sends, cost, OneFate, SerialCopies, OneCopy}
use Rattle.onecopy.specs.Histories.{replay-last, in_order, lag_last}
use Rattle.onecopy.specs.Phase as phase
use Rattle.onecopy.specs.Phases.{own-quiet, own_spent}
use Rattle.onecopy.specs.Kept.{quiet-there}
use Rattle.onecopy.specs.Views.{View, Sets}
use Rattle.onecopy.specs.Logged.{Serial}
use Rattle.onecopy.specs.Seen.{seen}
use Rattle.onecopy.specs.Scan.{Turned, scan_turned}
use Rattle.onecopy.specs.Costs.{total_rest}
use Rattle.onecopy.specs.Run.{Reached, scanned_below, ran, ran_sent}
use Rattle.onecopy.specs.Fresh.{setup_reached}

-- what one of a list noted is what those before it leave
serial_at : (x : Sets) (copy : ℕ → ℕ) (before : List ℕ) (t : ℕ) (after : List ℕ) → Serial x copy (before ++ (t ∷ after))
    → (o v : ℕ) → x.noted t o ≡ v + 1 → replay x.writes copy before o ≡ v
serial_at x copy [] t after h o v e = h.0 o v e
serial_at x copy (y ∷ l) t after h o v e = serial_at x (ran_on x.writes copy y) l t after h.1 o v e

-- ---- what holds of every state that a run comes to

module _ (s : State) (l : List ℕ) (costs : ℕ → ℕ) (r : Reached s l costs) where
  abbrev view : View
  view = seen s l r.spent

  -- a status that is there is seen, and one that is seen and not idle is there
  see : (i t v : ℕ) → t < s.count → status_at s i t ≡ v → view.status i t ≡ v
  see i t v b e = rw (lt-ltb t s.count b) e

  there : (i t v : ℕ) → v ≢ idle → view.status i t ≡ v → (t < s.count) × (status_at s i t ≡ v)
  there i t v n = go (nat_lt t s.count) refl
    where
      go : (b : Bool) → nat_lt t s.count ≡ b → cond b (status_at s i t) idle ≡ v → (t < s.count) × (status_at s i t ≡ v)
      go true e q = (ltb-true t s.count e, q)
      go false e q = absurd (n (sym q))

  listed-there : (t : ℕ) → In t l → (t < s.count) × (status_at s (txn_at s t).home t ≡ committed)
  listed-there t m = there (txn_at s t).home t committed (λ e. omega arith) (r.good.logged.list_in t m)

  fate : OneFate s
  fate t i j b bi bj x y =
      let z : ◌≡◌ {A = ℕ} committed aborted =
      sym (at_commit (i == view.home t) (cmp i (view.home t))) ∙ at_abort (j == view.home t) (cmp j (view.home t)) in
      omega arith
    where
      at_commit : (d : Bool) → Cmp i (view.home t) d → view.status (view.home t) t ≡ committed
      at_commit true (same e) = rw e at (see i t committed b x)
      at_commit false (other e) = phase.site_committed (rw (see i t committed b x) at (r.good.phases t i bi e))

      at_abort : (d : Bool) → Cmp j (view.home t) d → view.status (view.home t) t ≡ aborted
      at_abort true (same e) = rw e at (see j t aborted b y)
      at_abort false (other e) = phase.site_aborted (rw (see j t aborted b y) at (r.good.phases t j bj e))

  copies : SerialCopies s l
  copies i bi all o bo = r.good.logged.stored i o bi bo
      ∙ lag_last 0 (r.good.logged.lag i o bi) (λ t m w ne. ne (see i t committed (listed-there t m).0 (all t m)))
      ∙ sym (replay-last (writes_of s) (λ o. 0) l o)

  -- ---- messages

  -- each other site has had at most three messages, and just three where home has committed
  abbrev most : ℕ → ℕ → ℕ
  most t j = cond ((txn_at s t).home == j) 0 3

  costs_bound : (t : ℕ) → t < s.count → costs t ≤ 3 * (s.sites - 1)
  costs_bound t b = rw (← r.counted t, ← total_rest s.sites (txn_at s t).home (home_fits s r.fine t b))
      (total_smaller s.sites (λ j. r.spent j t) (most t) (λ j l. go j l ((txn_at s t).home == j) (cmp (txn_at s t).home j)))
    where
      go : (j : ℕ) → j < s.sites → (d : Bool) → Cmp (txn_at s t).home j d → r.spent j t ≤ cond d 0 3
      go j l true (same e) = rw (← e) (omega (arith, own_spent (r.good.own t)))
      go j l false (other e) = phase.spent_most (r.good.phases t j l (λ q. e (sym q)))

  costs_committed : (t : ℕ) → t < s.count → status_at s (txn_at s t).home t ≡ committed → costs t ≡ 3 * (s.sites - 1)
  costs_committed t b c = sym (r.counted t)
      ∙ total_same s.sites (λ j. r.spent j t) (most t) (λ j l. go j l ((txn_at s t).home == j) (cmp (txn_at s t).home j))
      ∙ total_rest s.sites (txn_at s t).home (home_fits s r.fine t b)
    where
      go : (j : ℕ) → j < s.sites → (d : Bool) → Cmp (txn_at s t).home j d → r.spent j t ≡ cond d 0 3
      go j l true (same e) = rw (← e) (own_spent (r.good.own t))
      go j l false (other e) =
          phase.spent_committed (rw (see (txn_at s t).home t committed b c) at (r.good.phases t j l (λ q. e (sym q))))

  -- what is sent by an event that is done, at site i for t
  module _ (i t : ℕ) (hi : i < s.sites) (ht : t < s.count) where
    -- the message m about u lies not in the channel of site j, to which it is sent
    abbrev New : Sendings → Message → ℕ → ℕ → Type 0
    New x m j u = sends s i x m j u ≡ true → lies m u (place_at s j).channel ≡ false

    -- nothing is sent of what is in no set
    unsent : {A : Type 0} (u : ℕ) (b : Bool) → (has none u && b) ≡ true → A
    unsent u b e = absurd (in_none u (both_left _ b e))

    sends-nothing : (m : Message) (j u : ℕ) → New nothing m j u
    unfolding sends
    sends-nothing Remote j u e = unsent u _ e
    sends-nothing (Ready k) j u e = unsent u _ e
    sends-nothing Commit j u e = unsent u _ e
    sends-nothing Abort j u e = unsent u _ e

    -- one of the other sites
    is_other : (j : ℕ) → has (others s i) j ≡ true → (j < s.sites) × (j ≢ i)
    is_other j m =
        let e = sym (has-others s i j (sites_fit s r.fine.ranged.table)) ∙ m in
        (ltb-true j s.sites (both_left _ _ e), eqb-false j i (not-true _ (both_right (nat_lt j s.sites) _ e)))

    -- what goes to all other sites about t is about t, whose home is here
    only_one : (u : ℕ) → has (only t) u ≡ true → u ≡ t
    only_one u m = eqb-true u t (sym (has-only t u (omega (arith, count_fits s r.fine.ranged.table))) ∙ m)

    -- the phase of one whose home is here and has status v
    phase_of : (u j v : ℕ) → u < s.count → (txn_at s u).home ≡ i → status_at s i u ≡ v → has (others s i) j ≡ true
        → phase.Phase v (view.status j u) (view.net.remote j u) (view.net.ready j u) (view.net.commit j u)
        (view.net.abort j u) (view.net.missing j u) (view.net.queued j u) (view.net.spent j u)
    phase_of u j v b h e m =
        let k = is_other j m in
        let at_its_home : view.status (view.home u) u ≡ v = rw h (see i u v b e) in
        rw at_its_home at (r.good.phases u j k.0 (λ q. k.1 (q ∙ h)))

    -- abort goes to all other sites about one whose home is here: else, once it is sent, it would lie in its own home's
    -- channel
    aborts_home : (u : ℕ) → u < s.count → has (scanned s i).aborts u ≡ true → (txn_at s u).home ≡ i
    aborts_home u b m = go ((txn_at s u).home == i) refl
      where
        end : Turned s l r.spent i r.fine hi (scanned s i)
        end = scan_turned s l r.spent i r.fine hi r.good

        go : (d : Bool) → ((txn_at s u).home == i) ≡ d → (txn_at s u).home ≡ i
        go true e = eqb-true _ i e
        go false e =
            clash (rw (m, lt-ltb (txn_at s u).home s.sites (home_fits s r.fine u b), e) refl) (own-quiet (end.good.own u)).1

    -- it was in pre_commit
    aborts_asked : (u : ℕ) → u < s.count → has (scanned s i).aborts u ≡ true → status_at s i u ≡ precommit
    aborts_asked u b m = ⊎_elim (λ e. absurd (in_none u e)) (λ e. e)
        (scan-asks s.count s.txns i (scan_from s i) u (scanning_first s i r.fine hi).0 (site_stands r.fine i hi).row
        (omega (arith, count_fits s r.fine.ranged.table)) m)

    -- ready goes home about one that was queued here
    readies_queued : (u : ℕ) → has (scanned s i).readies u ≡ true → has (place_at s i).queue u ≡ true
    readies_queued u m =
        sym (scan-parts s.count s.txns i (scan_from s i) (scanning_first s i r.fine hi).0 refl refl u).0
        ∙ rw m (or-true (has (scanned s i).waiting u))

    scan-sends : (m : Message) (j u : ℕ) → New (sendings ExecuteRemote s i t) m j u
    unfolding sendings sends lies
    scan-sends Remote j u e = unsent u _ e
    scan-sends Commit j u e = unsent u _ e
    scan-sends Abort j u e =
        let m = both_left _ _ e in
        let b = (scanned_below s i r.fine hi).0 u m in
        let to = both_right (has (scanned s i).aborts u) _ e in
        (phase.asked-quiet (phase_of u j precommit b (aborts_home u b m) (aborts_asked u b m) to)).1
    scan-sends (Ready k) j u e =
        let q = readies_queued u (both_left _ _ e) in
        let at = both_right (has (scanned s i).readies u) _ e in
        let from : k ≡ i = eqb-true k i (both_left _ _ at) in
        let to : (txn_at s u).home ≡ j = eqb-true _ j (both_right (k == i) _ at) in
        let far = ((site_stands r.fine i hi).fine.queue u q).away in
        rw (from, ← to) (phase.no_ready (rw q at (r.good.phases u i hi (λ z. far (sym z)))))

    asks-sends : (txn_at s t).home ≡ i → status_at s i t ≡ active → (m : Message) (j u : ℕ) → New (sendings BeginCommit s i t) m j u
    unfolding sendings sends lies
    asks-sends h a Remote j u e =
        rw (only_one u (both_left _ _ e)) (phase.no_remote (phase_of t j active ht h a (both_right (has (only t) u) _ e)))
    asks-sends h a (Ready k) j u e = unsent u _ e
    asks-sends h a Commit j u e = unsent u _ e
    asks-sends h a Abort j u e = unsent u _ e

    tells_sends : (txn_at s t).home ≡ i → status_at s i t ≡ precommit → (m : Message) (j u : ℕ) → New (sendings EndCommit s i t) m j u
    unfolding sendings sends lies
    tells_sends h a Remote j u e = unsent u _ e
    tells_sends h a (Ready k) j u e = unsent u _ e
    tells_sends h a Commit j u e =
        rw (only_one u (both_left _ _ e)) (phase.asked-quiet (phase_of t j precommit ht h a (both_right (has (only t) u) _ e))).0
    tells_sends h a Abort j u e = unsent u _ e

    sends_new : (a : Action) → enabled a s i t ≡ true → (m : Message) (j u : ℕ) → New (sendings a s i t) m j u
    unfolding enabled sendings
    sends_new Create h = sends-nothing
    sends_new (BeginOperation x y) h = sends-nothing
    sends_new EndOperation h = sends-nothing
    sends_new BeginCommit h = asks-sends (eqb-true _ i (both_left _ _ h)) (eqb-true _ active (both_right (at_home s i t) _ h))
    sends_new EndCommit h =
        tells_sends (eqb-true _ i (both_left _ _ h)) (eqb-true _ precommit (both_left _ _ (both_right (at_home s i t) _ h)))
    sends_new LocalAbort h = sends-nothing
    sends_new (Receive m) h = sends-nothing
    sends_new ExecuteRemote h = scan-sends
    sends_new (Discard m) h = sends-nothing

-- ---- the theorem

-- of every run of any events from an accepted setup
pub one_copy : (sites : ℕ) (table : List Entry) → setup_answer sites table ≡ 0 → (es : List Event)
    → OneCopy (setup sites table).state es (sent_by (setup sites table).state es) (state_after (setup sites table).state es)
unfolding lies
one_copy sites table z es =
    let s₀ : State = (setup sites table).state in
    let s : State = state_after s₀ es in
    let l : List ℕ = listed s₀ es in
    let first = setup_reached sites table z in
    let r : Reached s l (cost s₀ es) = simp zero-add at (ran s₀ es [] (λ u. 0) first) in
    record {
      committed-listed = λ t b c. r.good.logged.in_list t (see s l _ r _ t committed b c);
      listed-committed = λ t m. listed-there s l _ r t m;
      one_fate = fate s l _ r;
      log_order = λ i t u o b x y k. in_order (r.good.logged.lag i o b) x y k;
      serial_reads = λ before t after e o v n.
          serial_at (seen s l r.spent).sets (λ o. 0) before t after (rw e at r.good.logged.serial) o v n;
      serial_copies = copies s l _ r;
      list_once = r.good.logged.list_once;
      log_once = λ i b. r.good.logged.log_once i;
      cost-committed = costs_committed s l _ r;
      cost_bound = costs_bound s l _ r;
      cost_sum = rw (after_counts s₀ es).1 (ran_sent s₀ es [] (λ u. 0) first);
      no_doubles = λ e a m j u.
          let d = doable s e a in sends_new s l _ r e.site e.txn d.site d.txn (action_of e) d.on m j u;
      aborted-quiet = λ j t b c e. quiet-there (seen s l r.spent) r.good j t b (see s l _ r j t aborted c e);
    }

-- and of what a run returns that is not refused: one step
pub run_one_copy : (sites : ℕ) (table : List Entry) → setup_answer sites table ≡ 0 → (es : List Event) (room : ℕ)
    → run_answer (setup sites table).state es room ≡ 0
    → OneCopy (setup sites table).state es (run (setup sites table).state es room).sent
    (run (setup sites table).state es room).state
run_one_copy sites table z es room done = rw (run-done (setup sites table).state es room done) (one_copy sites table z es)

-- .. and so of what the code returns, whose promise is that in the numbers of 01 it is what `run` says
pub returned_one_copy : (sites : ℕ) (table : List Entry) → setup_answer sites table ≡ 0 → (numbers : List ℕ) (room : ℕ)
    (r : Answered ℕ) → in_numbers r ≡ run (setup sites table).state (events_of numbers) room → (sent : ℕ) → r.outcome ≡ Ok sent
    → OneCopy (setup sites table).state (events_of numbers) sent r.state
returned_one_copy sites table z numbers room r e sent d = rw (ap sent_of d) at returned
  where
    s₀ : State
    s₀ = (setup sites table).state

    go : Same (run_answer s₀ (events_of numbers) room) 0 → run_answer s₀ (events_of numbers) room ≡ 0
    go (tests.same h) = h
    go (tests.other n) =
        absurd (n (sym (ap (λ (x : Ran). x.answer) (e ∙ run-refused s₀ (events_of numbers) room n)) ∙ ap answer_of d))

    returned : OneCopy s₀ (events_of numbers) (sent_of r.outcome) r.state
    returned =
        subst (λ (x : Ran). OneCopy s₀ (events_of numbers) x.sent x.state) (sym e)
        (run_one_copy sites table z (events_of numbers) room (go (same? (run_answer s₀ (events_of numbers) room) 0)))
