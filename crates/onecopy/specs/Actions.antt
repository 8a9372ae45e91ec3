-- The actions but the scan, as moves: what each makes of a state is seen as what its move makes of the view.
use Rattle.std.specs.Prelude.{ℕ, ◌+◌, ◌≤◌, ◌<◌, ◌≡◌, refl, Bool, true, false, not, cond, ◌&&◌, ◌||◌, ◌≢◌, List, [], ◌∷◌, ◌++◌, length, ◌==◌, slice_index_or}
use Rattle.onecopy.specs.Words.{sym, ap, ◌∙◌, fun_ext, subst, and-false, and_comm, arith, eqb-true, has, none, is_empty, with, without, union, minus, has-union, has-minus, empty_none, each, store_at, max_sites, max_txns, objects, idle, start, active, blocked, precommit, committed, aborted, status_in, ready_in, version_in, row_at, place_at, txn_at, with_status, with_place, with_txn, with_queue, with_channel, with_pending, with_missing, appended, clashes_with, received, others, multicast, is, clash_at, only, Message, Remote, Ready, Commit, Abort, Place, Txn, State, some_none, length-each, some_read, has_dropped, has_added, has-only, has-others, PlaceShaped, Shaped, place_shaped, status_shaped, txn_shaped, sites_fit, count_fits, not-queued, with-taken, with_commit, SiteKept, clash_reads, clash-writes, Fine, site_stands, txn_stands, home_fits, Cmp, cmp, eqb_same, eqb_other, same, other}
use Rattle.protocol.specs.Database.{noted, ended, woken, stored, commit_here, clash}
use Rattle.protocol.specs.Channel.{lies, taken}
use Rattle.laws.specs.Compare as compare
use Rattle.onecopy.specs.Tables.{upd, mark, more}
use Rattle.onecopy.specs.Views as view
use Rattle.onecopy.specs.Views.{View, Net, Sets, Logs, with_statuses, raised, besides, net_of, remote_queued, with_commits, abort_queued, ready_missing, quitting, commits, notes}
use Rattle.onecopy.specs.Kinds.{runs_blocked, runs_executes}
use Rattle.onecopy.specs.Kept.{Good, moved, quiet-there}
use Rattle.onecopy.specs.Seen.{seen, places_seen, txns_seen, seen_status, known_runs, remote, commit, casting, see_status, see_place, see_txn, see_multicast, ready_taken, log_seen, version_seen, ready_shaped, ready_seen}

-- site i where t, which writes w, commits, and b says whether it is site i
abbrev stored_by : ℕ → ℕ → Bool → Place → Place
stored_by t w b p = record {
  queue = p.queue;
  remove = cond b (p.remove || not (is_empty p.queue)) p.remove;
  log = cond b (appended p.log t) p.log;
  versions = cond b (store_at w (t + 1) p.versions) p.versions;
  channel = p.channel;
}

-- a site with other messages remote, commit and abort
abbrev with_masks : Place → ℕ → ℕ → ℕ → Place
with_masks p r c a = with_channel p (record { remote = r; ready = p.channel.ready; commit = c; abort = a })

-- .. where remote, commit or abort about t is taken, and b says whether it is that site
abbrev remote_taken : ℕ → Bool → Place → Place
remote_taken t b p =
    with_masks p (cond b (without p.channel.remote t) p.channel.remote) p.channel.commit p.channel.abort

abbrev commit_taken : ℕ → Bool → Place → Place
commit_taken t b p =
    with_masks p p.channel.remote (cond b (without p.channel.commit t) p.channel.commit) p.channel.abort

abbrev abort_taken : ℕ → Bool → Place → Place
abort_taken t b p =
    with_masks p p.channel.remote p.channel.commit (cond b (without p.channel.abort t) p.channel.abort)

-- ---- at site i, for t

module _ (s : State) (l : List ℕ) (spent : ℕ → ℕ → ℕ) (f : Fine s) (good : Good (seen s l spent)) (i t : ℕ) (hi : i < s.sites)
    (ht : t < s.count) where
  abbrev v : View
  v = seen s l spent

  few : s.count ≤ max_txns
  few = count_fits s f.ranged.table

  t_fits : t < max_txns
  t_fits = omega (arith, few)

  i_fits : i < max_sites
  i_fits = omega (arith, sites_fit s f.ranged.table)

  stands : (w : ℕ) → is s i t w ≡ true → v.status i t ≡ w
  stands w = seen_status s l spent i t w ht

  -- t goes to the status w there
  goes : (w : ℕ) → Good (raised v i t w) → Good (seen (with_status s i t w) l spent)
  goes w g = rw (see_status s l spent f.shaped i t w i_fits ht few) g

  -- t becomes x true of itself and goes to the status w there
  turns : (x : Bool → Txn → Txn) → ((y : Txn) → x false y ≡ y) → length (x true (txn_at s t)).noted ≡ objects
      → (w : ℕ) (k : ℕ → ℕ → ℕ) → seen (with_status (with_txn s t (x true (txn_at s t))) i t w) l k
      ≡ raised (txns_seen s (λ u. x (u == t) (txn_at s u)) l k) i t w
  turns x e n w k =
      let h = txn_shaped s t _ f.shaped (record { noted = n }) in
      see_status (with_txn s t (x true (txn_at s t))) l k h i t w i_fits ht few
      ∙ ap (λ (a : View). raised a i t w) (see_txn s l k f.shaped t x t_fits e)

  -- site i becomes p true of itself and t goes to the status w there
  places : (p : Bool → Place → Place) → ((q : Place) → p false q ≡ q) → PlaceShaped (p true (place_at s i)) → (w : ℕ)
      (l' : List ℕ) (k : ℕ → ℕ → ℕ) → seen (with_status (with_place s i (p true (place_at s i))) i t w) l' k
      ≡ raised (places_seen s (λ j. p (j == i) (place_at s j)) l' k) i t w
  places p e n w l' k =
      let h = place_shaped s i _ f.shaped i_fits n in
      see_status (with_place s i (p true (place_at s i))) l' k h i t w i_fits ht few
      ∙ ap (λ (a : View). raised a i t w) (see_place s l' k f.shaped i p i_fits e)

  -- a set from which t is taken at site i, or to which it is added
  dropped : (m : ℕ → ℕ) → ◌≡◌ {A = ℕ → ℕ → Bool} (λ j u. has (cond (j == i) (without (m j) t) (m j)) u)
      (upd (λ j u. has (m j) u) i t false)
  dropped m = fun_ext (λ j. fun_ext (λ u. has_dropped (j == i) (m j) t u))

  added : (m : ℕ → ℕ) → ◌≡◌ {A = ℕ → ℕ → Bool} (λ j u. has (cond (j == i) (with (m j) t) (m j)) u)
      (upd (λ j u. has (m j) u) i t true)
  added m = fun_ext (λ j. fun_ext (λ u. has_added (j == i) (m j) t u (omega (arith, t_fits))))

  -- t has committed there: the view with the net m and the logs y
  abbrev committing : Net → Logs → View
  committing m y = record {
    sites = s.sites;
    home = v.home;
    status = upd v.status i t committed;
    net = m;
    sets = v.sets;
    logs = y;
  }

  stores : (status_in (row_at s i) t ≡ committed → ⊥) → (l' : List ℕ) → (commits v i t v.net l').logs
      ≡ (places_seen s (λ j. stored_by t (txn_at s t).writes (j == i) (place_at s j)) l' spent).logs
  stores old l' = λ κ.
      record { log = sym (log_seen s f i t hi ht old) κ; version = sym (version_seen s f i t hi ht) κ; list = l' }

  -- the site that t commits at has its lengths
  stored_shaped : {p : Place} → SiteKept s.sites s.count s.txns i (row_at s i) p → is s i t precommit ≡ true
      → PlaceShaped (stored p t (txn_at s t).writes)
  stored_shaped {p} k e =
      let was : status_in (row_at s i) t ≡ precommit = eqb-true _ precommit e in
      (with_commit k t (txn_at s t).writes few ht (λ c. omega arith) (not-queued p.queue t k.fine.queue (λ c. omega arith))
      ).place

  -- ---- away from home

  pub ends_away : i ≢ (txn_at s t).home → is s i t blocked ≡ true → Good (seen (with_status s i t precommit) l spent)
  ends_away ne e = goes precommit (moved (view.end_away i t ne (stands blocked e)) good)

  pub receives_remote : is s i t idle ≡ true → has (place_at s i).channel.remote t ≡ true
      → Good (seen (with_place s i (with_queue (received Remote t (place_at s i)) (with (place_at s i).queue t) true)) l spent)
  unfolding taken
  receives_remote e m =
      let g : Bool → Place → Place = λ b p.
      with_queue (remote_taken t b p) (cond b (with p.queue t) p.queue) (cond b true p.remove) in
      rw (see_place s l spent f.shaped i g i_fits (λ p. refl))
      (subst (λ (m : Net). Good (with_statuses v v.status m))
      (λ κ. remote_queued v.net (sym (dropped (λ j. (place_at s j).channel.remote)) κ) (sym (added (λ j. (place_at s j).queue)) κ))
      (moved (view.receive_remote i t (stands idle e) m) good))

  pub receives_commit : i ≢ (txn_at s t).home → is s i t precommit ≡ true → has (place_at s i).channel.commit t ≡ true
      → Good (seen (commit_here s i t (received Commit t (place_at s i))) l spent)
  unfolding commit_here stored woken taken
  receives_commit ne e m =
      let was : status_in (row_at s i) t ≡ precommit = eqb-true _ precommit e in
      let g : Bool → Place → Place = λ b p. stored_by t (txn_at s t).writes b (commit_taken t b p) in
      let c : ℕ → ℕ → Bool = (places_seen s (λ j. g (j == i) (place_at s j)) l spent).net.commit in
      rw (places g (λ p. refl) (stored_shaped (with-taken (site_stands f i hi) Commit t) e) committed l spent)
      (subst (λ (y : Logs). Good (committing (with_commits v.net c) y)) (stores (λ c. omega arith) l)
      (subst (λ (c : ℕ → ℕ → Bool). Good (commits v i t (with_commits v.net c) l)) (sym (dropped (λ j. (place_at s j).channel.commit)))
      (moved (view.receive_commit i t hi ne (stands precommit e) m) good)))

  pub receives_abort : i ≢ (txn_at s t).home → has (place_at s i).channel.abort t ≡ true
      → (let p = place_at s i in
      Good (seen (with_place (with_status s i t aborted) i (woken (with_queue (received Abort t p) (without p.queue t) p.remove))) l spent))
  unfolding woken taken
  receives_abort ne m =
      let k = f.shaped.place i i_fits in
      let g : Bool → Place → Place = λ b p.
      with_queue (abort_taken t b p) (cond b (without p.queue t) p.queue)
      (cond b (p.remove || not (is_empty (without p.queue t))) p.remove) in
      rw (places g (λ p. refl) (record { entries = k.entries; versions = k.versions; ready = k.ready }) aborted l spent)
      (subst (λ (m : Net). Good (with_statuses v (upd v.status i t aborted) m))
      (λ κ. abort_queued v.net (sym (dropped (λ j. (place_at s j).channel.abort)) κ) (sym (dropped (λ j. (place_at s j).queue)) κ))
      (moved (view.receive_abort i t hi ne m) good))

  -- ---- anywhere

  -- a message about t, which is aborted there, is taken
  pub discards : (m : Message) → is s i t aborted ≡ true → lies m t (place_at s i).channel ≡ true
      → Good (seen (with_place s i (received m t (place_at s i))) l spent)
  unfolding lies taken
  discards Remote e m =
      rw (see_place s l spent f.shaped i (remote_taken t) i_fits (λ p. refl))
      (subst (λ (g : ℕ → ℕ → Bool). Good (with_statuses v v.status (remote_queued v.net g v.net.queued)))
      (sym (dropped (λ j. (place_at s j).channel.remote))) (moved (view.discard_remote i t (stands aborted e)) good))
  discards (Ready k) e m =
      rw (see_place s l spent f.shaped i (ready_taken t k) i_fits (λ p. refl))
      (subst (λ g. Good (with_ready g)) (sym (ready_seen s f i t hi ht k)) (go ((txn_at s t).home == i) (cmp (txn_at s t).home i)))
    where
      with_ready : (ℕ → ℕ → Bool) → View
      with_ready g = with_statuses v v.status (ready_missing v.net g v.net.missing)

      go : (b : Bool) → Cmp (txn_at s t).home i b
          → Good (with_ready (λ j u. cond (u == t && (b && j == k)) false (v.net.ready j u)))
      go true (same q) = moved (view.discard_ready k t (rw q (stands aborted e))) good
      go false (other q) = simp and-false good
  discards Commit e m = compare.clash m (quiet-there v good i t hi (stands aborted e)).0
  discards Abort e m = compare.clash m (quiet-there v good i t hi (stands aborted e)).1

-- ---- at the home of t

module _ (s : State) (l : List ℕ) (spent : ℕ → ℕ → ℕ) (f : Fine s) (good : Good (seen s l spent)) (t : ℕ) (ht : t < s.count) where
  abbrev h : ℕ
  h = (txn_at s t).home

  h_site : h < s.sites
  h_site = home_fits s f t ht

  is_at : (w : ℕ) → is s h t w ≡ true → (seen s l spent).status h t ≡ w
  is_at w = seen_status s l spent h t w ht

  pub creates : is s h t start ≡ true → Good (seen (with_status s h t active) l spent)
  creates e = goes s l spent f good h t h_site ht active (moved (view.create t (is_at start e)) good)

  pub begins_operation_lem : (r w : ℕ) → is s h t active ≡ true
      → Good (seen (with_status (with_txn s t (with_pending (txn_at s t) r w)) h t blocked) l spent)
  begins_operation_lem r w e =
      let g : Bool → Txn → Txn = λ b x. with_pending x (cond b r x.pendingreads) (cond b w x.pendingwrites) in
      rw (turns s l spent f good h t h_site ht g (λ x. refl) (txn_stands f t ht).shaped.noted blocked spent)
      (moved (view.begin_operation t (is_at active e)) good)

  -- no lock clash: nothing that executes at home clashes with the pending operation
  no_clash : clash_at s h t ≡ false → (u : ℕ) → t ≢ u → u < s.count
      → clashes_with (txn_at s t) (txn_at s u) h (status_in (row_at s h) u) ≡ false
  unfolding clash
  no_clash e u ne hu = rw (eqb_other {i = u} {j = t} (λ q. ne (sym q))) at
      (some_none s.count (λ u. not (u == t) && clashes_with (txn_at s t) (txn_at s u) h (status_in (row_at s h) u)) u e hu)

  -- t at the end of its operation, where b says whether it is t
  abbrev ended_by : Bool → Txn → Txn
  ended_by b x = record {
    home = x.home;
    priority = x.priority;
    reads = cond b (union x.reads x.pendingreads) x.reads;
    writes = cond b (union x.writes x.pendingwrites) x.writes;
    pendingreads = cond b none x.pendingreads;
    pendingwrites = cond b none x.pendingwrites;
    missing = x.missing;
    noted = cond b (noted x (place_at s h)) x.noted;
  }

  -- the sets that it then has, and what it has noted
  union-seen : (a b : ℕ → ℕ) → ◌≡◌ {A = ℕ → ℕ → Bool} (λ u o. has (cond (u == t) (union (a u) (b u)) (a u)) o)
      (λ u o. cond (u == t) (has (a t) o || has (b t) o) (has (a u) o))
  union-seen a b = fun_ext (λ u. fun_ext (λ o. go u o (u == t) (cmp u t)))
    where
      go : (u o : ℕ) (d : Bool) → Cmp u t d
          → has (cond d (union (a u) (b u)) (a u)) o ≡ cond d (has (a t) o || has (b t) o) (has (a u) o)
      go u o true (same e) = rw e (has-union (a t) (b t) o)
      go u o false (other e) = refl

  abbrev noted_then : ℕ → ℕ
  noted_then o =
      cond (notes (seen s l spent) t (λ o. has (txn_at s t).pendingreads o) o) (version_in (place_at s h) o + 1)
      (slice_index_or (txn_at s t).noted o 0)

  noted-seen : ◌≡◌ {A = ℕ → ℕ → ℕ} (λ u o. slice_index_or (cond (u == t) (noted (txn_at s u) (place_at s h)) (txn_at s u).noted) o 0)
      (λ u o. cond (u == t) (noted_then o) (slice_index_or (txn_at s u).noted o 0))
  unfolding noted
  noted-seen = fun_ext (λ u. fun_ext (λ o. go u o (u == t) (cmp u t)))
    where
      news : ℕ → ℕ → Bool
      news u o = has (minus (txn_at s u).pendingreads (union (txn_at s u).reads (txn_at s u).writes)) o

      go : (u o : ℕ) (d : Bool) → Cmp u t d
          → slice_index_or (cond d (each (λ o x. cond (news u o) (version_in (place_at s h) o + 1) x) (txn_at s u).noted) (txn_at s u).noted) o 0
          ≡ cond d (noted_then o) (slice_index_or (txn_at s u).noted o 0)
      go u o false (other e) = refl
      go u o true (same e) =
          rw e
          (some_read (news t) (λ o x. version_in (place_at s h) o + 1) (txn_at s t).noted o 0
          ∙ rw ((txn_stands f t ht).shaped.noted, has-minus, has-union))

  pub ends_operation_lem : is s h t blocked ≡ true → clash_at s h t ≡ false
      → Good (seen (with_status (with_txn s t (ended (txn_at s t) (place_at s h))) h t active) l spent)
  unfolding ended
  ends_operation_lem e c =
      let v : View = seen s l spent in
      let n : length (noted (txn_at s t) (place_at s h)) ≡ objects =
      unfold noted in (length-each _ (txn_at s t).noted ∙ (txn_stands f t ht).shaped.noted) in
      rw (turns s l spent f good h t h_site ht ended_by (λ x. refl) n active spent)
      (subst (λ (x : Sets). Good (record {
        sites = s.sites;
        home = v.home;
        status = upd v.status h t active;
        net = v.net;
        sets = x;
        logs = v.logs;
      }))
      (λ κ. record {
        reads = sym (union-seen (λ u. (txn_at s u).reads) (λ u. (txn_at s u).pendingreads)) κ;
        writes = sym (union-seen (λ u. (txn_at s u).writes) (λ u. (txn_at s u).pendingwrites)) κ;
        noted = sym noted-seen κ;
      })
      (moved
      (view.end_operation t (λ o. has (txn_at s t).pendingreads o) (λ o. has (txn_at s t).pendingwrites o) (is_at blocked e)
      (λ u o ne r p.
      let k = known_runs s.count u _ r in clash_reads (txn_at s u) h _ o (runs_executes k.1) (txn_at s t) (no_clash c u ne k.0) p)
      (λ u o ne r p.
      let k = known_runs s.count u _ r in clash-writes (txn_at s u) h _ o (runs_executes k.1) (txn_at s t) (no_clash c u ne k.0) p))
      good))

  -- messages about t alone to all other sites, one for each
  only_seen : ◌≡◌ {A = ℕ → ℕ → Bool} (λ j u. has (only t) u && besides (seen s l spent) h j)
      (λ j u. u == t && besides (seen s l spent) h j)
  only_seen = fun_ext (λ j. fun_ext (λ u.
      ap (λ (b : Bool). b && besides (seen s l spent) h j) (has-only t u (omega (arith, count_fits s f.ranged.table)))))

  abbrev pub spends : ℕ → ℕ → ℕ
  spends = more spent (λ j u. u == t && besides (seen s l spent) h j)

  missing_seen : ◌≡◌ {A = ℕ → ℕ → Bool} (λ j u. has (cond (u == t) (others s h) (txn_at s u).missing) j)
      (λ j u. cond (u == t) (besides (seen s l spent) h j) (has (txn_at s u).missing j))
  missing_seen = fun_ext (λ j. fun_ext (λ u. go j u (u == t)))
    where
      go : (j u : ℕ) (b : Bool) → has (cond b (others s h) (txn_at s u).missing) j
          ≡ cond b (besides (seen s l spent) h j) (has (txn_at s u).missing j)
      go j u true = has-others s h j (sites_fit s f.ranged.table)
      go j u false = refl

  pub begins_commit_lem : is s h t active ≡ true
      → Good (seen (multicast Remote h (only t) (with_status (with_txn s t (with_missing (txn_at s t) (others s h))) h t precommit)) l spends)
  begins_commit_lem e =
      let v : View = seen s l spent in
      let n = (txn_stands f t ht).shaped.noted in
      let s₁ : State = with_txn s t (with_missing (txn_at s t) (others s h)) in
      let h₁ : Shaped s₁ = txn_shaped s t _ f.shaped (record { noted = n }) in
      let fits : h < max_sites = omega (arith, h_site, sites_fit s f.ranged.table) in
      let g : Bool → Txn → Txn = λ b x. with_missing x (cond b (others s h) x.missing) in
      let few = sites_fit s f.ranged.table in
      rw (see_multicast (with_status s₁ h t precommit) l spends (status_shaped s₁ h t precommit h₁ fits) few remote h (only t)
      ∙ ap (λ (a : View). with_statuses a a.status (casting remote (λ j u. has (only t) u && besides a h j) a.net))
      (turns s l spent f good h t h_site ht g (λ x. refl) n precommit spends))
      (subst (λ (m : Net). Good (with_statuses v (upd v.status h t precommit) m))
      (λ κ.
      net_of (mark v.net.remote (sym only_seen κ)) v.net.ready v.net.commit v.net.abort (sym missing_seen κ)
      v.net.queued spends)
      (moved (view.begin_commit t (is_at active e)) good))

  pub ends_commit_lem : is s h t precommit ≡ true → is_empty (txn_at s t).missing ≡ true
      → Good (seen (multicast Commit h (only t) (commit_here s h t (place_at s h))) (l ++ (t ∷ [])) spends)
  unfolding commit_here stored woken
  ends_commit_lem e m =
      let v : View = seen s l spent in
      let l' : List ℕ = l ++ (t ∷ []) in
      let was : status_in (row_at s h) t ≡ precommit = eqb-true _ precommit e in
      let g : Bool → Place → Place = stored_by t (txn_at s t).writes in
      let fits : h < max_sites = omega (arith, h_site, sites_fit s f.ranged.table) in
      let n = stored_shaped s l spent f good h t h_site ht (site_stands f h h_site) e in
      let s₁ : State = with_place s h (g true (place_at s h)) in
      let h₁ : Shaped s₁ = place_shaped s h _ f.shaped fits n in
      let few = sites_fit s f.ranged.table in
      let m₁ : (ℕ → ℕ → Bool) → Net = λ c. with_commits (seen s l spends).net (mark v.net.commit c) in
      rw (see_multicast (with_status s₁ h t committed) l' spends (status_shaped s₁ h t committed h₁ fits) few commit h (only t)
      ∙ ap (λ (a : View). with_statuses a a.status (casting commit (λ j u. has (only t) u && besides a h j) a.net))
      (places s l spent f good h t h_site ht g (λ p. refl) n committed l' spends))
      (subst (λ (y : Logs). Good (committing s l spent f good h t h_site ht (m₁ (λ j u. has (only t) u && besides v h j)) y))
      (stores s l spent f good h t h_site ht (λ c. omega arith) l')
      (subst (λ (c : ℕ → ℕ → Bool). Good (commits v h t (m₁ c) l')) (sym only_seen)
      (moved (view.end_commit t h_site (is_at precommit e) (λ j. empty_none (txn_at s t).missing j m)) good)))

  pub aborts_local : is s h t blocked ≡ true
      → Good (seen (with_place (with_status s h t aborted) h (with_queue (place_at s h) (place_at s h).queue true)) l spent)
  aborts_local e =
      let v : View = seen s l spent in
      let k = (site_stands f h h_site).place in
      let g : Bool → Place → Place = λ b p. with_queue p p.queue (cond b true p.remove) in
      let n : PlaceShaped (g true (place_at s h)) = record { entries = k.entries; versions = k.versions; ready = k.ready } in
      rw (places s l spent f good h t h_site ht g (λ p. refl) n aborted l spent)
      (subst (λ (g : ℕ → ℕ → Bool). Good (with_statuses v (upd v.status h t aborted) (quitting v.net g))) unasked
      (moved (view.quit h (λ u. u == t) (λ u q. let z : u ≡ t = eqb-true u t q in rw z (refl, runs_blocked (is_at blocked e)))) good))
    where
      unasked : ◌≡◌ {A = ℕ → ℕ → Bool}
          (λ j u. u == t && ((seen s l spent).status h u == precommit && besides (seen s l spent) h j)) (λ j u. false)
      unasked = fun_ext (λ j. fun_ext (λ u. go j u (u == t) (cmp u t)))
        where
          go : (j u : ℕ) (b : Bool) → Cmp u t b
              → (b && ((seen s l spent).status h u == precommit && besides (seen s l spent) h j)) ≡ false
          go j u true (same q) = rw (q, is_at blocked e)
          go j u false (other q) = refl

  pub receives_ready : (k : ℕ) → is s h t precommit ≡ true → has (ready_in (place_at s h).channel t) k ≡ true
      → (let x = with_missing (txn_at s t) (without (txn_at s t).missing k) in
      Good (seen (with_txn (with_place s h (received (Ready k) t (place_at s h))) t x) l spent))
  unfolding taken
  receives_ready k e m =
      let v : View = seen s l spent in
      let fits : h < max_sites = omega (arith, h_site, sites_fit s f.ranged.table) in
      let h₁ = place_shaped s h _ f.shaped fits (ready_shaped s f h t h_site ht k) in
      let g : Bool → Txn → Txn = λ b x. with_missing x (cond b (without x.missing k) x.missing) in
      let missing : ℕ → ℕ → Bool = (txns_seen s (λ u. g (u == t) (txn_at s u)) l spent).net.missing in
      let t_fits : t < max_txns = omega (arith, count_fits s f.ranged.table) in
      rw (see_txn (with_place s h (ready_taken t k true (place_at s h))) l spent h₁ t g t_fits (λ x. refl))
      (subst (λ (a : View). Good (with_statuses a a.status (ready_missing a.net a.net.ready missing)))
      (sym (see_place s l spent f.shaped h (ready_taken t k) fits (λ p. refl)))
      (subst (λ (m : Net). Good (with_statuses v v.status m))
      (λ κ. ready_missing v.net (sym ready_taken_lem κ) (sym less κ))
      (moved (view.receive_ready k t (is_at precommit e) m) good)))
    where
      ready_taken_lem : ◌≡◌ {A = ℕ → ℕ → Bool}
          (λ j u. has (ready_in (ready_taken t k ((txn_at s u).home == h) (place_at s (txn_at s u).home)).channel u) j)
          (upd (seen s l spent).net.ready k t false)
      ready_taken_lem = ready_seen s f h t h_site ht k
          ∙ ap (λ (b : Bool). λ j u. cond (u == t && (b && j == k)) false ((seen s l spent).net.ready j u)) (eqb_same h)

      less : ◌≡◌ {A = ℕ → ℕ → Bool} (λ j u. has (cond (u == t) (without (txn_at s u).missing k) (txn_at s u).missing) j)
          (upd (seen s l spent).net.missing k t false)
      less =
          fun_ext (λ j. fun_ext (λ u. has_dropped (u == t) (txn_at s u).missing k j ∙ rw (and_comm (j == k) (u == t))))
