-- The scan as moves: the state with what a scan has done so far; every turn keeps the invariant of it; and what it leaves
-- is the state with all that it has done.
use Rattle.std.specs.Prelude.{ℕ, suc, ◌≤◌, ◌<◌, ◌≡◌, refl, Bool, true, false, not, cond, ◌&&◌, ◌||◌, ◌≢◌, List, set, length, ◌==◌, nat_lt, slice_index_or}
use Rattle.onecopy.specs.Words.{sym, ap, ◌∙◌, fun_ext, subst, ap₂, and-true, and-false, or-false, and-or_distrib_right, false≢true, ⊎_elim, arith, length-set, get_or-set_same, get_or-set_other, lt-ltb, ltb-true, ltb-false, eqb-true, width, has, with, without, union, none, has-union, has-those, has-with, has-with_other, has-without, has-without_same, ext, has-none, store_at, each, max_txns, idle, blocked, precommit, aborted, status_in, row_at, place_at, txn_at, max_sites, no_row, no_place, with_row, with_place, with_queue, conflicts_with, must_wait, scan_from, Scan, State, Test, yes_so, not_so, test, both_left, both_right, either, multicast, ready_home, Ready, Abort, Row, Place, length-each, RowShaped, PlaceShaped, Shaped, in_without, count_fits, in_none, Below, sites_fit, conflict_writes, conflict_executes, Fine, site_stands, home_fits, Lasts, scan_one_lem, scan_conflict, scan_keeps, scan_ends, Scanning, scanning, scanning_first, Cmp, cmp, eqb_same, eqb_other, untrue, clash, set_at, set_by, some_read, has_added, site_shaped, delivered_shaped, scanned, same, other}
use Rattle.protocol.specs.Database.{conflicts}
use Rattle.protocol.specs.Scan.{waits, asked, submits, scan_leaves, scan}
use Rattle.onecopy.specs.Tables.{upd, mark, more}
use Rattle.onecopy.specs.Views as view
use Rattle.onecopy.specs.Views.{View, Runs, holds, with_statuses, besides, net_of, quits, ready_missing, remote_queued, abort_queued}
use Rattle.onecopy.specs.Kinds.{not-aborted, runs_executes, executes_runs}
use Rattle.onecopy.specs.Kept.{Good, moved}
use Rattle.onecopy.specs.Seen.{seen_of, seen, known_runs, abort, see_delivered, see_multicast}
use Rattle.protocol.specs.Channel.{put, ready_with, homed_at}

module _ (s : State) (l : List ℕ) (spent : ℕ → ℕ → ℕ) (i : ℕ) where
  abbrev v : View
  v = seen s l spent

  -- what the scan c has sent so far: abort to all other sites, and ready from site i
  abbrev pub aborts_of : Scan → ℕ → ℕ → Bool
  aborts_of c j u = has c.aborts u && besides v i j

  abbrev pub readies_of : Scan → ℕ → ℕ → Bool
  readies_of c j u = has c.readies u && j == i

  -- what has been spent then
  abbrev pub scan_spent : Scan → ℕ → ℕ → ℕ
  scan_spent c = more (more spent (aborts_of c)) (readies_of c)

  -- the state with what the scan c at site i has done so far: its statuses, its messages, and a queue of those that are
  -- left and those that wait
  abbrev pub scan_seen : Scan → View
  scan_seen c = record {
    sites = s.sites;
    home = v.home;
    status = λ j u. cond (nat_lt u s.count) (status_in (cond (j == i) c.row (row_at s j)) u) idle;
    net =
        net_of v.net.remote (mark v.net.ready (readies_of c)) v.net.commit (mark v.net.abort (aborts_of c))
        v.net.missing
        (λ j u. cond (j == i) (has c.rest u || has c.waiting u) (v.net.queued j u)) (scan_spent c);
    sets = v.sets;
    logs = v.logs;
  }

-- ---- numbers that grow where tests pass

abbrev plus : Bool → ℕ → ℕ
plus b x = cond b (suc x) x

plus_swap : (a b : Bool) (x : ℕ) → plus b (plus a x) ≡ plus a (plus b x)
plus_swap true true x = refl
plus_swap true false x = refl
plus_swap false true x = refl
plus_swap false false x = refl

-- two tests that don't both pass
plus_either : (a b : Bool) (x : ℕ) → (a && b) ≡ false → plus b (plus a x) ≡ plus (a || b) x
plus_either true true x e = absurd (false≢true (sym e))
plus_either true false x e = refl
plus_either false true x e = refl
plus_either false false x e = refl

-- a mark for either of two tests is a mark for the one and then for the other
mark_either : (a d b x : Bool) → cond (d && b) true (cond (a && b) true x) ≡ cond ((a || d) && b) true x
mark_either true true true x = refl
mark_either true true false x = refl
mark_either true false true x = refl
mark_either true false false x = refl
mark_either false true true x = refl
mark_either false true false x = refl
mark_either false false b x = refl

-- ---- one turn of a scan at site i, in which t is taken

module _ (s : State) (l : List ℕ) (spent : ℕ → ℕ → ℕ) (i : ℕ) (f : Fine s) (hi : i < s.sites) where
  -- what holds at the start and after every turn: besides what keeps a state in range, nobody who is left has been
  -- submitted, and whoever abort is sent about is aborted
  pub record Turned (c : Scan) : Type 0 where
    pub fine : Scanning s.count s.txns i (place_at s i).log c
    pub row : RowShaped c.row
    pub unsent : (u : ℕ) → has c.rest u ≡ true → has c.readies u ≡ false
    pub fallen : (u : ℕ) → has c.aborts u ≡ true → status_in c.row u ≡ aborted
    pub good : Good (scan_seen s l spent i c)

  module _ (c : Scan) (t : ℕ) (h : has c.rest t ≡ true) (k : Turned c) where
    -- the conflicts of t
    abbrev them : ℕ
    them = conflicts s.count s.txns i c.row t

    known : t < s.count
    known = (k.fine.rest t h).known

    few : s.count ≤ max_txns
    few = count_fits s f.ranged.table

    -- who is in `them`
    conflict_is : (u : ℕ)
        → has them u ≡ (nat_lt u s.count && (not (u == t) && conflicts_with (txn_at s t) (txn_at s u) i (status_in c.row u)))
    unfolding conflicts
    conflict_is u = has-those s.count _ u

    not_self : has them t ≡ false
    not_self = conflict_is t ∙ rw (eqb_same, and-false (nat_lt t s.count))

    conflict_known : (u : ℕ) → has them u ≡ true → u < s.count
    conflict_known u m = ltb-true u s.count (both_left _ _ (sym (conflict_is u) ∙ m))

    conflict_does : (u : ℕ) → has them u ≡ true → Runs (status_in c.row u)
    conflict_does u m = executes_runs _ (conflict_executes (txn_at s t) (txn_at s u) i _
        (both_right (not (u == t)) _ (both_right (nat_lt u s.count) _ (sym (conflict_is u) ∙ m))))

    -- t waits: nothing is seen of it
    waits-seen : scan_seen s l spent i (waits t c) ≡ scan_seen s l spent i c
    unfolding waits
    waits-seen = ap (λ (g : ℕ → ℕ → Bool). with_statuses (scan_seen s l spent i c) (scan_seen s l spent i c).status
        (view.remote_queued (scan_seen s l spent i c).net (scan_seen s l spent i c).net.remote g))
        (fun_ext (λ j. fun_ext (λ u. ap (λ (b : Bool). cond (j == i) b ((seen s l spent).net.queued j u)) (one u))))
      where
        go : (u : ℕ) (d : Bool) → Cmp u t d
            → ((has c.rest u && not d) || (has c.waiting u || (d && true))) ≡ (has c.rest u || has c.waiting u)
        go u true (same e) = rw (e, h) (turn (has c.waiting t))
          where
            turn : (b : Bool) → (b || true) ≡ true
            turn true = refl
            turn false = refl
        go u false (other e) = rw (and-true (has c.rest u), or-false (has c.waiting u))

        one : (u : ℕ) → (has (without c.rest t) u || has (with c.waiting t) u) ≡ (has c.rest u || has c.waiting u)
        one u =
            rw (has-without c.rest t u, has-with width c.waiting t u, lt-ltb t width (omega (arith, known, few)))
            (go u (u == t) (cmp u t))

    -- t is submitted: its conflicts are aborted, and it is blocked
    abbrev next : Scan
    next = submits s.count t them c

    abbrev now : View
    now = scan_seen s l spent i c

    abbrev quitted : ℕ → ℕ → Bool
    quitted j u = has them u && (now.status i u == precommit && besides now i j)

    -- what becomes of the statuses of others
    abbrev kills : List ℕ
    kills = store_at them aborted c.row.status

    spared : (u : ℕ) → u < s.count → u ≢ t
        → slice_index_or (set kills t blocked) u idle ≡ cond (has them u) aborted (status_in c.row u)
    spared u b ne =
        let fits : u < length c.row.status = omega (arith, few, k.row.status) in
        get_or-set_other kills t u blocked idle ne
        ∙ some_read (has them) (λ x y. aborted) c.row.status u idle ∙ rw (lt-ltb u (length c.row.status) fits)

    status_turn : (j u : ℕ) → upd (λ j u. cond (has them u && j == i) aborted (now.status j u)) i t blocked j u
        ≡ (scan_seen s l spent i next).status j u
    unfolding submits
    status_turn j u = go (j == i)
      where
        found : u < s.count → (b : Bool) → Cmp u t b
            → cond (b && true) blocked (cond (has them u && true) aborted (status_in c.row u))
            ≡ slice_index_or (set kills t blocked) u idle
        found b true (same e) = rw e
            (sym (get_or-set_same kills t blocked idle (simp length-each (omega (arith, known, few, k.row.status)))))
        found b false (other e) = rw (and-true (has them u)) (sym (spared u b e))

        here_at_lem : Test (nat_lt u s.count) → cond (u == t && true) blocked
            (cond (has them u && true) aborted (cond (nat_lt u s.count) (status_in c.row u) idle))
            ≡ cond (nat_lt u s.count) (slice_index_or (set kills t blocked) u idle) idle
        here_at_lem (yes_so e) = rw e (found (ltb-true u s.count e) (u == t) (cmp u t))
        here_at_lem (not_so e) =
            let past : s.count ≤ u = ltb-false u s.count e in
            rw (
              e,
              eqb_other {i = u} {j = t} (λ q. omega (arith, known)),
              untrue (has them u) (λ m. omega (arith, conflict_known u m)),
            )

        go : (b : Bool) → cond (u == t && b) blocked
            (cond (has them u && b) aborted (cond (nat_lt u s.count) (status_in (cond b c.row (row_at s j)) u) idle))
            ≡ cond (nat_lt u s.count) (status_in (cond b (record { status = set kills t blocked }) (row_at s j)) u) idle
        go true = here_at_lem (test (nat_lt u s.count))
        go false = rw (and-false (u == t), and-false (has them u))

    -- abort goes to all other sites about each conflict that was in pre_commit
    asked_is : (u : ℕ)
        → has (asked s.count c.row them) u ≡ (nat_lt u s.count && (has them u && status_in c.row u == precommit))
    unfolding asked
    asked_is u = has-those s.count _ u

    quitted_is : (j u : ℕ) → quitted j u ≡ (has (asked s.count c.row them) u && besides now i j)
    quitted_is j u = rw (eqb_same i, asked_is u) (go (nat_lt u s.count) (has them u))
      where
        go : (b m : Bool) → (m && (cond b (status_in c.row u) idle == precommit && besides now i j))
            ≡ ((b && (m && status_in c.row u == precommit)) && besides now i j)
        go true true = refl
        go true false = refl
        go false true = refl
        go false false = refl

    -- .. and to nobody twice
    not_twice : (u : ℕ) → (has c.aborts u && has (asked s.count c.row them) u) ≡ false
    not_twice u = untrue _ (λ e.
        let fell : status_in c.row u ≡ aborted = k.fallen u (both_left _ _ e) in
        let asks : status_in c.row u ≡ precommit =
        eqb-true _ precommit
        (both_right (has them u) _ (both_right (nat_lt u s.count) _ (sym (asked_is u) ∙ both_right (has c.aborts u) _ e))) in
        omega arith)

    -- the one that is submitted joins those about whom ready goes home
    joins_is : (u : ℕ) → has (with c.readies t) u ≡ (has c.readies u || u == t)
    joins_is u = has-with width c.readies t u ∙ rw (lt-ltb t width (omega (arith, known, few)), and-true (u == t))

    ready_turn : (j u : ℕ) → upd now.net.ready i t true j u ≡ (scan_seen s l spent i next).net.ready j u
    unfolding submits
    ready_turn j u = rw (joins_is u) (mark_either (has c.readies u) (u == t) (j == i) ((seen s l spent).net.ready j u))

    abort_turn : (j u : ℕ) → mark now.net.abort quitted j u ≡ (scan_seen s l spent i next).net.abort j u
    unfolding submits
    abort_turn j u = rw (quitted_is j u, has-union c.aborts (asked s.count c.row them) u)
        (mark_either (has c.aborts u) (has (asked s.count c.row them) u) (besides now i j)
        ((seen s l spent).net.abort j u))

    queued_turn : (j u : ℕ) → upd now.net.queued i t false j u ≡ (scan_seen s l spent i next).net.queued j u
    unfolding submits
    queued_turn j u = rw (has-without c.rest t u) (go (j == i) (u == t) (cmp u t))
      where
        go : (b d : Bool) → Cmp u t d
            → cond (d && b) false (cond b (has c.rest u || has c.waiting u) ((seen s l spent).net.queued j u))
            ≡ cond b ((has c.rest u && not d) || has c.waiting u) ((seen s l spent).net.queued j u)
        go true true (same e) = rw (e, and-false (has c.rest t)) (sym (k.fine.apart t h))
        go true false (other e) = rw (and-true (has c.rest u))
        go false true e = refl
        go false false e = refl

    spent_turn : (j u : ℕ)
        → more (more now.net.spent quitted) (λ j u. u == t && j == i) j u ≡ (scan_seen s l spent i next).net.spent j u
    unfolding submits
    spent_turn j u =
        let A : Bool = aborts_of s l spent i c j u in
        let R : Bool = readies_of s l spent i c j u in
        let Q : Bool = has (asked s.count c.row them) u && besides now i j in
        let T : Bool = u == t && j == i in
        let x : ℕ = spent j u in
        rw (
          quitted_is j u,
          has-union c.aborts (asked s.count c.row them) u,
          joins_is u,
          and-or_distrib_right (has c.aborts u) (has (asked s.count c.row them) u) (besides now i j),
          and-or_distrib_right (has c.readies u) (u == t) (j == i),
        )
        (ap (plus T)
        (plus_swap R Q (plus A x) ∙ ap (plus R) (plus_either A Q x (apart (has c.aborts u) _ (besides now i j) (not_twice u))))
        ∙ plus_either R T (plus (A || Q) x) (apart (has c.readies u) (u == t) (j == i) (not_sent (u == t) (cmp u t))))
      where
        apart : (a d b : Bool) → (a && d) ≡ false → ((a && b) && (d && b)) ≡ false
        apart true true b e = absurd (false≢true (sym e))
        apart true false b e = and-false b
        apart false d b e = refl

        not_sent : (d : Bool) → Cmp u t d → (has c.readies u && d) ≡ false
        not_sent true (same e) = rw (e, k.unsent t h)
        not_sent false (other e) = and-false (has c.readies u)

    submits-seen : view.submits (quits now i (λ u. has them u)) i t ≡ scan_seen s l spent i next
    submits-seen = λ κ. record {
      sites = s.sites;
      home = now.home;
      status = λ j u. status_turn j u κ;
      net =
          net_of now.net.remote (λ j u. ready_turn j u κ) now.net.commit (λ j u. abort_turn j u κ) now.net.missing
          (λ j u. queued_turn j u κ) (λ j u. spent_turn j u κ);
      sets = now.sets;
      logs = now.logs;
    }

    -- where t does not wait, it is a move that aborts the conflicts and a move that submits t
    submits_good : must_wait s.count s.txns i c.row t them ≡ false → Good (scan_seen s l spent i next)
    submits_good w = subst Good submits-seen (moved (view.submit i t (λ e. (k.fine.rest t h).away (sym e))
        (rw (not_self, eqb_same, lt-ltb t s.count known) (k.fine.rest t h).idles) (rw (eqb_same, h) refl) free)
        (moved
        (view.quit i (λ u. has them u) (λ u m. (
          (scan_conflict s.count s.txns i c.row t u w m).0,
          rw (eqb_same, lt-ltb u s.count (conflict_known u m)) (conflict_does u m),
        )))
        k.good))
      where
        -- whoever still executes is no conflict
        free : (u o : ℕ) → t ≢ u → Runs ((quits now i (λ u. has them u)).status i u) → has (txn_at s t).writes o ≡ true
            → holds now.home now.sets i u o ≡ false
        free u o ne r o-in = go (has them u) refl (rw eqb_same at r)
          where
            go : (b : Bool) → has them u ≡ b → Runs (cond (b && true) aborted (cond (nat_lt u s.count) (status_in c.row u) idle))
                → holds now.home now.sets i u o ≡ false
            go true e q = not-aborted q
            go false e q =
                let both = known_runs s.count u (status_in c.row u) q in
                conflict_writes (txn_at s u) i (status_in c.row u) o (runs_executes both.1) (txn_at s t)
                (rw (lt-ltb u s.count both.0, eqb_other {i = u} {j = t} (λ z. ne (sym z))) at (sym (conflict_is u) ∙ e))
                o-in

    -- whoever abort is now sent about is aborted
    next_fallen : (u : ℕ) → has (union c.aborts (asked s.count c.row them)) u ≡ true
        → slice_index_or (set kills t blocked) u idle ≡ aborted
    next_fallen u m = ⊎_elim (λ a.
        let fell = k.fallen u a in
        spared u (k.fine.aborts u a) (λ e. let z : status_in c.row u ≡ idle = rw e (k.fine.rest t h).idles in omega arith)
        ∙ go (has them u) fell) (λ a.
        let m' = both_right (nat_lt u s.count) _ (sym (asked_is u) ∙ a) in
        let hit : has them u ≡ true = both_left _ _ m' in
        spared u (conflict_known u hit) (λ e. clash hit (rw e not_self)) ∙ rw hit)
        (either (has c.aborts u) _ (sym (has-union c.aborts (asked s.count c.row them) u) ∙ m))
      where
        go : (b : Bool) → status_in c.row u ≡ aborted → cond b aborted (status_in c.row u) ≡ aborted
        go true e = refl
        go false e = e

  -- every turn keeps it all
  pub turned : Lasts s.count s.txns i Turned
  unfolding waits submits
  turned c t b h k = record {
    fine = scanning s.count s.txns i (place_at s i).log c t b h k.fine;
    row = scan_one_lem s.count s.txns i (λ d. RowShaped d.row) c t (λ w. k.row)
        (λ w. record { status = simp (length-set, length-each) k.row.status });
    unsent = scan_one_lem s.count s.txns i (λ d. (u : ℕ) → has d.rest u ≡ true → has d.readies u ≡ false) c t
        (λ w u m. k.unsent u (in_without c.rest t u m)) (λ w u m.
        has-with_other width c.readies t u (λ e. clash (rw e at m) (has-without_same c.rest t))
        ∙ k.unsent u (in_without c.rest t u m));
    fallen =
        scan_one_lem s.count s.txns i (λ d. (u : ℕ) → has d.aborts u ≡ true → status_in d.row u ≡ aborted) c t
        (λ w. k.fallen) (λ w. next_fallen c t h k);
    good = scan_one_lem s.count s.txns i (λ d. Good (scan_seen s l spent i d)) c t
        (λ w. subst Good (sym (waits-seen c t h k)) k.good) (λ w. submits_good c t h k w);
  }

-- ---- a whole scan

-- a ready from site i about each of ts, which are in the table, goes to its own home
see_ready_home : (s : State) (l : List ℕ) (spent : ℕ → ℕ → ℕ) → Shaped s → (i ts : ℕ) → i < max_sites → s.count ≤ max_txns
    → Below s.count ts → ((u : ℕ) → u < s.count → (txn_at s u).home < max_sites)
    → (let v = seen s l spent in
    seen (ready_home i ts s) l spent
    ≡ with_statuses v v.status (ready_missing v.net (mark v.net.ready (λ j u. has ts u && j == i)) v.net.missing))
unfolding put ready_with
see_ready_home s l spent h i ts hi few in_table homes =
    let v : View = seen s l spent in
    see_delivered s l spent h (Ready i) (homed_at s.txns ts) out
    ∙ ap (λ (g : ℕ → ℕ → Bool). with_statuses v v.status (ready_missing v.net g v.net.missing))
    (fun_ext (λ j. fun_ext (λ u. go j u (test (has ts u)))))
  where
    homed : (j u : ℕ) → has (homed_at s.txns ts j) u ≡ (nat_lt u max_txns && (has ts u && (txn_at s u).home == j))
    homed j u = unfold homed_at in (has-those max_txns _ u)

    out : (j : ℕ) → max_sites ≤ j → homed_at s.txns ts j ≡ none
    out j past = ext (homed_at s.txns ts j) none (λ u.
        untrue _ (λ m.
        let is = both_right (nat_lt u max_txns) _ (sym (homed j u) ∙ m) in
        let at : (txn_at s u).home ≡ j = eqb-true _ j (both_right (has ts u) _ is) in
        omega (arith, homes u (in_table u (both_left _ _ is))))
        ∙ sym (has-none u))

    ready : ℕ → List ℕ
    ready u = (place_at s (txn_at s u).home).channel.ready

    go : (j u : ℕ) → Test (has ts u)
        → has (slice_index_or (each (λ t from. cond (has (homed_at s.txns ts (txn_at s u).home) t) (with from i) from) (ready u)) u none) j
        ≡ cond (has ts u && j == i) true (has (slice_index_or (ready u) u none) j)
    go j u (yes_so e) =
        let b : u < s.count = in_table u e in
        let fits : u < length (ready u) = omega (arith, (h.place (txn_at s u).home (homes u b)).ready) in
        rw (
          some_read (has (homed_at s.txns ts (txn_at s u).home)) (λ t from. with from i) (ready u) u none,
          homed (txn_at s u).home u,
          e,
          eqb_same,
          lt-ltb u max_txns (omega arith),
          lt-ltb u (length (ready u)) fits,
        )
        (has_added true (slice_index_or (ready u) u none) i j (omega arith) ∙ rw (and-true (j == i)))
    go j u (not_so e) =
        rw (
          some_read (has (homed_at s.txns ts (txn_at s u).home)) (λ t from. with from i) (ready u) u none,
          homed (txn_at s u).home u,
          e,
          and-false (nat_lt u max_txns),
          and-false (nat_lt u (length (ready u))),
        )

-- what a site has beside its statuses, queue and flag has its lengths
queue_shaped : (p : Place) (q : ℕ) (b : Bool) → PlaceShaped p → PlaceShaped (with_queue p q b)
queue_shaped p q b k = record { entries = k.entries; versions = k.versions; ready = k.ready }

-- the state with the statuses and the queue that the scan c at site i leaves, before its messages
abbrev settled : State → ℕ → Scan → State
settled s i c = with_place (with_row s i c.row) i (with_queue (place_at s i) c.waiting false)

module _ (s : State) (l : List ℕ) (spent : ℕ → ℕ → ℕ) (i : ℕ) (f : Fine s) (hi : i < s.sites) where
  i_fits : i < max_sites
  i_fits = omega (arith, sites_fit s f.ranged.table)

  -- a scan begins as the state is
  first-seen : scan_seen s l spent i (scan_from s i) ≡ seen s l spent
  first-seen =
      let v : View = seen s l spent in
      λ κ. record {
        sites = s.sites;
        home = v.home;
        status = λ j u. cond (nat_lt u s.count) (status_in (rows j (j == i) (cmp j i) κ) u) idle;
        net =
            net_of v.net.remote (λ j u. cond (has-none u κ && j == i) true (v.net.ready j u)) v.net.commit
            (λ j u. cond (has-none u κ && besides v i j) true (v.net.abort j u)) v.net.missing
            (λ j u. queues j u (j == i) (cmp j i) κ) (λ j u. spends j u κ);
        sets = v.sets;
        logs = v.logs;
      }
    where
      rows : (j : ℕ) (b : Bool) → Cmp j i b → cond b (row_at s i) (row_at s j) ≡ row_at s j
      rows j true (same e) = rw e
      rows j false (other e) = refl

      queues : (j u : ℕ) (b : Bool) → Cmp j i b
          → cond b (has (place_at s i).queue u || has none u) (has (place_at s j).queue u) ≡ has (place_at s j).queue u
      queues j u true (same e) = rw (e, has-none u) (or-false (has (place_at s i).queue u))
      queues j u false (other e) = refl

      spends : (j u : ℕ) → (scan_seen s l spent i (scan_from s i)).net.spent j u ≡ spent j u
      spends j u = rw (has-none u)

  -- what a scan leaves
  module _ (c : Scan) (row : RowShaped c.row) (aborts : Below s.count c.aborts) (readies : Below s.count c.readies)
      (ends : c.rest ≡ none) where
    settled_shaped : Shaped (settled s i c)
    settled_shaped = site_shaped s i c.row (with_queue (place_at s i) c.waiting false) f.shaped row
        (queue_shaped (place_at s i) c.waiting false (f.shaped.place i i_fits))

    settled-seen : (spent : ℕ → ℕ → ℕ) → seen (settled s i c) l spent
        ≡ with_statuses (seen s l spent) (λ j u. cond (nat_lt u s.count) (status_in (cond (j == i) c.row (row_at s j)) u) idle)
        (remote_queued (seen s l spent).net (seen s l spent).net.remote
        (λ j u. has (cond (j == i) c.waiting (place_at s j).queue) u))
    settled-seen spent =
        ap₂ (λ (rows : ℕ → Row) (places : ℕ → Place). seen_of s.sites s.count rows places (txn_at s) l spent)
        (fun_ext (λ j. set_at s.rows i c.row no_row j (omega (arith, i_fits, f.shaped.rows))))
        (set_by s.places i no_place
        (λ b p. with_queue p (cond b c.waiting p.queue) (cond b false p.remove)) (omega (arith, i_fits, f.shaped.places))
        (λ p. refl))

    last-seen : seen (scan_leaves s i c).state l (scan_spent s l spent i c) ≡ scan_seen s l spent i c
    unfolding scan_leaves
    last-seen =
        let few : s.sites ≤ max_sites = sites_fit s f.ranged.table in
        see_ready_home (multicast Abort i c.aborts (settled s i c)) l (scan_spent s l spent i c)
        (delivered_shaped Abort _ (settled s i c) settled_shaped) i c.readies i_fits (count_fits s f.ranged.table) readies
        (λ u b. omega (arith, home_fits s f u b)) ∙ ap (λ (a : View).
        with_statuses a a.status
        (ready_missing a.net (mark a.net.ready (λ j u. has c.readies u && j == i)) a.net.missing))
        (see_multicast (settled s i c) l (scan_spent s l spent i c) settled_shaped few abort i c.aborts
        ∙ ap (λ (a : View).
        with_statuses a a.status
        (abort_queued a.net (mark a.net.abort (λ j u. has c.aborts u && besides a i j)) a.net.queued))
        (settled-seen (scan_spent s l spent i c))) ∙ ap (λ (g : ℕ → ℕ → Bool).
        with_statuses (scan_seen s l spent i c) (scan_seen s l spent i c).status
        (remote_queued (scan_seen s l spent i c).net (scan_seen s l spent i c).net.remote g))
        (fun_ext (λ j. fun_ext (λ u. go j u (j == i))))
      where
        go : (j u : ℕ) (b : Bool) → has (cond b c.waiting (place_at s j).queue) u
            ≡ cond b (has c.rest u || has c.waiting u) (has (place_at s j).queue u)
        go j u true = rw (ends, has-none u)
        go j u false = refl

  -- what a scan has done at its end
  pub scan_turned : Good (seen s l spent) → Turned s l spent i f hi (scanned s i)
  scan_turned g =
      let first = scanning_first s i f hi in
      scan_keeps s.count s.txns i (Turned s l spent i f hi) (turned s l spent i f hi) (scan_from s i) first.0
      (record {
        fine = first.1;
        row = (site_stands f i hi).row;
        unsent = λ u m. has-none u;
        fallen = λ u m. absurd (in_none u m);
        good = subst Good (sym first-seen) g;
      })

  -- a scan keeps the invariant
  pub scan_good : Good (seen s l spent) → Good (seen (scan s i).state l (scan_spent s l spent i (scanned s i)))
  unfolding scan
  scan_good g =
      let end = scan_turned g in
      subst Good
      (sym (last-seen (scanned s i) end.row end.fine.aborts end.fine.readies
      (scan_ends s.count s.txns i (scan_from s i) (scanning_first s i f hi).0))) end.good
