-- A state as the invariant sees it, and how the changes of which every action is made are seen.
use Rattle.std.specs.Prelude.{ℕ, ◌+◌, ◌≤◌, ◌<◌, ◌≡◌, refl, Bool, true, false, cond, ◌&&◌, ◌≢◌, List, [], ◌∷◌, ◌++◌, length, set, ◌==◌, nat_lt, slice_index_or}
use Rattle.onecopy.specs.Words.{ap, ◌∙◌, fun_ext, and-true, arith, length-set, get_or-eq_default, get_or-set_same, get_or-set_other, lt-ltb, le-ltb, ltb-true, ltb-false, eqb-true, has, none, without, each, store_at, max_sites, max_txns, objects, idle, committed, status_in, ready_in, log_of, version_in, no_row, no_place, no_txn, row_at, place_at, txn_at, row_with, with_status, with_places, with_place, with_txn, with_channel, appended, others, multicast, is, Message, Remote, Ready, Commit, Abort, Row, Place, Txn, State, Test, yes_so, not_so, test, get_or-each, length-each, set_at, set_by, some_read, has_dropped, has-joined, has-others, PlaceShaped, Shaped, entries_of, sites_fit, count_fits, log_grown, Fine, site_stands, Cmp, cmp, same, other}
use Rattle.sets.specs.Set.{union}
use Rattle.protocol.specs.Lists.{each_from}
use Rattle.protocol.specs.Channel.{put, ready_with, delivered}
use Rattle.onecopy.specs.Tables.{mark}
use Rattle.onecopy.specs.Views.{View, Net, Runs, with_statuses, raised, besides, remote_queued, with_commits, abort_queued, appended_at, stored_at}
use Rattle.onecopy.specs.Kinds.{not-idle}

-- A view from the counts, the rows, the places and the transactions by their numbers, with L and the messages spent. One
-- that is not in the table is idle everywhere.
abbrev pub seen_of : ℕ → ℕ → (ℕ → Row) → (ℕ → Place) → (ℕ → Txn) → List ℕ → (ℕ → ℕ → ℕ) → View
seen_of n count rows places txns l spent = record {
  sites = n;
  home = λ t. (txns t).home;
  status = λ i t. cond (nat_lt t count) (status_in (rows i) t) idle;
  net = record {
    remote = λ i t. has (places i).channel.remote t;
    ready = λ i t. has (ready_in (places (txns t).home).channel t) i;
    commit = λ i t. has (places i).channel.commit t;
    abort = λ i t. has (places i).channel.abort t;
    missing = λ i t. has (txns t).missing i;
    queued = λ i t. has (places i).queue t;
    spent = spent;
  };
  sets = record {
    reads = λ t o. has (txns t).reads o;
    writes = λ t o. has (txns t).writes o;
    noted = λ t o. slice_index_or (txns t).noted o 0;
  };
  logs = record { log = λ i. log_of (places i); version = λ i o. version_in (places i) o; list = l };
}

abbrev pub seen : State → List ℕ → (ℕ → ℕ → ℕ) → View
seen s l spent = seen_of s.sites s.count (row_at s) (place_at s) (txn_at s) l spent

-- .. with other places, and with other transactions
abbrev pub places_seen : State → (ℕ → Place) → List ℕ → (ℕ → ℕ → ℕ) → View
places_seen s places l spent = seen_of s.sites s.count (row_at s) places (txn_at s) l spent

abbrev pub txns_seen : State → (ℕ → Txn) → List ℕ → (ℕ → ℕ → ℕ) → View
txns_seen s txns l spent = seen_of s.sites s.count (row_at s) (place_at s) txns l spent

-- the status that is tested is the one that is seen
pub seen_status : (s : State) (l : List ℕ) (spent : ℕ → ℕ → ℕ) (i t v : ℕ) → t < s.count → is s i t v ≡ true
    → (seen s l spent).status i t ≡ v
seen_status s l spent i t v ht e = rw (lt-ltb t s.count ht) (eqb-true _ v e)

-- who is seen to execute is in the table, which has n, and executes
pub known_runs : (n u v : ℕ) → Runs (cond (nat_lt u n) v idle) → (u < n) × Runs v
known_runs n u v = go (nat_lt u n) refl
  where
    go : (b : Bool) → nat_lt u n ≡ b → Runs (cond b v idle) → (u < n) × Runs v
    go true e r = (ltb-true u n e, r)
    go false e r = not-idle r

-- the kinds of message that go to all other sites, and a net where such a message lies wherever g says so, besides
-- where it lay
pub data Cast : Message → Type 0 where
  remote : Cast Remote
  commit : Cast Commit
  abort : Cast Abort

abbrev pub casting : {m : Message} → Cast m → (ℕ → ℕ → Bool) → Net → Net
casting remote g m = remote_queued m (mark m.remote g) m.queued
casting commit g m = with_commits m (mark m.commit g)
casting abort g m = abort_queued m (mark m.abort g) m.queued

-- ---- what is changed, as it is seen

module _ (s : State) (l : List ℕ) (spent : ℕ → ℕ → ℕ) (shaped : Shaped s) where
  abbrev v : View
  v = seen s l spent

  -- t takes the status w at site i
  pub see_status : (i t w : ℕ) → i < max_sites → t < s.count → s.count ≤ max_txns
      → seen (with_status s i t w) l spent ≡ raised v i t w
  see_status i t w hi ht fits = ap (λ (f : ℕ → ℕ → ℕ). with_statuses v f v.net) (fun_ext (λ j. fun_ext (λ u.
      ap (λ (r : Row). cond (nat_lt u s.count) (status_in r u) idle)
      (set_at s.rows i (row_with (row_at s i) t w) no_row j (omega (arith, shaped.rows)))
      ∙ go j u (j == i) (cmp j i) (u == t) (cmp u t))))
    where
      go : (j u : ℕ) (b : Bool) → Cmp j i b → (d : Bool) → Cmp u t d
          → cond (nat_lt u s.count) (status_in (cond b (row_with (row_at s i) t w) (row_at s j)) u) idle
          ≡ cond (d && b) w (cond (nat_lt u s.count) (status_in (row_at s j) u) idle)
      go j u true (same p) true (same q) = rw (q, lt-ltb t s.count ht)
          (get_or-set_same (row_at s i).status t w idle (omega (arith, (shaped.row i hi).status)))
      go j u true (same p) false (other q) = rw (p, get_or-set_other (row_at s i).status t u w idle q)
      go j u false (other p) true (same q) = refl
      go j u false (other p) false (other q) = refl

  -- site i becomes what g true makes of it
  pub see_place : (i : ℕ) (g : Bool → Place → Place) → i < max_sites → ((p : Place) → g false p ≡ p)
      → seen (with_place s i (g true (place_at s i))) l spent
      ≡ places_seen s (λ j. g (j == i) (place_at s j)) l spent
  see_place i g hi e = ap (λ (ps : ℕ → Place). places_seen s ps l spent)
      (set_by s.places i no_place g (omega (arith, shaped.places)) e)

  -- transaction t becomes what g true makes of it
  pub see_txn : (t : ℕ) (g : Bool → Txn → Txn) → t < max_txns → ((x : Txn) → g false x ≡ x)
      → seen (with_txn s t (g true (txn_at s t))) l spent
      ≡ txns_seen s (λ u. g (u == t) (txn_at s u)) l spent
  see_txn t g ht e = ap (λ (xs : ℕ → Txn). txns_seen s xs l spent)
      (set_by s.txns t no_txn g (omega (arith, shaped.txns)) e)

  -- messages are delivered to sites
  pub see_delivered : (m : Message) (to : ℕ → ℕ) → ((j : ℕ) → max_sites ≤ j → to j ≡ none)
      → seen (with_places s (delivered m to s.places)) l spent
      ≡ places_seen s (λ j. with_channel (place_at s j) (put m (to j) (place_at s j).channel)) l spent
  unfolding delivered
  see_delivered m to out = ap (λ (ps : ℕ → Place). places_seen s ps l spent)
      (fun_ext (λ j. go j (test (nat_lt j max_sites))))
    where
      new : ℕ → Place → Place
      new j p = with_channel p (put m (to j) p.channel)

      nothing : (m : Message) → no_place ≡ with_channel no_place (put m none no_place.channel)
      nothing Remote = unfold put union in refl
      nothing (Ready k) = unfold put ready_with each_from in refl
      nothing Commit = unfold put union in refl
      nothing Abort = unfold put union in refl

      go : (j : ℕ) → Test (nat_lt j max_sites) → slice_index_or (each new s.places) j no_place ≡ new j (place_at s j)
      go j (yes_so e) = get_or-each new s.places j no_place (omega (arith, ltb-true j max_sites e, shaped.places))
      go j (not_so e) =
          let past : length s.places ≤ j = omega (arith, ltb-false j max_sites e, shaped.places) in
          let new_past : length (each new s.places) ≤ j = rw length-each past in
          rw (
            get_or-eq_default s.places no_place past,
            get_or-eq_default (each new s.places) no_place new_past,
            out j (ltb-false j max_sites e),
          )
          (nothing m)

  -- a message about each of ts goes from site i to all other sites
  pub see_multicast : s.sites ≤ max_sites → {m : Message} (c : Cast m) (i ts : ℕ) → seen (multicast m i ts s) l spent
      ≡ with_statuses v v.status (casting c (λ j u. has ts u && besides v i j) v.net)
  unfolding put
  see_multicast fits {m} c i ts = see_delivered m to out ∙ go m c
    where
      to : ℕ → ℕ
      to j = cond (has (others s i) j) ts none

      out : (j : ℕ) → max_sites ≤ j → to j ≡ none
      out j past = rw (has-others s i j fits, le-ltb j s.sites (omega arith))

      joined : (f : ℕ → ℕ) → ◌≡◌ {A = ℕ → ℕ → Bool} (λ j u. has (union (f j) (to j)) u)
          (mark (λ j u. has (f j) u) (λ j u. has ts u && besides v i j))
      joined f = fun_ext (λ j. fun_ext (λ u.
          has-joined (has (others s i) j) (f j) ts u
          ∙ ap (λ (b : Bool). cond (has ts u && b) true (has (f j) u)) (has-others s i j fits)))

      go : (m : Message) (c : Cast m)
          → places_seen s (λ j. with_channel (place_at s j) (put m (to j) (place_at s j).channel)) l spent
          ≡ with_statuses v v.status (casting c (λ j u. has ts u && besides v i j) v.net)
      go m remote =
          ap (λ f. with_statuses v v.status (remote_queued v.net f v.net.queued)) (joined (λ j. (place_at s j).channel.remote))
      go m commit =
          ap (λ f. with_statuses v v.status (with_commits v.net f)) (joined (λ j. (place_at s j).channel.commit))
      go m abort =
          ap (λ f. with_statuses v v.status (abort_queued v.net f v.net.queued)) (joined (λ j. (place_at s j).channel.abort))

-- ---- parts of a site, as they are seen

-- a ready about t from site k is taken at a site, where b says whether it is that site
abbrev pub ready_taken : ℕ → ℕ → Bool → Place → Place
ready_taken t k b p =
    with_channel p (record {
      remote = p.channel.remote;
      ready = cond b (set p.channel.ready t (without (ready_in p.channel t) k)) p.channel.ready;
      commit = p.channel.commit;
      abort = p.channel.abort;
    })

-- of site i, for t:
module _ (s : State) (f : Fine s) (i t : ℕ) (hi : i < s.sites) (ht : t < s.count) where
  -- t commits that has not committed there: the logs and the versions
  pub log_seen : (status_in (row_at s i) t ≡ committed → ⊥) → ◌≡◌ {A = ℕ → List ℕ}
      (λ j. entries_of (cond (j == i) (appended (place_at s j).log t) (place_at s j).log))
      (appended_at (λ j. log_of (place_at s j)) i t)
  log_seen old = fun_ext (λ j. go j (j == i) (cmp j i))
    where
      go : (j : ℕ) (b : Bool) → Cmp j i b → entries_of (cond b (appended (place_at s j).log t) (place_at s j).log)
          ≡ cond b (log_of (place_at s j) ++ (t ∷ [])) (log_of (place_at s j))
      go j false (other e) = refl
      go j true (same e) =
          let k = site_stands f i hi in
          rw e
          (log_grown s.count (row_at s i) (place_at s i).log t (count_fits s f.ranged.table) k.place.entries ht old
          k.fine.log)

  pub version_seen : ◌≡◌ {A = ℕ → ℕ → ℕ}
      (λ j o. slice_index_or (cond (j == i) (store_at (txn_at s t).writes (t + 1) (place_at s j).versions) (place_at s j).versions) o 0)
      (stored_at (λ j o. version_in (place_at s j) o) (λ u o. has (txn_at s u).writes o) i t)
  version_seen = fun_ext (λ j. fun_ext (λ o. go j o (j == i) (cmp j i)))
    where
      go : (j o : ℕ) (b : Bool) → Cmp j i b
          → slice_index_or (cond b (store_at (txn_at s t).writes (t + 1) (place_at s j).versions) (place_at s j).versions) o 0
          ≡ cond (b && (nat_lt o objects && has (txn_at s t).writes o)) (t + 1) (version_in (place_at s j) o)
      go j o false (other e) = refl
      go j o true (same e) = rw e
          (some_read (λ o. has (txn_at s t).writes o) (λ o x. t + 1) (place_at s i).versions o 0
          ∙ rw (site_stands f i hi).place.versions)

  -- a ready is taken: it is seen where site i is the home of t
  pub ready_shaped : (k : ℕ) → PlaceShaped (ready_taken t k true (place_at s i))
  ready_shaped k =
      let old = (site_stands f i hi).place in
      record { entries = old.entries; versions = old.versions; ready = length-set (place_at s i).channel.ready t _ ∙ old.ready }

  pub ready_seen : (k : ℕ) → ◌≡◌ {A = ℕ → ℕ → Bool}
      (λ j u. has (ready_in (ready_taken t k ((txn_at s u).home == i) (place_at s (txn_at s u).home)).channel u) j)
      (λ j u. cond (u == t && ((txn_at s t).home == i && j == k)) false (has (ready_in (place_at s (txn_at s u).home).channel u) j))
  ready_seen k = fun_ext (λ j. fun_ext (λ u. go j u (u == t) (cmp u t)))
    where
      ready : ℕ → List ℕ
      ready u = (place_at s (txn_at s u).home).channel.ready

      less : ℕ → List ℕ
      less u = set (ready u) t (without (slice_index_or (ready u) t none) k)

      aside : (j u : ℕ) (b : Bool) → u ≢ t → has (slice_index_or (cond b (less u) (ready u)) u none) j ≡ has (slice_index_or (ready u) u none) j
      aside j u true ne = rw (get_or-set_other (ready u) t u (without (slice_index_or (ready u) t none) k) none ne)
      aside j u false ne = refl

      here : (j : ℕ) (b : Bool) → Cmp (txn_at s t).home i b
          → has (slice_index_or (cond b (less t) (ready t)) t none) j ≡ cond (b && j == k) false (has (slice_index_or (ready t) t none) j)
      here j false c = refl
      here j true (same e) =
          let site : (txn_at s t).home < max_sites = omega (arith, sites_fit s f.ranged.table) in
          let fits : t < length (ready t) =
          omega (arith, count_fits s f.ranged.table, (f.shaped.place (txn_at s t).home site).ready) in
          rw (get_or-set_same (ready t) t (without (slice_index_or (ready t) t none) k) none fits)
          (has_dropped true (slice_index_or (ready t) t none) k j ∙ rw (and-true (j == k)))

      go : (j u : ℕ) (d : Bool) → Cmp u t d → has (slice_index_or (cond ((txn_at s u).home == i) (less u) (ready u)) u none) j
          ≡ cond (d && ((txn_at s t).home == i && j == k)) false (has (slice_index_or (ready u) u none) j)
      go j u false (other ne) = aside j u ((txn_at s u).home == i) ne
      go j u true (same e) = rw e (here j ((txn_at s t).home == i) (cmp (txn_at s t).home i))
