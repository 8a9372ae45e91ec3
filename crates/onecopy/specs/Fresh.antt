-- The state of an accepted setup is as the invariant asks, with an empty L and nothing spent.
use Rattle.std.specs.Prelude.{ℕ, ◌≤◌, ◌<◌, ◌≡◌, refl, false, cond, ◌&&◌, ◌⊎◌, List, [], length, replicate, ◌==◌, nat_lt, slice_index_or}
use Rattle.onecopy.specs.Words.{sym, ap, ◌∙◌, inl, inr, ⊎_elim, Memᴰ-not_nil, arith, length-replicate, get_or-replicate, get_or-eq_default, ltb-true, ltb-false, lt-ltb, eqb-true, has, none, has-none, table, max_sites, max_txns, objects, idle, start, committed, empty_place, empty_txn, no_row, no_place, no_txn, log_of, place_at, txn_at, entry_at, setup_answer, Entry, Place, Txn, State, Test, yes_so, not_so, test, length-table, get_or-table, cond_keeps, total-zero, range_out, count_fits, Fine, setup_ranged}
use Rattle.protocol.specs.Setup.{fresh_row, fresh_txn, fresh_state, setup}
use Rattle.onecopy.specs.Histories.{once_nil, level}
use Rattle.onecopy.specs.Phase.{early, absent, starts}
use Rattle.onecopy.specs.Phases.{nothing}
use Rattle.onecopy.specs.Views.{View, Runs}
use Rattle.onecopy.specs.Kinds.{not-idle, not_start}
use Rattle.onecopy.specs.Kept.{Good}
use Rattle.onecopy.specs.Seen.{seen}
use Rattle.onecopy.specs.Run.{Reached}

-- a list that repeats x gives x, or past its end the default
repeats : {A : Type 0} (P : A → Type 0) (n : ℕ) (x d : A) → P x → P d → (k : ℕ) → P (slice_index_or (replicate n x) k d)
repeats P n x d a b k = go (test (nat_lt k n))
  where
    go : Test (nat_lt k n) → P (slice_index_or (replicate n x) k d)
    go (yes_so e) = rw (get_or-replicate n k x d (ltb-true k n e)) a
    go (not_so e) =
        let past : length (replicate n x) ≤ k = rw (length-replicate n x) (ltb-false k n e) in
        rw (get_or-eq_default (replicate n x) d past) b

zeros : (n k : ℕ) → ◌≡◌ {A = ℕ} (slice_index_or (replicate n 0) k 0) 0
zeros n k = repeats (λ (x : ℕ). x ≡ 0) n 0 0 refl refl k

-- a transaction that has read, written and noted nothing, and misses nobody's ready
record Untouched (x : Txn) : Type 0 where
  reads : x.reads ≡ none
  writes : x.writes ≡ none
  missing : x.missing ≡ none
  noted : (o : ℕ) → slice_index_or x.noted o 0 ≡ 0

module _ (sites : ℕ) (es : List Entry) (fits : length es ≤ max_txns) where
  abbrev s : State
  s = fresh_state sites es

  -- every site is empty
  place_is : (P : Place → Type 0) → P empty_place → P no_place → (i : ℕ) → P (place_at s i)
  unfolding fresh_state
  place_is P a b i = repeats P max_sites empty_place no_place a b i

  -- no transaction is touched
  txn_is : (t : ℕ) → Untouched (txn_at s t)
  unfolding fresh_state fresh_txn
  txn_is t = go (test (nat_lt t max_txns))
    where
      go : Test (nat_lt t max_txns) → Untouched (slice_index_or (table max_txns (fresh_txn es)) t no_txn)
      go (yes_so e) = rw (get_or-table (fresh_txn es) max_txns t no_txn (ltb-true t max_txns e))
          (cond_keeps Untouched (nat_lt t (length es)) _ empty_txn
          (λ q. record { reads = refl; writes = refl; missing = refl; noted = zeros objects })
          (λ q. record { reads = refl; writes = refl; missing = refl; noted = zeros objects }))
      go (not_so e) =
          let past : length (table max_txns (fresh_txn es)) ≤ t = rw (length-table (fresh_txn es) max_txns) (ltb-false t max_txns e) in
          rw (get_or-eq_default (table max_txns (fresh_txn es)) no_txn past)
          (record { reads = refl; writes = refl; missing = refl; noted = λ o. refl })

  abbrev first : View
  first = seen s [] (λ j u. 0)

  -- "Fresh: start at home, idle elsewhere"
  status_is : (i t : ℕ) → (first.status i t ≡ idle) ⊎ ((first.status i t ≡ start) × (first.home t ≡ i))
  unfolding fresh_state fresh_row fresh_txn
  status_is i t = go (test (nat_lt t (length es))) (test (nat_lt i max_sites))
    where
      found : t < length es → Test ((entry_at es t).home == i)
          → (cond (nat_lt t (length es) && (entry_at es t).home == i) start idle ≡ idle)
          ⊎ ((cond (nat_lt t (length es) && (entry_at es t).home == i) start idle ≡ start) × (first.home t ≡ i))
      found b (yes_so e) =
          inr (
            rw (lt-ltb t (length es) b, e),
            rw (get_or-table (fresh_txn es) max_txns t no_txn (omega arith), lt-ltb t (length es) b) (eqb-true _ i e),
          )
      found b (not_so e) = inl (rw (lt-ltb t (length es) b, e))

      go : Test (nat_lt t (length es)) → Test (nat_lt i max_sites)
          → (first.status i t ≡ idle) ⊎ ((first.status i t ≡ start) × (first.home t ≡ i))
      go (not_so e) q = inl (rw e)
      go (yes_so e) (not_so q) =
          let past : length (table max_sites (fresh_row es)) ≤ i = rw (length-table (fresh_row es) max_sites) (ltb-false i max_sites q) in
          inl (rw (e, get_or-eq_default (table max_sites (fresh_row es)) no_row past))
      go (yes_so e) (yes_so q) =
          let b : t < length es = ltb-true t (length es) e in
          rw (
            e,
            get_or-table (fresh_row es) max_sites i no_row (ltb-true i max_sites q),
            get_or-table (λ u. cond (nat_lt u (length es) && (entry_at es u).home == i) start idle) max_txns t idle (omega arith),
          )
          (found b (test ((entry_at es t).home == i)))

  not_yet : (i t : ℕ) → first.status i t ≡ committed → ⊥
  not_yet i t e = ⊎_elim (λ q. omega arith) (λ q. omega (arith, q.0)) (status_is i t)

  nobody : (i t : ℕ) → Runs (first.status i t) → ⊥
  nobody i t r = ⊎_elim (λ q. not-idle (rw q at r)) (λ q. not_start (rw q.0 at r)) (status_is i t)

  -- a set that an empty site has is empty
  none-there : (m : Place → ℕ) → m empty_place ≡ none → m no_place ≡ none → (i t : ℕ) → has (m (place_at s i)) t ≡ false
  none-there m a b i t =
      place_is (λ p. has (m p) t ≡ false) (ap (λ (x : ℕ). has x t) a ∙ has-none t) (ap (λ (x : ℕ). has x t) b ∙ has-none t) i

  no_remote : (i t : ℕ) → first.net.remote i t ≡ false
  no_remote = none-there (λ p. p.channel.remote) refl refl

  no_commit : (i t : ℕ) → first.net.commit i t ≡ false
  no_commit = none-there (λ p. p.channel.commit) refl refl

  no_abort : (i t : ℕ) → first.net.abort i t ≡ false
  no_abort = none-there (λ p. p.channel.abort) refl refl

  no_ready : (i t : ℕ) → first.net.ready i t ≡ false
  no_ready i t = none-there (λ p. slice_index_or p.channel.ready t none) (zeros max_txns t) refl (first.home t) i

  no_log : (i : ℕ) → first.logs.log i ≡ []
  no_log i = place_is (λ p. log_of p ≡ []) refl refl i

  first_good : Good first
  first_good = record {
    phases = λ t j b ne.
        let far : first.status j t ≡ idle = ⊎_elim (λ q. q) (λ q. absurd (ne (sym q.1))) (status_is j t) in
        rw (
          far,
          no_remote j t,
          no_ready j t,
          no_commit j t,
          no_abort j t,
          (txn_is t).missing,
          has-none j,
          none-there (λ p. p.queue) refl refl j t,
        )
        (⊎_elim (λ q. rw q (early absent)) (λ q. rw q.0 (early starts)) (status_is (first.home t) t));
    own = λ t. rw (no_remote (first.home t) t, no_commit (first.home t) t, no_abort (first.home t) t) nothing;
    apart = record {
      apart = λ i t u o b ne r q w. absurd (nobody i t r);
      fresh_writes = λ t o e. rw (txn_is t).writes (has-none o);
      fresh_reads = λ t o e. rw (txn_is t).reads (has-none o);
      fresh_noted = λ t o e. (txn_is t).noted o;
    };
    logged = record {
      list_in = λ t m. absurd (Memᴰ-not_nil m);
      in_list = λ t e. absurd (not_yet (first.home t) t e);
      list_once = once_nil;
      log_in = λ i t m. absurd (Memᴰ-not_nil (rw (no_log i) at m));
      in_log = λ i t e. absurd (not_yet i t e);
      log_once = λ i. rw (no_log i) once_nil;
      stored = λ i o b k. place_is (λ p. slice_index_or p.versions o 0 ≡ 0) (zeros objects o) refl i ∙ rw (no_log i);
      lag = λ i o b. rw (no_log i) (level refl);
      read = λ t o v e. absurd (omega (arith, (txn_is t).noted o));
      held_still = λ t o v r e. absurd (nobody (first.home t) t r);
      serial = tt;
    };
  }

-- an accepted setup begins a run
pub setup_reached : (sites : ℕ) (es : List Entry) → setup_answer sites es ≡ 0 → Reached (setup sites es).state [] (λ u. 0)
unfolding setup fresh_state
setup_reached sites es z =
    let k = setup_ranged sites es z in
    let e : (setup sites es).state ≡ fresh_state sites es = rw z in
    let fine : Fine (setup sites es).state = record { shaped = k.0; ranged = range_out (setup sites es).state k.1 } in
    let f : Fine (fresh_state sites es) = rw e at fine in
    rw e (record {
      fine = f;
      spent = λ j u. 0;
      good = first_good sites es (count_fits (fresh_state sites es) f.ranged.table);
      counted = λ u. total-zero (fresh_state sites es).sites;
    })
