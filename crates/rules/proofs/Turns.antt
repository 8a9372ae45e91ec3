-- A turn makes of the parts that it reads what the event makes of the state.
use Rattle.std.specs.Prelude.{◌==◌, nat_lt, Result, Ok, Err}
use Prim.Native.Nat.{ℕ, ◌<◌}
use mathlib.Core.Path.{◌≡◌, refl, sym, ap, ◌∙◌, subst}
use mathlib.Core.Bool.{Bool, true, false, cond}
use lib.ListN.{set}
use lib.Seq.{set-get_or}
use borrow.Author.Tests.{lt-ltb, ltb-true, eq-eqb, ne_eqb}
use Rattle.sets.specs.Set.{all_but, size}
use Rattle.protocol.specs.Lists.{table_from}
use Rattle.protocol.specs.State.{active, precommit, no_row, no_place, no_txn, row_at, place_at, txn_at, at_home, with_status, with_txn}
use Rattle.protocol.specs.Database.{ended, commit_here}
use Rattle.protocol.specs.Channel.{others, multicast}
use Rattle.protocol.specs.Scan.{scan_all, scan, scan_leaves}
use Rattle.protocol.specs.Figure.{silent, sending, only, effect}
use Rattle.protocol.specs.Check.{first_of}
use Rattle.protocol.specs.Range.{in_range}
use Rattle.protocol.specs.Answer.{no_action, action_of, Stepped, refused, step}
use Rattle.protocol.specs.declared.Message.{Message}
use Rattle.protocol.specs.declared.Message.TheVariants.{Remote, Ready, Commit, Abort}
use Rattle.protocol.specs.declared.Action.{Action}
use Rattle.protocol.specs.declared.Action.TheVariants.{Create, BeginOperation, EndOperation, BeginCommit, EndCommit, LocalAbort, Receive, ExecuteRemote, Discard}
use Rattle.protocol.specs.declared.Scan.{Scan}
use Rattle.protocol.specs.declared.Event.{Event}
use Rattle.protocol.specs.declared.State.{State}
use Rattle.protocol.specs.declared.Done.{Done}
use Rattle.protocol.specs.declared.Refusal.{Refusal}
use Rattle.laws.specs.Enabled.{numbered}
use Rattle.laws.specs.Tests.{Test, yes_so, not_so, test, Same, same, other, same?}
use Rattle.rules.specs.Refusal.{misplaced_by}
use Rattle.rules.specs.Turn.{here_at, with_here, posted, after_turn, index_of, here_status, here_txn, quiet, telling, scan_of, turn_by, told_of, admitted_by, admitted}
use Rattle.rules.specs.declared.Here.{Here}
use Rattle.rules.specs.declared.Told.{Told}
use Rattle.rules.specs.declared.Turn.{Turn}
use Rattle.rules.proofs.Sent.{posted_told, posted-none}
use Rattle.rules.proofs.Checks.{by_number, misplaced_in, told_in, refusal_in, placed}
use Rattle.rules.proofs.Steps.{step_unknown, step_misplaced, step-not_enabled, step-enabled}

-- ---- each action

module _ (s : State) (i t : ℕ) where
  rows_same : set s.rows i (row_at s i) ≡ s.rows
  rows_same = set-get_or s.rows i no_row

  places_same : set s.places i (place_at s i) ≡ s.places
  places_same = set-get_or s.places i no_place

  txns_same : set s.txns t (txn_at s t) ≡ s.txns
  txns_same = set-get_or s.txns t no_txn

  -- what a turn leaves
  abbrev left : Turn → Done
  left d = record { state = after_turn s i t d; sent = d.sent }

  left-quiet : (h : Here) → left (quiet h) ≡ record { state = with_here s i t h; sent = 0 }
  left-quiet h = rw (posted-none i Remote (with_here s i t h))

  left_told : (m : Message) (h : Here)
      → left (telling m (others s i) t h) ≡ sending (size (others s i)) (multicast m i (only t) (with_here s i t h))
  left_told m h = rw (posted_told i m (only t) (with_here s i t h))

  -- an end of operation, at home or away from it
  left_ended : (b : Bool)
      → silent (with_here s i t (cond b (here_txn (here_status (here_at s i t) t active) (ended (txn_at s t) (place_at s i))) (here_status (here_at s i t) t precommit)))
      ≡ silent (cond b (with_status (with_txn s t (ended (txn_at s t) (place_at s i))) i t active) (with_status s i t precommit))
  left_ended true = rw places_same
  left_ended false = rw (places_same, txns_same)

  -- the scan that an action is told: as it ends where it scans, and else as it begins
  scan_for : Action → Scan
  scan_for Create = scan_of (here_at s i t)
  scan_for (BeginOperation r w) = scan_of (here_at s i t)
  scan_for EndOperation = scan_of (here_at s i t)
  scan_for BeginCommit = scan_of (here_at s i t)
  scan_for EndCommit = scan_of (here_at s i t)
  scan_for LocalAbort = scan_of (here_at s i t)
  scan_for (Receive m) = scan_of (here_at s i t)
  scan_for ExecuteRemote = scan_all s.count s.txns i (scan_of (here_at s i t))
  scan_for (Discard m) = scan_of (here_at s i t)

  abbrev own : Action → Turn
  own a = turn_by a (here_at s i t) (others s i) (scan_for a) i t

  done_by : (a : Action) → left (own a) ≡ effect a s i t
  unfolding scan_for effect commit_here scan scan_leaves posted
  done_by Create = left-quiet _ ∙ rw (places_same, txns_same)
  done_by (BeginOperation r w) = left-quiet _ ∙ rw places_same
  done_by EndOperation = left-quiet _ ∙ left_ended (at_home s i t)
  done_by BeginCommit = left_told Remote _ ∙ rw places_same
  done_by EndCommit = left_told Commit _ ∙ rw txns_same
  done_by LocalAbort = left-quiet _ ∙ rw txns_same
  done_by (Receive Remote) = left-quiet _ ∙ rw (rows_same, txns_same)
  done_by (Receive (Ready k)) = left-quiet _ ∙ rw rows_same
  done_by (Receive Commit) = left-quiet _ ∙ rw txns_same
  done_by (Receive Abort) = left-quiet _ ∙ rw txns_same
  done_by ExecuteRemote = rw txns_same
  done_by (Discard m) = left-quiet _ ∙ rw (rows_same, txns_same)

-- ---- the turn of an event

index_in : (k n : ℕ) → k < n → index_of k n ≡ k
index_in k n h = rw (lt-ltb k n h)

module _ (s : State) (e : Event) (fine : in_range s ≡ true) where
  abbrev told_at : ℕ → ℕ → Told
  told_at i t = told_of e s.count s.txns i t (here_at s i t)

  abbrev turn_at : ℕ → ℕ → Result Action ℕ
  turn_at i t = admitted_by e s.sites s.count (told_at i t) (here_at s i t) t

  -- what an event returns that leaves this
  abbrev left_by : ℕ → ℕ → Turn → Stepped
  left_by i t d = record { answer = 0; sent = d.sent; state = after_turn s i t d }

  -- .. whose action is admitted, or not
  abbrev pub returned : ℕ → ℕ → Result Action ℕ → Stepped
  returned i t (Ok a) = left_by i t (turn_by a (here_at s i t) (all_but s.sites i) (told_at i t).scan i t)
  returned i t (Err n) = refused n s

  module _ (known : no_action e ≡ false) where
    -- at the site and of the transaction of a well placed event
    module _ (well : misplaced_in s e ≡ 0) where
      -- what it is told of a scan
      told_scan : (told_in s e).scan ≡ scan_for s e.site e.txn (action_of e)
      unfolding told_of scan_for action_of table_from
      told_scan =
          by_number e known (λ k. (told_in s (numbered e k)).scan) (λ k. scan_for s e.site e.txn (action_of (numbered e k)))
          (scan_of (here_at s e.site e.txn)) refl

      in_place : returned e.site e.txn (turn_at e.site e.txn) ≡ step s e
      in_place = rw (known, well) (go (same? (refusal_in s e) 0))
        where
          go : Same (refusal_in s e) 0
              → returned e.site e.txn
              (cond (refusal_in s e == 0) (Ok (action_of e)) (Err (refusal_in s e)))
              ≡ step s e
          go (same z) =
              rw (eq-eqb _ _ z, told_scan)
              (step-enabled s e fine known well z (left s e.site e.txn (own s e.site e.txn (action_of e)))
              (done_by s e.site e.txn (action_of e)))
          go (other d) = rw (ne_eqb _ _ d) (step-not_enabled s e fine known well _ refl d)

    -- the number is the same where another transaction stands in for one that is not in the table
    same_number : (t : ℕ) → t ≡ index_of e.txn s.count
        → misplaced_by s.sites s.count (at_home s e.site t) e ≡ misplaced_in s e
    unfolding first_of
    same_number t h = go (test (nat_lt e.txn s.count))
      where
        go : Test (nat_lt e.txn s.count)
            → misplaced_by s.sites s.count (at_home s e.site t) e ≡ misplaced_in s e
        go (yes_so b) =
            ap (λ (u : ℕ). misplaced_by s.sites s.count (at_home s e.site u) e)
            (h ∙ index_in e.txn s.count (ltb-true e.txn s.count b))
        go (not_so b) = rw b

    known_turned : (i t : ℕ) → i ≡ index_of e.site s.sites → t ≡ index_of e.txn s.count
        → returned i t (turn_at i t) ≡ step s e
    known_turned i t hi ht = go (same? (misplaced_by s.sites s.count (at_home s e.site t) e) 0)
      where
        go : Same (misplaced_by s.sites s.count (at_home s e.site t) e) 0 → returned i t (turn_at i t) ≡ step s e
        go (same z) =
            let well : misplaced_in s e ≡ 0 = sym (same_number t ht) ∙ z in
            let p = placed s.sites s.count (at_home s e.site e.txn) e well in
            let a : i ≡ e.site = hi ∙ index_in e.site s.sites p.0 in
            let b : t ≡ e.txn = ht ∙ index_in e.txn s.count p.1 in
            subst (λ (j : ℕ). returned j t (turn_at j t) ≡ step s e) (sym a)
            (subst (λ (u : ℕ). returned e.site u (turn_at e.site u) ≡ step s e) (sym b) (in_place well))
        go (other d) = rw (known, ne_eqb _ _ d) (step_misplaced s e fine known _ (same_number t ht) d)

  turned_at : (i t : ℕ) → i ≡ index_of e.site s.sites → t ≡ index_of e.txn s.count
      → returned i t (turn_at i t) ≡ step s e
  turned_at i t hi ht = go (test (no_action e))
    where
      go : Test (no_action e) → returned i t (turn_at i t) ≡ step s e
      go (yes_so h) = rw h (step_unknown s e fine h)
      go (not_so h) = known_turned h i t hi ht

  -- what the code gives for the event's action is what the event returns
  pub turn_taken : (i t : ℕ) → i ≡ index_of e.site s.sites → t ≡ index_of e.txn s.count
      → (w : Told) → w ≡ told_of e s.count s.txns i t (here_at s i t)
      → (r : Result Action Refusal) → admitted r ≡ admitted_by e s.sites s.count w (here_at s i t) t
      → returned i t (admitted r) ≡ step s e
  turn_taken i t hi ht w told r h = rw (h, told) (turned_at i t hi ht)
