-- The protocol as the invariant sees it: a state as tables by site, transaction and object, and the moves that an action
-- is made of. Priorities occur nowhere.
use Rattle.std.specs.Prelude.{ℕ, ◌+◌, ◌<◌, ◌≡◌, Bool, true, false, cond, ◌&&◌, ◌||◌, not, ◌≢◌, List, [], ◌∷◌, ◌++◌, ◌==◌, nat_lt}
use Rattle.onecopy.specs.Words.{objects, idle, start, active, blocked, precommit, committed, aborted}
use Rattle.onecopy.specs.Tables.{upd, anew, mark, more}

-- by site and transaction: the messages on their way (a ready by the site that it comes from), the sites whose ready is
-- missing, the queues, and how many messages about a transaction went to a site or came from there
pub record Net : Type 0 where
  pub remote : ℕ → ℕ → Bool
  pub ready : ℕ → ℕ → Bool
  pub commit : ℕ → ℕ → Bool
  pub abort : ℕ → ℕ → Bool
  pub missing : ℕ → ℕ → Bool
  pub queued : ℕ → ℕ → Bool
  pub spent : ℕ → ℕ → ℕ

-- by transaction and object: what it has read and written, and what it has noted, 0 for nothing and v + 1 for version v
pub record Sets : Type 0 where
  pub reads : ℕ → ℕ → Bool
  pub writes : ℕ → ℕ → Bool
  pub noted : ℕ → ℕ → ℕ

-- the logs and the versions by site; and L
pub record Logs : Type 0 where
  pub log : ℕ → List ℕ
  pub version : ℕ → ℕ → ℕ
  pub list : List ℕ

pub record View : Type 0 where
  pub sites : ℕ
  pub home : ℕ → ℕ
  pub status : ℕ → ℕ → ℕ
  pub net : Net
  pub sets : Sets
  pub logs : Logs

-- it executes: active, blocked or pre_commit
pub data Runs : ℕ → Type 0 where
  works : Runs active
  blocks : Runs blocked
  asks : Runs precommit

-- t, while it executes at site i, holds o there: "At home it then holds its read and write sets. Elsewhere it holds its
-- write set only"
abbrev pub holds : (ℕ → ℕ) → Sets → ℕ → ℕ → ℕ → Bool
holds home x i t o = x.writes t o || (home t == i && x.reads t o)

-- ---- parts anew

abbrev pub with_statuses : View → (ℕ → ℕ → ℕ) → Net → View
with_statuses s f m = record { sites = s.sites; home = s.home; status = f; net = m; sets = s.sets; logs = s.logs }

-- t takes the status w at site i
abbrev pub raised : View → ℕ → ℕ → ℕ → View
raised s i t w = with_statuses s (upd s.status i t w) s.net

-- the sites other than i
abbrev pub besides : View → ℕ → ℕ → Bool
besides s i j = nat_lt j s.sites && not (j == i)

-- a net from its parts, in the order of the fields
abbrev pub net_of : (ℕ → ℕ → Bool) → (ℕ → ℕ → Bool) → (ℕ → ℕ → Bool) → (ℕ → ℕ → Bool) → (ℕ → ℕ → Bool) → (ℕ → ℕ → Bool)
    → (ℕ → ℕ → ℕ) → Net
net_of a r c x m q k = record { remote = a; ready = r; commit = c; abort = x; missing = m; queued = q; spent = k }

module _ (m : Net) where
  -- t asks to commit, and remote goes to the sites that g names
  abbrev pub asking : ℕ → (ℕ → Bool) → Net
  asking t g = net_of (mark m.remote (λ j u. u == t && g j)) m.ready m.commit m.abort
      (λ j u. cond (u == t) (g j) (m.missing j u)) m.queued (more m.spent (λ j u. u == t && g j))

  -- commit about t goes to the sites that g names
  abbrev pub telling : ℕ → (ℕ → Bool) → Net
  telling t g =
      net_of m.remote m.ready (mark m.commit (λ j u. u == t && g j)) m.abort m.missing m.queued
      (more m.spent (λ j u. u == t && g j))

  -- abort goes where g says, by site and transaction
  abbrev pub quitting : (ℕ → ℕ → Bool) → Net
  quitting g =
      net_of m.remote m.ready m.commit (mark m.abort g) m.missing m.queued (more m.spent g)

  -- t is submitted at site i, and its ready is on the way
  abbrev pub submitting : ℕ → ℕ → Net
  submitting i t =
      net_of m.remote (upd m.ready i t true) m.commit m.abort m.missing (upd m.queued i t false)
      (more m.spent (λ j u. u == t && j == i))

  -- other messages remote and other queues; ready and missing sets; commit; abort and queues
  abbrev pub remote_queued : (ℕ → ℕ → Bool) → (ℕ → ℕ → Bool) → Net
  remote_queued f g = net_of f m.ready m.commit m.abort m.missing g m.spent

  abbrev pub ready_missing : (ℕ → ℕ → Bool) → (ℕ → ℕ → Bool) → Net
  ready_missing f g = net_of m.remote f m.commit m.abort g m.queued m.spent

  abbrev pub with_commits : (ℕ → ℕ → Bool) → Net
  with_commits f = net_of m.remote m.ready f m.abort m.missing m.queued m.spent

  abbrev pub abort_queued : (ℕ → ℕ → Bool) → (ℕ → ℕ → Bool) → Net
  abort_queued f g = net_of m.remote m.ready m.commit f m.missing g m.spent

-- t commits at site i: the log and the versions there
abbrev pub appended_at : (ℕ → List ℕ) → ℕ → ℕ → ℕ → List ℕ
appended_at f i t j = cond (j == i) (f j ++ (t ∷ [])) (f j)

abbrev pub stored_at : (ℕ → ℕ → ℕ) → (ℕ → ℕ → Bool) → ℕ → ℕ → ℕ → ℕ → ℕ
stored_at f writes i t j o = cond (j == i && (nat_lt o objects && writes t o)) (t + 1) (f j o)

abbrev pub commits : View → ℕ → ℕ → Net → List ℕ → View
commits s i t m l = record {
  sites = s.sites;
  home = s.home;
  status = upd s.status i t committed;
  net = m;
  sets = s.sets;
  logs = record {
    log = appended_at s.logs.log i t;
    version = stored_at s.logs.version s.sets.writes i t;
    list = l;
  };
}

-- t ends an operation at home, where the reads p and the writes q are pending: which reads are noted, and what then is
abbrev pub notes : View → ℕ → (ℕ → Bool) → ℕ → Bool
notes s t p o = nat_lt o objects && (p o && not (s.sets.reads t o || s.sets.writes t o))

abbrev pub ends_operation : View → ℕ → (ℕ → Bool) → (ℕ → Bool) → View
ends_operation s t p q = record {
  sites = s.sites;
  home = s.home;
  status = upd s.status (s.home t) t active;
  net = s.net;
  sets = record {
    reads = anew s.sets.reads t (λ o. s.sets.reads t o || p o);
    writes = anew s.sets.writes t (λ o. s.sets.writes t o || q o);
    noted = anew s.sets.noted t (λ o. cond (notes s t p o) (s.logs.version (s.home t) o + 1) (s.sets.noted t o));
  };
  logs = s.logs;
}

-- those of the set m, whose home is i, are aborted there; each that was in pre_commit sends abort to all other sites
abbrev pub quits : View → ℕ → (ℕ → Bool) → View
quits s i m = with_statuses s (λ j u. cond (m u && j == i) aborted (s.status j u))
    (quitting s.net (λ j u. m u && (s.status i u == precommit && besides s i j)))

-- t is submitted at site i
abbrev pub submits : View → ℕ → ℕ → View
submits s i t = with_statuses s (upd s.status i t blocked) (submitting s.net i t)

-- ---- the moves: an action is one of them, or several, as a scan, or none

pub data Move (s : View) : View → Type 0 where
  create : (t : ℕ) → s.status (s.home t) t ≡ start
      → Move s (raised s (s.home t) t active)
  begin_operation : (t : ℕ) → s.status (s.home t) t ≡ active
      → Move s (raised s (s.home t) t blocked)
  end_operation : (t : ℕ) (p q : ℕ → Bool) → s.status (s.home t) t ≡ blocked
      → ((u o : ℕ) → t ≢ u → Runs (s.status (s.home t) u) → p o ≡ true → s.sets.writes u o ≡ false)
      → ((u o : ℕ) → t ≢ u → Runs (s.status (s.home t) u) → q o ≡ true
      → holds s.home s.sets (s.home t) u o ≡ false) → Move s (ends_operation s t p q)
  end_away : (i t : ℕ) → i ≢ s.home t → s.status i t ≡ blocked
      → Move s (raised s i t precommit)
  begin_commit : (t : ℕ) → s.status (s.home t) t ≡ active
      → Move s (with_statuses s (upd s.status (s.home t) t precommit) (asking s.net t (besides s (s.home t))))
  end_commit : (t : ℕ) → s.home t < s.sites → s.status (s.home t) t ≡ precommit
      → ((j : ℕ) → s.net.missing j t ≡ false)
      → Move s (commits s (s.home t) t (telling s.net t (besides s (s.home t))) (s.logs.list ++ (t ∷ [])))
  quit : (i : ℕ) (m : ℕ → Bool) → ((u : ℕ) → m u ≡ true → (s.home u ≡ i) × Runs (s.status i u)) → Move s (quits s i m)
  receive_remote : (i t : ℕ) → s.status i t ≡ idle → s.net.remote i t ≡ true → Move s (with_statuses s s.status
      (remote_queued s.net (upd s.net.remote i t false) (upd s.net.queued i t true)))
  receive_ready : (i t : ℕ) → s.status (s.home t) t ≡ precommit → s.net.ready i t ≡ true
      → Move s (with_statuses s s.status
      (ready_missing s.net (upd s.net.ready i t false) (upd s.net.missing i t false)))
  submit : (i t : ℕ) → i ≢ s.home t → s.status i t ≡ idle → s.net.queued i t ≡ true
      → ((u o : ℕ) → t ≢ u → Runs (s.status i u) → s.sets.writes t o ≡ true
      → holds s.home s.sets i u o ≡ false) → Move s (submits s i t)
  receive_commit : (i t : ℕ) → i < s.sites → i ≢ s.home t → s.status i t ≡ precommit → s.net.commit i t ≡ true
      → Move s (commits s i t (with_commits s.net (upd s.net.commit i t false)) s.logs.list)
  receive_abort : (i t : ℕ) → i < s.sites → i ≢ s.home t → s.net.abort i t ≡ true
      → Move s (with_statuses s (upd s.status i t aborted)
      (abort_queued s.net (upd s.net.abort i t false) (upd s.net.queued i t false)))
  discard_remote : (i t : ℕ) → s.status i t ≡ aborted
      → Move s (with_statuses s s.status (remote_queued s.net (upd s.net.remote i t false) s.net.queued))
  discard_ready : (i t : ℕ) → s.status (s.home t) t ≡ aborted
      → Move s (with_statuses s s.status (ready_missing s.net (upd s.net.ready i t false) s.net.missing))
