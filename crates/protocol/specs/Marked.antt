-- 01, "Marked cases, both sides of each edge", and the sample of "Scenario and report". The checker computes them.
use Rattle.std.specs.Prelude.{ℕ, List, [], ◌∷◌, ◌++◌, map, ◌≡◌, refl}
use Rattle.protocol.specs.Cases.{Case, Outcome, outcome_of, lying, entry, create, begin_operation, end_operation, begin_commit, end_commit, receive_remote, receive_ready, receive_commit, receive_abort, execute_remote, discard}
use Rattle.protocol.specs.declared.Message.TheVariants.{Remote, Ready, Commit, Abort}
use Rattle.protocol.specs.declared.Entry.{Entry}
use Rattle.protocol.specs.declared.Event.{Event}

-- "Three sites; t0 home 0 priority 5; t1 home 1 priority 9; t2 home 2 priority 1."
abbrev pub three : List Entry
three = entry 0 5 ∷ entry 1 9 ∷ entry 2 1 ∷ []

abbrev pub of_three : List Event → Outcome → Case
of_three es o = record { sites = 3; entries = three; events = es; outcome = o }

-- "All write object 0 unless said": t begins and ends its write of object 0 at its home
abbrev pub writes : ℕ → List Event
writes t = create t t ∷ begin_operation t t 0 1 ∷ end_operation t t ∷ []

-- .. and asks to commit
abbrev pub asks : ℕ → List Event
asks t = create t t ∷ begin_operation t t 0 1 ∷ end_operation t t ∷ begin_commit t t ∷ []

-- t reaches site i and is scanned there
abbrev pub reaches : ℕ → ℕ → List Event
reaches t i = receive_remote i t ∷ execute_remote i ∷ []

-- "Fresh rows: 1,0,0; 0,1,0; 0,0,1."
case1 : Case
case1 =
    of_three []
    (record {
      answers = [];
      sent = 0;
      statuses = (1 ∷ 0 ∷ 0 ∷ []) ∷ (0 ∷ 1 ∷ 0 ∷ []) ∷ (0 ∷ 0 ∷ 1 ∷ []) ∷ [];
      logs = [] ∷ [] ∷ [] ∷ [];
      queues = 0 ∷ 0 ∷ 0 ∷ [];
      untaken = [];
    })

-- "Create t0 twice at site 0: 0, then 7. At site 1: 6. Site 9 with transaction 40: 3."; and site 2 with transaction 40: 4
case2 : Case
case2 =
    of_three (create 0 0 ∷ create 0 0 ∷ create 1 0 ∷ create 9 40 ∷ create 2 40 ∷ [])
    (record {
      answers = 0 ∷ 7 ∷ 6 ∷ 3 ∷ 4 ∷ [];
      sent = 0;
      statuses = (2 ∷ 0 ∷ 0 ∷ []) ∷ (0 ∷ 1 ∷ 0 ∷ []) ∷ (0 ∷ 0 ∷ 1 ∷ []) ∷ [];
      logs = [] ∷ [] ∷ [] ∷ [];
      queues = 0 ∷ 0 ∷ 0 ∷ [];
      untaken = [];
    })

-- "One site: create, write, end, begin_commit, end_commit: all 0, no messages."
case3 : Case
case3 = record {
  sites = 1;
  entries = entry 0 5 ∷ [];
  events = asks 0 ++ (end_commit 0 0 ∷ []);
  outcome = record {
    answers = 0 ∷ 0 ∷ 0 ∷ 0 ∷ 0 ∷ [];
    sent = 0;
    statuses = (5 ∷ []) ∷ [];
    logs = (0 ∷ []) ∷ [];
    queues = 0 ∷ [];
    untaken = [];
  };
}

-- "Two transactions of one home": both operations begun, the first ended and then the second
abbrev pair : ℕ → ℕ → ℕ → ℕ → Outcome → Case
pair firstReads firstWrites secondReads secondWrites o = record {
  sites = 1;
  entries = entry 0 5 ∷ entry 0 9 ∷ [];
  events =
      create 0 0
      ∷ begin_operation 0 0 firstReads firstWrites
      ∷ end_operation 0 0
      ∷ create 0 1
      ∷ begin_operation 0 1 secondReads secondWrites
      ∷ end_operation 0 1
      ∷ [];
  outcome = o;
}

-- "the first ended a write of object 0; the second's read of it ends with 10"
case4 : Case
case4 =
    pair 0 1 1 0
    (record {
      answers = 0 ∷ 0 ∷ 0 ∷ 0 ∷ 0 ∷ 10 ∷ [];
      sent = 0;
      statuses = (2 ∷ 3 ∷ []) ∷ [];
      logs = [] ∷ [];
      queues = 0 ∷ [];
      untaken = [];
    })

-- "Two reads: both 0."
case4_reads : Case
case4_reads =
    pair 1 0 1 0
    (record {
      answers = 0 ∷ 0 ∷ 0 ∷ 0 ∷ 0 ∷ 0 ∷ [];
      sent = 0;
      statuses = (2 ∷ 2 ∷ []) ∷ [];
      logs = [] ∷ [];
      queues = 0 ∷ [];
      untaken = [];
    })

-- "t1 scanned at site 0, t0 in pre_commit: t0 aborted, abort sent to 1 and 2, ready to 1."
case5 : Case
case5 =
    of_three (asks 0 ++ (asks 1 ++ reaches 1 0))
    (record {
      answers = 0 ∷ 0 ∷ 0 ∷ 0 ∷ 0 ∷ 0 ∷ 0 ∷ 0 ∷ 0 ∷ 0 ∷ [];
      sent = 7;
      statuses = (6 ∷ 3 ∷ 0 ∷ []) ∷ (0 ∷ 4 ∷ 0 ∷ []) ∷ (0 ∷ 0 ∷ 1 ∷ []) ∷ [];
      logs = [] ∷ [] ∷ [] ∷ [];
      queues = 0 ∷ 0 ∷ 0 ∷ [];
      untaken =
          lying 1 Remote 0
          ∷ lying 1 Abort 0
          ∷ lying 1 (Ready 0) 1
          ∷ lying 2 Remote 0
          ∷ lying 2 Abort 0
          ∷ lying 2 Remote 1
          ∷ [];
    })

-- "t0 scanned at site 1, t1 in pre_commit: waits; a second scan answers 11."
case6 : Case
case6 =
    of_three (asks 0 ++ (asks 1 ++ (reaches 0 1 ++ (execute_remote 1 ∷ []))))
    (record {
      answers = 0 ∷ 0 ∷ 0 ∷ 0 ∷ 0 ∷ 0 ∷ 0 ∷ 0 ∷ 0 ∷ 0 ∷ 11 ∷ [];
      sent = 4;
      statuses = (4 ∷ 0 ∷ 0 ∷ []) ∷ (0 ∷ 4 ∷ 0 ∷ []) ∷ (0 ∷ 0 ∷ 1 ∷ []) ∷ [];
      logs = [] ∷ [] ∷ [] ∷ [];
      queues = 0 ∷ 1 ∷ 0 ∷ [];
      untaken = lying 0 Remote 1 ∷ lying 2 Remote 0 ∷ lying 2 Remote 1 ∷ [];
    })

-- "As 6 but t1 active after its write: t1 aborted, no abort message."
unfoldable pub case7 : Case
case7 =
    of_three (asks 0 ++ (writes 1 ++ reaches 0 1))
    (record {
      answers = 0 ∷ 0 ∷ 0 ∷ 0 ∷ 0 ∷ 0 ∷ 0 ∷ 0 ∷ 0 ∷ [];
      sent = 3;
      statuses = (4 ∷ 0 ∷ 0 ∷ []) ∷ (3 ∷ 6 ∷ 0 ∷ []) ∷ (0 ∷ 0 ∷ 1 ∷ []) ∷ [];
      logs = [] ∷ [] ∷ [] ∷ [];
      queues = 0 ∷ 0 ∷ 0 ∷ [];
      untaken = lying 0 (Ready 1) 0 ∷ lying 2 Remote 0 ∷ [];
    })

-- "t1 scanned at site 2 while t0 runs there: waits, though higher": t0 has just been submitted
unfoldable pub case8 : Case
case8 =
    of_three (asks 0 ++ (reaches 0 2 ++ (asks 1 ++ reaches 1 2)))
    (record {
      answers = 0 ∷ 0 ∷ 0 ∷ 0 ∷ 0 ∷ 0 ∷ 0 ∷ 0 ∷ 0 ∷ 0 ∷ 0 ∷ 0 ∷ [];
      sent = 5;
      statuses = (4 ∷ 0 ∷ 0 ∷ []) ∷ (0 ∷ 4 ∷ 0 ∷ []) ∷ (3 ∷ 0 ∷ 1 ∷ []) ∷ [];
      logs = [] ∷ [] ∷ [] ∷ [];
      queues = 0 ∷ 0 ∷ 2 ∷ [];
      untaken = lying 0 (Ready 2) 0 ∷ lying 0 Remote 1 ∷ lying 1 Remote 0 ∷ [];
    })

-- .. or its operation has ended there
case8-ended : Case
case8-ended =
    of_three (asks 0 ++ (reaches 0 2 ++ (end_operation 2 0 ∷ asks 1 ++ reaches 1 2)))
    (record {
      answers = 0 ∷ 0 ∷ 0 ∷ 0 ∷ 0 ∷ 0 ∷ 0 ∷ 0 ∷ 0 ∷ 0 ∷ 0 ∷ 0 ∷ 0 ∷ [];
      sent = 5;
      statuses = (4 ∷ 0 ∷ 0 ∷ []) ∷ (0 ∷ 4 ∷ 0 ∷ []) ∷ (4 ∷ 0 ∷ 1 ∷ []) ∷ [];
      logs = [] ∷ [] ∷ [] ∷ [];
      queues = 0 ∷ 0 ∷ 2 ∷ [];
      untaken = lying 0 (Ready 2) 0 ∷ lying 0 Remote 1 ∷ lying 1 Remote 0 ∷ [];
    })

-- "Abort of t0 reaches site 1 before its remote: aborted; receive_remote 7; discard kind 1 gives 0."; a second discard
-- finds no message: 9
case9 : Case
case9 =
    of_three
    (asks 0 ++ (asks 1 ++ (reaches 1 0 ++ (receive_abort 1 0 ∷ receive_remote 1 0 ∷ discard 1 0 1 0 ∷ discard 1 0 1 0 ∷ []))))
    (record {
      answers = 0 ∷ 0 ∷ 0 ∷ 0 ∷ 0 ∷ 0 ∷ 0 ∷ 0 ∷ 0 ∷ 0 ∷ 0 ∷ 7 ∷ 0 ∷ 9 ∷ [];
      sent = 7;
      statuses = (6 ∷ 3 ∷ 0 ∷ []) ∷ (6 ∷ 4 ∷ 0 ∷ []) ∷ (0 ∷ 0 ∷ 1 ∷ []) ∷ [];
      logs = [] ∷ [] ∷ [] ∷ [];
      queues = 0 ∷ 0 ∷ 0 ∷ [];
      untaken = lying 1 (Ready 0) 1 ∷ lying 2 Remote 0 ∷ lying 2 Abort 0 ∷ lying 2 Remote 1 ∷ [];
    })

-- "End_commit with one ready missing: 8."; with none missing: 0
case10 : Case
case10 =
    of_three
    (asks 0
    ++ (reaches 0 1
    ++ (receive_ready 0 0 1 ∷ end_commit 0 0 ∷ reaches 0 2 ++ (receive_ready 0 0 2 ∷ end_commit 0 0 ∷ []))))
    (record {
      answers = 0 ∷ 0 ∷ 0 ∷ 0 ∷ 0 ∷ 0 ∷ 0 ∷ 8 ∷ 0 ∷ 0 ∷ 0 ∷ 0 ∷ [];
      sent = 6;
      statuses = (5 ∷ 0 ∷ 0 ∷ []) ∷ (3 ∷ 1 ∷ 0 ∷ []) ∷ (3 ∷ 0 ∷ 1 ∷ []) ∷ [];
      logs = (0 ∷ []) ∷ [] ∷ [] ∷ [];
      queues = 0 ∷ 0 ∷ 0 ∷ [];
      untaken = lying 1 Commit 0 ∷ lying 2 Commit 0 ∷ [];
    })

pub marked_cases : List Case
unfolding case1 case2 case3 case4 case4_reads case5 case6 case7 case8 case8-ended case9 case10
marked_cases =
    case1
    ∷ case2
    ∷ case3
    ∷ case4
    ∷ case4_reads
    ∷ case5
    ∷ case6
    ∷ case7
    ∷ case8
    ∷ case8-ended
    ∷ case9
    ∷ case10
    ∷ []

-- each marked case comes out as it must
pub marked : map outcome_of marked_cases ≡ map (λ (c : Case). c.outcome) marked_cases
unfolding marked_cases outcome_of
marked = refl

-- "Two sites, one transaction (home 0, priority 5), events ..": 0 eight times, then 7, 0, 0; status 5 and log 0 at both
-- sites; 3 messages
pub sample : Case
sample = record {
  sites = 2;
  entries = entry 0 5 ∷ [];
  events =
      create 0 0
      ∷ begin_operation 0 0 0 1
      ∷ end_operation 0 0
      ∷ begin_commit 0 0
      ∷ receive_remote 1 0
      ∷ execute_remote 1
      ∷ receive_ready 0 0 1
      ∷ end_commit 0 0
      ∷ receive_commit 1 0
      ∷ end_operation 1 0
      ∷ receive_commit 1 0
      ∷ [];
  outcome = record {
    answers = 0 ∷ 0 ∷ 0 ∷ 0 ∷ 0 ∷ 0 ∷ 0 ∷ 0 ∷ 7 ∷ 0 ∷ 0 ∷ [];
    sent = 3;
    statuses = (5 ∷ []) ∷ (5 ∷ []) ∷ [];
    logs = (0 ∷ []) ∷ (0 ∷ []) ∷ [];
    queues = 0 ∷ 0 ∷ [];
    untaken = [];
  };
}

pub sampled : outcome_of sample ≡ sample.outcome
unfolding sample outcome_of
sampled = refl
