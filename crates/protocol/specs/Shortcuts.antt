-- 01, "Shortcuts that break the rule": for each a run that comes out otherwise under the shortcut. The first two are
-- marked cases.
use Rattle.std.specs.Prelude.{List, [], ◌∷◌, ◌++◌, map, ◌≡◌, refl}
use Rattle.protocol.specs.Cases.{Case, outcome_of, lying, create, begin_operation, end_operation, begin_commit, receive_remote, execute_remote}
use Rattle.protocol.specs.Marked.{of_three, writes, asks, reaches, case7, case8}
use Rattle.protocol.specs.declared.Message.TheVariants.{Remote, Ready}

-- "Holding remote writes only from end_operation, so that a local write slips between": t0 has been submitted at site 1,
-- and t1's write there must not end
held_from_scan : Case
held_from_scan =
    of_three (asks 0 ++ (reaches 0 1 ++ writes 1))
    (record {
      answers = 0 ∷ 0 ∷ 0 ∷ 0 ∷ 0 ∷ 0 ∷ 0 ∷ 0 ∷ 10 ∷ [];
      sent = 3;
      statuses = (4 ∷ 0 ∷ 0 ∷ []) ∷ (3 ∷ 3 ∷ 0 ∷ []) ∷ (0 ∷ 0 ∷ 1 ∷ []) ∷ [];
      logs = [] ∷ [] ∷ [] ∷ [];
      queues = 0 ∷ 0 ∷ 0 ∷ [];
      untaken = lying 0 (Ready 1) 0 ∷ lying 2 Remote 0 ∷ [];
    })

-- "Counting reads as held away from home": t0 has read object 1 at home and runs at site 1, where t1 may write object 1
reads_at_home : Case
reads_at_home =
    of_three
    (create 0 0
    ∷ begin_operation 0 0 2 1
    ∷ end_operation 0 0
    ∷ begin_commit 0 0
    ∷ reaches 0 1 ++ (create 1 1 ∷ begin_operation 1 1 0 2 ∷ end_operation 1 1 ∷ []))
    (record {
      answers = 0 ∷ 0 ∷ 0 ∷ 0 ∷ 0 ∷ 0 ∷ 0 ∷ 0 ∷ 0 ∷ [];
      sent = 3;
      statuses = (4 ∷ 0 ∷ 0 ∷ []) ∷ (3 ∷ 2 ∷ 0 ∷ []) ∷ (0 ∷ 0 ∷ 1 ∷ []) ∷ [];
      logs = [] ∷ [] ∷ [] ∷ [];
      queues = 0 ∷ 0 ∷ 0 ∷ [];
      untaken = lying 0 (Ready 1) 0 ∷ lying 2 Remote 0 ∷ [];
    })

-- "Scanning in arrival order": t0 arrives at site 2 before t1, and t1, which is higher, is submitted
by_priority : Case
by_priority =
    of_three (asks 0 ++ (asks 1 ++ (receive_remote 2 0 ∷ receive_remote 2 1 ∷ execute_remote 2 ∷ [])))
    (record {
      answers = 0 ∷ 0 ∷ 0 ∷ 0 ∷ 0 ∷ 0 ∷ 0 ∷ 0 ∷ 0 ∷ 0 ∷ 0 ∷ [];
      sent = 5;
      statuses = (4 ∷ 0 ∷ 0 ∷ []) ∷ (0 ∷ 4 ∷ 0 ∷ []) ∷ (0 ∷ 3 ∷ 1 ∷ []) ∷ [];
      logs = [] ∷ [] ∷ [] ∷ [];
      queues = 0 ∷ 0 ∷ 1 ∷ [];
      untaken = lying 0 Remote 1 ∷ lying 1 Remote 0 ∷ lying 1 (Ready 2) 1 ∷ [];
    })

-- "Letting a higher arriving priority abort a remote one that already runs (case 8)", "Sending abort for a local one
-- that never asked to commit (case 7)", and the three above
pub shortcut_cases : List Case
unfolding case7 case8 held_from_scan reads_at_home by_priority
shortcut_cases = case8 ∷ case7 ∷ held_from_scan ∷ reads_at_home ∷ by_priority ∷ []

pub uncut : map outcome_of shortcut_cases ≡ map (λ (c : Case). c.outcome) shortcut_cases
unfolding shortcut_cases outcome_of
uncut = refl
