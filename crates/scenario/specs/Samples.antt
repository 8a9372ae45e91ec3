-- 01, "Scenario and report": the sample, and texts damaged in each way, read and reported by the definitions. The checker
-- computes them.
use Rattle.std.specs.Prelude.{◌≡◌, ℕ, List, [], ◌∷◌, map, refl}
use Prim.Native.String.{String}
use Rattle.std.specs.Int.Count.{ones_in}
use Rattle.sets.specs.Set.{has, is_empty, with_in, union, minus, without, overlap, first_in, all_but_in, size_in, those}
use Rattle.protocol.specs.Lists.{each_from, table_from, all_below, some_below, all_of, times}
use Rattle.protocol.specs.State.{empty_state}
use Rattle.protocol.specs.Check.{first_of}
use Rattle.protocol.specs.Setup.{setup, setup_answer, setup_checks, sites_fine, count_fine, homes_fine, priorities_differ, fresh_state, fresh_row, fresh_txn, setup_of}
use Rattle.protocol.specs.Range.{within, table_fine, txn_fine, statuses_fine, channel_fine, versions_fine, queue_fine, log_fine, site_fine, in_range}
use Rattle.protocol.specs.Order.{outranks, higher_of, highest_below}
use Rattle.protocol.specs.Database.{executes, held_reads, held_writes, held, clashes_with, conflicts_with, clash, conflicts, noted, ended, woken, appended, stored, commit_here}
use Rattle.protocol.specs.Channel.{lies, taken, ready_with, put, delivered, homed_at}
use Rattle.protocol.specs.Scan.{makes_wait, must_wait, waits, asked, submits, scan_with, scan_one, scan_many, scan_leaves, scan}
use Rattle.protocol.specs.Figure.{effect}
use Rattle.protocol.specs.Answer.{message_of, action_of, no_action, no_site, no_transaction, ill_kind, ill_from, ill_reads, ill_writes, ill_transaction, ill_filled, home_met, wrong_home, wrong_status, wrong_missing, message_there, no_message, lock_clash, no_scan, checks_in_range, checks, answer, done, step}
use Rattle.protocol.specs.Run.{state_after, answers_of, sent_by, events_of}
use Rattle.text.specs.Written.{bytes}
use Rattle.text.specs.Decimal.{goes_on, number_of, digits_by, digits}
use Rattle.text.specs.Line.{parts, starts, value_of, numbers_in, fields_by, fields_of}
use Rattle.scenario.specs.Format.{begin, faulted, moved, sites_line, count_line, home_line, priority_line, events_line, event_line, event_of, next_by, kept, kept_all, homes_by, numbers_by, next_line, all_lines, read_into, whole, entries_in}
use Rattle.scenario.specs.Report.{line_of, others_of, commas_of, list_of, answer_lines, site_lines, run_lines, outcome_of, read_report, report_of}

-- a text, and the report that must come back
pub record Sample : Type 0 where
  pub text : String
  pub report : String

abbrev of : String → String → Sample
of t r = record { text = t; report = r }

pub samples : List Sample
samples =
    -- the sample of document 01
    of "sites=2\ntransactions=1\nmaster=0\npriority=5\nevents=11\nevent=1,0,0,0,0,0,0\nevent=2,0,0,0,0,0,1\nevent=3,0,0,0,0,0,0\nevent=4,0,0,0,0,0,0\nevent=7,1,0,0,0,0,0\nevent=11,1,0,0,0,0,0\nevent=8,0,0,0,1,0,0\nevent=5,0,0,0,0,0,0\nevent=9,1,0,0,0,0,0\nevent=3,1,0,0,0,0,0\nevent=9,1,0,0,0,0,0\n"
    "answer=0\nanswer=0\nanswer=0\nanswer=0\nanswer=0\nanswer=0\nanswer=0\nanswer=0\nanswer=7\nanswer=0\nanswer=0\nstatus=5\nlog=0\nstatus=5\nlog=0\nmessages=3\n"
    -- no text at all: line 1 is absent
    ∷ of ""
    "fault=1\n"
    -- a leading zero
    ∷ of "sites=02\ntransactions=1\n"
    "fault=1\n"
    -- a sign
    ∷ of "sites=+2\n"
    "fault=1\n"
    -- a space
    ∷ of "sites= 2\n"
    "fault=1\n"
    -- another key
    ∷ of "sites=2\ntransaction=1\n"
    "fault=2\n"
    -- a number that does not fit 32 bits
    ∷ of "sites=2\ntransactions=1\nmaster=0\npriority=4294967296\n"
    "fault=4\n"
    -- the largest number that fits
    ∷ of "sites=2\ntransactions=1\nmaster=0\npriority=4294967295\nevents=0\n"
    "status=1\nlog=\nstatus=0\nlog=\nmessages=0\n"
    -- a line that is absent
    ∷ of "sites=2\ntransactions=1\nmaster=0\npriority=5\n"
    "fault=5\n"
    -- a last line without its line feed
    ∷ of "sites=2\ntransactions=1\nmaster=0\npriority=5\nevents=0"
    "fault=5\n"
    -- something after the last line
    ∷ of "sites=2\ntransactions=1\nmaster=0\npriority=5\nevents=0\n\n"
    "fault=6\n"
    -- a carriage return
    ∷ of "sites=2\ntransactions=1\nmaster=0\npriority=5\nevents=0\r\n"
    "fault=5\n"
    -- six fields
    ∷ of "sites=2\ntransactions=1\nmaster=0\npriority=5\nevents=1\nevent=1,0,0,0,0,0\n"
    "fault=6\n"
    -- eight fields
    ∷ of "sites=2\ntransactions=1\nmaster=0\npriority=5\nevents=1\nevent=1,0,0,0,0,0,0,0\n"
    "fault=6\n"
    -- too few event lines
    ∷ of "sites=2\ntransactions=1\nmaster=0\npriority=5\nevents=2\nevent=1,0,0,0,0,0,0\n"
    "fault=7\n"
    -- a form fault before a refused setup
    ∷ of "sites=9\ntransactions=1\nmaster=0\npriority=5\nevents=0\nx\n"
    "fault=6\n"
    -- too many sites
    ∷ of "sites=9\ntransactions=1\nmaster=0\npriority=5\nevents=0\n"
    "setup=21\n"
    -- no transactions
    ∷ of "sites=2\ntransactions=0\nevents=0\n"
    "setup=22\n"
    -- a home that is no site
    ∷ of "sites=2\ntransactions=1\nmaster=2\npriority=5\nevents=0\n"
    "setup=23\n"
    -- two equal priorities
    ∷ of "sites=2\ntransactions=2\nmaster=0\npriority=5\nmaster=1\npriority=5\nevents=0\n"
    "setup=25\n"
    ∷ []

-- what the definitions print, all of which it opens
pub printed : Sample → List ℕ
unfolding bytes ones_in has is_empty with_in union minus without overlap first_in all_but_in size_in those each_from
    table_from all_below some_below all_of times empty_state first_of setup setup_answer setup_checks sites_fine count_fine
    homes_fine priorities_differ fresh_state fresh_row fresh_txn within table_fine txn_fine statuses_fine channel_fine
    versions_fine queue_fine log_fine site_fine in_range outranks higher_of highest_below executes held_reads held_writes
    held clashes_with conflicts_with clash conflicts noted ended woken appended stored commit_here lies taken
    ready_with put delivered homed_at makes_wait must_wait waits asked submits scan_with scan_one scan_many scan_leaves
    scan effect message_of action_of no_action no_site no_transaction ill_kind ill_from ill_reads ill_writes ill_transaction
    ill_filled home_met wrong_home wrong_status wrong_missing message_there no_message lock_clash no_scan checks_in_range
    checks answer done step state_after answers_of sent_by setup_of events_of goes_on number_of digits_by digits parts
    starts value_of numbers_in fields_by fields_of begin faulted moved sites_line count_line home_line
    priority_line events_line event_line event_of next_by kept kept_all homes_by numbers_by next_line all_lines read_into whole entries_in line_of others_of commas_of list_of answer_lines site_lines run_lines
    outcome_of read_report report_of
printed s = report_of (bytes s.text)

pub expected : Sample → List ℕ
unfolding bytes
expected s = bytes s.report

-- each comes back as it must
pub sampled : map printed samples ≡ map expected samples
unfolding samples printed expected
sampled = refl
