-- The words that the proofs are written in: the library's, the protocol's and its laws'.
pub use Rattle.std.proofs.Common.{sym, ap, ◌∙◌, subst, ap₂, ⊎_elim, inl, inr, append-nil, append_assoc, add-zero, add_assoc, zero-add, arith, length-set, get_or-set_same, get_or-set_other, eqb-true, ltb-true, ltb-false, lt-ltb, eq-eqb, ne_eqb, le-ltb}
pub use Rattle.std.proofs.Math.Path.{fun_ext}
pub use Rattle.std.proofs.Math.Bool.{and-false, and_comm, and-true, or-false, and-or_distrib_right, or-true}
pub use Rattle.std.proofs.lemmas.Bool.{false≢true, eqb-false, not-true}
pub use mathlib.Core.List.Memᴰ.{append_cases as Memᴰ-append_cases}
pub use mathlib.Core.List.Memᴰ.{append_left as Memᴰ-append_left}
pub use mathlib.Core.List.Memᴰ.{append_right as Memᴰ-append_right}
pub use mathlib.Core.List.Memᴰ.{eq_of_singleton as Memᴰ-eq_of_singleton}
pub use mathlib.Core.List.Memᴰ.{head as Memᴰ-head}
pub use mathlib.Core.List.Memᴰ.{not-nil as Memᴰ-not_nil}
pub use mathlib.Core.List.Memᴰ.{tail as Memᴰ-tail}
pub use Rattle.std.proofs.lemmas.List.{length-replicate, get_or-replicate}
pub use Rattle.std.proofs.Math.ListN.{get_or-eq_default as get_or-eq_default}
pub use Rattle.sets.specs.Set.{has, none, is_empty, with, without, union, minus, size, width}
pub use Rattle.sets.specs.Laws.{has-union, has-minus, empty_none, has-none, size_none, has-those, has-with, has-with_other, has-without, has-without_same, ext}
pub use Rattle.protocol.specs.Lists.{each, store_at, table}
pub use Rattle.protocol.specs.State.{max_sites, max_txns, objects, idle, start, active, blocked, precommit, committed, aborted, status_in, ready_in, version_in, row_at, place_at, txn_at, with_status, with_place, with_txn, with_queue, with_channel, with_pending, with_missing, empty_place, empty_txn, no_row, no_place, no_txn, log_of, at_home, with_row, row_with, with_places, status_at}
pub use Rattle.protocol.specs.Database.{appended, clashes_with, ended, conflicts_with}
pub use Rattle.protocol.specs.Channel.{received, others, multicast, ready_home}
pub use Rattle.protocol.specs.Figure.{is, clash_at, only, away}
pub use Rattle.protocol.specs.Setup.{entry_at, setup_answer, setup}
pub use Rattle.protocol.specs.Scan.{scan_from, must_wait}
pub use Rattle.protocol.specs.Answer.{action_of, answer, step}
pub use Rattle.protocol.specs.Run.{state_after, sent_by, run_answer, run}
pub use Rattle.protocol.specs.declared.Message.{Message}
pub use Rattle.protocol.specs.declared.Message.TheVariants.{Remote, Ready, Commit, Abort}
pub use Rattle.protocol.specs.declared.Place.{Place}
pub use Rattle.protocol.specs.declared.Txn.{Txn}
pub use Rattle.protocol.specs.declared.State.{State}
pub use Rattle.protocol.specs.declared.Entry.{Entry}
pub use Rattle.protocol.specs.declared.Action.{Action}
pub use Rattle.protocol.specs.declared.Action.TheVariants.{Create, BeginOperation, EndOperation, BeginCommit, EndCommit, LocalAbort, Receive, ExecuteRemote, Discard}
pub use Rattle.protocol.specs.declared.Event.{Event}
pub use Rattle.protocol.specs.declared.Scan.{Scan}
pub use Rattle.protocol.specs.declared.Row.{Row}
pub use Rattle.laws.specs.Tests.{either, either_left, either_right, both_left, Test, yes_so, not_so, test, both_right}
pub use Rattle.laws.specs.Lists.{some_none, length-each, length-table, get_or-table, get_or-each}
pub use Rattle.laws.specs.Read.{some_read, cond_keeps, set_at, set_by}
pub use Rattle.laws.specs.Members.{has_dropped, has_added, has-only, has-others, total_size, size-only, has-joined}
pub use Rattle.laws.specs.Shape.{PlaceShaped, Shaped, RowShaped}
pub use Rattle.laws.specs.State.{place_shaped, status_shaped, txn_shaped, site_shaped, delivered_shaped}
pub use Rattle.laws.specs.InRange.{sites_fit, count_fits, Below, range_out, below_none, below_with, in_without, in_none, entries_of}
pub use Rattle.laws.specs.Site.{not-queued, with-taken, with_commit, SiteKept, log_grown}
pub use Rattle.laws.specs.Held.{clash_reads, clash-writes, conflict_writes, conflict_executes}
pub use Rattle.laws.specs.Kept.{Fine, site_stands, txn_stands, home_fits}
pub use Rattle.laws.specs.Compare.{Cmp, same, other, cmp, eqb_same, eqb_other, clash, untrue}
pub use Rattle.laws.specs.Count.{total-zero, total_add, total_one, total_scaled, total, total_same, total_smaller}
pub use Rattle.laws.specs.Begun.{setup_ranged}
pub use Rattle.laws.specs.Keep.{put, keep, in_keep, keep_in, keep_ext, keep_yes, keep_no}
pub use Rattle.laws.specs.Actions.{others_below, effect_fine}
pub use Rattle.laws.specs.Scan.{scan_keeps, Lasts, scan_one_lem, scan_conflict, scan_ends, scan-parts, scan-asks}
pub use Rattle.laws.specs.Scanned.{scanned}
pub use Rattle.laws.specs.ScanKept.{Scanning, scanning, scanning_first}
pub use Rattle.laws.specs.Enabled.{eqb_sym, doable, step-done, step-refused, run-done}
