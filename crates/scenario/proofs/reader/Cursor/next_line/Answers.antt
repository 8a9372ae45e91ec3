-- Each variant has the line and the keeping of the definition.
use Rattle.std.proofs.Common.{◌+◌, ◌*◌, refl, ◌∙◌, add-zero}
use Rattle.scenario.proofs.Laws.{line_turns, any_turns, fault_faulted}
use Rattle.scenario.specs.Format.{sites_line, count_line, home_line, priority_line, events_line, event_line, event_of, next_by, kept, kept_all, homes_by, numbers_by}
use Rattle.scenario.specs.declared.Want.TheVariants.{Sites, Count, Home, Priority, Events, Event, Nothing, Fault}
use Rattle.text.specs.Line.{value_of}
use Rattle.text.specs.Written.{bytes}
use Rattle.scenario.proofs.reader.Cursor.next_line.Goals as goal

pub returns-in-Sites : goal.returns-in-Sites
unfolding next_by homes_by numbers_by bytes sites_line
returns-in-Sites c =
    line_turns _ _ _ _ _ _ _ _ _ Sites (value_of (bytes "sites=")) _ (sites_line c.args.self.now.m) (λ n. c.args.homes.now) (λ n. c.args.numbers.now)
    c.in-Sites.is (λ l. (refl, refl, refl)) (refl, refl, refl) c.value_of-line.ensures
    (c.with.ensures.0, c.with.ensures.1 ∙ c.sites_line.ensures, refl, refl)

pub returns-in-Count : goal.returns-in-Count
unfolding next_by homes_by numbers_by bytes count_line
returns-in-Count c =
    line_turns _ _ _ _ _ _ _ _ _ Count (value_of (bytes "transactions=")) _ (count_line c.args.self.now.m) (λ n. c.args.homes.now) (λ n. c.args.numbers.now)
    c.in-Count.is (λ l. (refl, refl, refl)) (refl, refl, refl) c.value_of-line-in-Count.ensures
    (c.with-in-Count.ensures.0, c.with-in-Count.ensures.1 ∙ c.count_line.ensures, refl, refl)

pub returns-in-Home : goal.returns-in-Home
unfolding next_by homes_by numbers_by bytes home_line kept
returns-in-Home c =
    line_turns _ _ _ _ _ _ _ _ _ Home (value_of (bytes "master=")) _ (home_line c.args.self.now.m) (kept c.args.homes.now (2 * c.args.self.now.m.done)) (λ n. c.args.numbers.now)
    c.in-Home.is (λ l. (refl, refl, refl)) (refl, refl, refl) c.value_of-line-in-Home.ensures
    (c.with-in-Home.ensures.0, c.with-in-Home.ensures.1 ∙ c.home_line.ensures, rw (c.keep.ensures, add-zero), refl)

pub returns-in-Priority : goal.returns-in-Priority
unfolding next_by homes_by numbers_by bytes priority_line kept
returns-in-Priority c =
    line_turns _ _ _ _ _ _ _ _ _ Priority (value_of (bytes "priority=")) _ (priority_line c.args.self.now.m) (kept c.args.homes.now (2 * c.args.self.now.m.done + 1)) (λ n. c.args.numbers.now)
    c.in-Priority.is (λ l. (refl, refl, refl)) (refl, refl, refl) c.value_of-line-in-Priority.ensures
    (c.with-in-Priority.ensures.0, c.with-in-Priority.ensures.1 ∙ c.priority_line.ensures, c.keep-in-Priority.ensures, refl)

pub returns-in-Events : goal.returns-in-Events
unfolding next_by homes_by numbers_by bytes events_line
returns-in-Events c =
    line_turns _ _ _ _ _ _ _ _ _ Events (value_of (bytes "events=")) _ (events_line c.args.self.now.m) (λ n. c.args.homes.now) (λ n. c.args.numbers.now)
    c.in-Events.is (λ l. (refl, refl, refl)) (refl, refl, refl) c.value_of-line-in-Events.ensures
    (c.with-in-Events.ensures.0, c.with-in-Events.ensures.1 ∙ c.events_line.ensures, refl, refl)

pub returns-in-Event : goal.returns-in-Event
unfolding next_by homes_by numbers_by bytes event_line kept_all
returns-in-Event c =
    line_turns _ _ _ _ _ _ _ _ _ Event event_of _ (event_line c.args.self.now.m) (λ n. c.args.homes.now) (kept_all c.args.numbers.now (7 * c.args.self.now.m.done))
    c.in-Event.is (λ l. (refl, refl, refl)) (refl, refl, refl) c.event_at-line.ensures
    (c.with-in-Event.ensures.0, c.with-in-Event.ensures.1 ∙ c.event_line.ensures, refl, c.keep_event.ensures)

pub returns-in-Nothing : goal.returns-in-Nothing
unfolding next_by homes_by numbers_by
returns-in-Nothing c =
    let u = c.with-in-Nothing.ensures.1 ∙ c.faulted.ensures in
    any_turns _ _ _ _ _ _ _ _ _ Nothing c.in-Nothing.is (λ l. (u, refl, refl)) u c.any_line.ensures
    (c.with-in-Nothing.ensures.0, refl, refl)

pub returns-in-Fault : goal.returns-in-Fault
unfolding next_by homes_by numbers_by
returns-in-Fault c =
    let u = c.with-in-Fault.ensures.1 in
    any_turns _ _ _ _ _ _ _ _ _ Fault c.in-Fault.is (λ l. (u, refl, refl)) (u ∙ fault_faulted _ c.in-Fault.is)
    c.any_line-in-Fault.ensures (c.with-in-Fault.ensures.0, refl, refl)
