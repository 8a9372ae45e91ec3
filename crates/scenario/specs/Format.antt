-- 01, "Scenario and report": the form of a scenario, line by line, and the number of the first line at fault.
use Rattle.std.specs.Prelude.{ℕ, ◌+◌, ◌*◌, Bool, true, false, cond, Option, Some, None, List, [], ◌∷◌, drop, replicate, nat_lt, slice_index, slice_set}
use Rattle.std.proofs.lemmas.List.Edits.{sets}
use Rattle.protocol.specs.State.{max_txns, max_events}
use Rattle.protocol.specs.Lists.{table}
use Rattle.protocol.specs.declared.Entry.{Entry}
use Rattle.text.specs.Written.{bytes}
use Rattle.text.specs.Line.{parts, starts, value_of, fields_of}
use Rattle.scenario.specs.declared.Want.{Want}
use Rattle.scenario.specs.declared.Want.TheVariants.{Sites, Count, Home, Priority, Events, Event, Nothing, Fault}
use Rattle.scenario.specs.declared.Reading.{Reading}

-- how far a text has been read, and what it has filled: for each transaction its home and its priority, for each event
-- its seven numbers
pub record Read : Type 0 where
  pub reading : Reading
  pub homes : List ℕ
  pub numbers : List ℕ

-- before the first line, which has the number 1
unfoldable pub begin : Reading
begin = record { want = Sites; line = 1; done = 0; sites = 0; count = 0; events = 0 }

-- the wanted line is at fault
unfoldable pub faulted : Reading → Reading
faulted m = record m { want = Fault }

-- the wanted line is there: another is wanted, of whose kind `done` have been
unfoldable pub moved : Reading → Want → ℕ → Reading
moved m want done = record m { want = want; line = m.line + 1; done = done }

-- what is wanted after done of n lines of a kind: one more of them, or what follows them
abbrev pub after : ℕ → ℕ → Want → Want → Want
after done n more next = cond (nat_lt done n) more next

-- "In order: sites, transactions, then master and priority for each transaction, events, then event= ..": a line of each
-- kind that is its key and a decimal
unfoldable pub sites_line : Reading → Option ℕ → Reading
sites_line m (Some n) =
    record m { want = Count; line = m.line + 1; done = 0; sites = n }
sites_line m None = faulted m

unfoldable pub count_line : Reading → Option ℕ → Reading
count_line m (Some n) =
    record m { want = after 0 n Home Events; line = m.line + 1; done = 0; count = n }
count_line m None = faulted m

unfoldable pub home_line : Reading → Option ℕ → Reading
home_line m (Some n) = moved m Priority m.done
home_line m None = faulted m

unfoldable pub priority_line : Reading → Option ℕ → Reading
priority_line m (Some n) = moved m (after (m.done + 1) m.count Home Events) (m.done + 1)
priority_line m None = faulted m

unfoldable pub events_line : Reading → Option ℕ → Reading
events_line m (Some n) =
    record m { want = after 0 n Event Nothing; line = m.line + 1; done = 0; events = n }
events_line m None = faulted m

-- .. and one that is `event=` "with the seven fields and commas"
unfoldable pub event_line : Reading → Option (List ℕ) → Reading
event_line m (Some v) = moved m (after (m.done + 1) m.events Event Nothing) (m.done + 1)
event_line m None = faulted m

unfoldable pub event_of : List ℕ → Option (List ℕ)
event_of l = cond (starts (bytes "event=") l) (fields_of (drop 6 l)) None

-- one line more; "nothing after" the last
unfoldable pub next_by : Want → Reading → List ℕ → Reading
next_by Sites m l = sites_line m (value_of (bytes "sites=") l)
next_by Count m l = count_line m (value_of (bytes "transactions=") l)
next_by Home m l = home_line m (value_of (bytes "master=") l)
next_by Priority m l = priority_line m (value_of (bytes "priority=") l)
next_by Events m l = events_line m (value_of (bytes "events=") l)
next_by Event m l = event_line m (event_of l)
next_by Nothing m l = faulted m
next_by Fault m l = m

-- a list with the value of a line at place k, where the line has one and the list the place
unfoldable pub kept : List ℕ → ℕ → Option ℕ → List ℕ
kept hs k (Some n) = slice_set hs k n
kept hs k None = hs

-- .. or with the values of an event from place k on
unfoldable pub kept_all : List ℕ → ℕ → Option (List ℕ) → List ℕ
kept_all ns k (Some v) = sets ns k v
kept_all ns k None = ns

-- what of a line is kept: the home and the priority of a transaction, the numbers of an event, as far as there is room
unfoldable pub homes_by : Want → Reading → List ℕ → List ℕ → List ℕ
homes_by Sites m l hs = hs
homes_by Count m l hs = hs
homes_by Home m l hs = kept hs (2 * m.done) (value_of (bytes "master=") l)
homes_by Priority m l hs = kept hs (2 * m.done + 1) (value_of (bytes "priority=") l)
homes_by Events m l hs = hs
homes_by Event m l hs = hs
homes_by Nothing m l hs = hs
homes_by Fault m l hs = hs

unfoldable pub numbers_by : Want → Reading → List ℕ → List ℕ → List ℕ
numbers_by Sites m l ns = ns
numbers_by Count m l ns = ns
numbers_by Home m l ns = ns
numbers_by Priority m l ns = ns
numbers_by Events m l ns = ns
numbers_by Event m l ns = kept_all ns (7 * m.done) (event_of l)
numbers_by Nothing m l ns = ns
numbers_by Fault m l ns = ns

unfoldable pub next_line : Read → List ℕ → Read
next_line r l = record {
  reading = next_by r.reading.want r.reading l;
  homes = homes_by r.reading.want r.reading l r.homes;
  numbers = numbers_by r.reading.want r.reading l r.numbers;
}

-- the lines of a text, "each ended by one line feed": what stands after the last line feed is nothing, or a line at fault
unfoldable pub all_lines : Read → List (List ℕ) → Read
all_lines r [] = r
all_lines r ([] ∷ []) = r
all_lines r ((b ∷ l) ∷ []) = record { reading = faulted r.reading; homes = r.homes; numbers = r.numbers }
all_lines r (l ∷ k ∷ ls) = all_lines (next_line r l) (k ∷ ls)

-- a whole text, read into lists that hold hs and ns
unfoldable pub read_into : List ℕ → List ℕ → List ℕ → Read
read_into hs ns t = all_lines (record { reading = begin; homes = hs; numbers = ns }) (parts 10 t)

-- .. that have room for what a setup and a run take, and hold nothing
abbrev pub read_text : List ℕ → Read
read_text t = read_into (replicate (2 * max_txns) 0) (replicate (7 * max_events) 0) t

-- all that the text announces was there, and nothing after it
unfoldable pub whole : Want → Bool
whole Sites = false
whole Count = false
whole Home = false
whole Priority = false
whole Events = false
whole Event = false
whole Nothing = true
whole Fault = false

-- the first n entries of a list that has the home and the priority of each in turn
unfoldable pub entries_in : ℕ → List ℕ → List Entry
entries_in n hs = table n (λ t. record { home = slice_index hs (2 * t); priority = slice_index hs (2 * t + 1) })

-- the entries for setup, of which the first `count` count
abbrev pub entries_of : List ℕ → List Entry
entries_of hs = entries_in max_txns hs
