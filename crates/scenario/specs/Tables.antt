-- 01, "Scenario and report": the text of a scenario, written from its tables, and where reading that text ends.
use Rattle.std.specs.Prelude.{ℕ, ◌+◌, ◌*◌, ◌<◌, List, [], ◌∷◌, ◌++◌, length, take, slice_index}
use Rattle.std.proofs.lemmas.List.Edits.{sets}
use Rattle.protocol.specs.Run.{events_of}
use Rattle.protocol.specs.declared.Entry.{Entry}
use Rattle.protocol.specs.declared.Event.{Event}
use Rattle.text.specs.Written.{bytes}
use Rattle.scenario.specs.Format.{Read, entries_in}
use Rattle.scenario.specs.Report.{line_of, list_of}
use Rattle.scenario.specs.declared.Want.TheVariants.{Nothing}

-- what a scenario tells: the number of sites, the home and the priority of each transaction, and the events
pub record Tables : Type 0 where
  pub sites : ℕ
  pub entries : List Entry
  pub events : List Event

-- ---- the text

-- "then master and priority for each transaction"
unfoldable pub entry_lines : List Entry → List ℕ
entry_lines [] = []
entry_lines (e ∷ es) =
    line_of (bytes "master=") e.home ++ (line_of (bytes "priority=") e.priority ++ entry_lines es)

-- "An event has seven fields: action, site, transaction, kind, from, reads, writes"
abbrev pub fields_in : Event → List ℕ
fields_in e = e.action ∷ e.site ∷ e.txn ∷ e.kind ∷ e.from ∷ e.reads ∷ e.writes ∷ []

-- "then event= with the seven fields and commas"
unfoldable pub event_lines : List Event → List ℕ
event_lines [] = []
event_lines (e ∷ es) = list_of (bytes "event=") (fields_in e) ++ event_lines es

-- "In order: sites, transactions, then master and priority for each transaction, events, then event= .."
unfoldable pub text_of : Tables → List ℕ
text_of s =
    line_of (bytes "sites=") s.sites
    ++ (line_of (bytes "transactions=") (length s.entries)
    ++ (entry_lines s.entries ++ (line_of (bytes "events=") (length s.events) ++ event_lines s.events)))

-- ---- what is kept of it

-- the home and the priority of each transaction in turn
unfoldable pub homes_of : List Entry → List ℕ
homes_of [] = []
homes_of (e ∷ es) = e.home ∷ e.priority ∷ homes_of es

-- the seven numbers of each event in turn
unfoldable pub numbers_of : List Event → List ℕ
numbers_of [] = []
numbers_of (e ∷ es) = fields_in e ++ numbers_of es

-- where reading the text ends: each of its lines has been there, and the lists, which held hs and ns, have the numbers
-- from their first places on, as far as there is room
unfoldable pub read_of : List ℕ → List ℕ → Tables → Read
read_of hs ns s = record {
  reading = record {
    want = Nothing;
    line = 4 + 2 * length s.entries + length s.events;
    done = length s.events;
    sites = s.sites;
    count = length s.entries;
    events = length s.events;
  };
  homes = sets hs 0 (homes_of s.entries);
  numbers = sets ns 0 (numbers_of s.events);
}

-- ---- and back

-- the tables that a text has filled
unfoldable pub tables_of : Read → Tables
tables_of r = record {
  sites = r.reading.sites;
  entries = entries_in r.reading.count r.homes;
  events = events_of (take (7 * r.reading.events) r.numbers);
}

-- ---- numbers of 32 bits

-- the number fits 32 bits
abbrev pub Small : ℕ → Type 0
Small n = n < 4294967296

-- each number of a list does
abbrev pub AllSmall : List ℕ → Type 0
AllSmall l = (i : ℕ) → Small (slice_index l i)

-- "numbers that don't fit 32 bits are faults": these fit, and so do the two that are counted
pub record Fits (s : Tables) : Type 0 where
  pub sites : Small s.sites
  pub count : Small (length s.entries)
  pub homes : AllSmall (homes_of s.entries)
  pub events : Small (length s.events)
  pub numbers : AllSmall (numbers_of s.events)
