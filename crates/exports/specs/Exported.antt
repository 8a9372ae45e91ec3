-- What the functions for other languages answer.
use Rattle.std.specs.Prelude.{ℕ, ◌/◌, cond, List, length, ◌==◌}
use Rattle.protocol.specs.Setup.{setup_of}
use Rattle.protocol.specs.Run.{run}
use Rattle.protocol.specs.declared.Event.{Event}
use Rattle.protocol.specs.declared.State.{State}
use Rattle.scenario.specs.Format.{Read, whole, entries_of}

-- the number of the line at fault, from 1; 0 where the text that was read is of the form
unfoldable pub fault_line : Read → ℕ
fault_line r = cond (whole r.reading.want) 0 r.reading.line

-- the state that a setup gives whose table is a list of numbers, two a transaction: its home and its priority
unfoldable pub begun_with : ℕ → List ℕ → State
begun_with sites table = (setup_of sites (length table / 2) (entries_of table)).state

-- the messages that a run sends, or 4294967295 where it is refused, as it is from the state of a refused setup
unfoldable pub sent_in : State → List Event → ℕ → ℕ
sent_in s es room = cond ((run s es room).answer == 0) (run s es room).sent 4294967295
