-- Why a run is refused.
use Rattle.std.specs.Prelude.{ℕ, not, [], ◌∷◌, nat_lt}
use Rattle.protocol.specs.State.{max_events}
use Rattle.protocol.specs.Check.{given, first_of}
use Rattle.protocol.specs.Range.{in_range}
use Rattle.protocol.specs.declared.State.{State}

-- why a run of n events with so much room for answers is refused, or 0: `run_answer` of document 01, of which the code knows
-- the events by their number alone (proofs/Running.antt)
abbrev pub run_refusal : ℕ → ℕ → State → ℕ
run_refusal n room s = first_of (given 31 (nat_lt max_events n) ∷ given 32 (nat_lt room n) ∷ given 1 (not (in_range s)) ∷ [])
