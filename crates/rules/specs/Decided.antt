-- What the promises decide: two results of a public function that both satisfy its promise are equal, whatever the input.
-- One law says why, as what is returned is known from its numbers; each public function cites it.
use Rattle.std.specs.Prelude.{ℕ, ◌≡◌, List, length}
use Rattle.std.proofs.Common.{sym, ◌∙◌}
use Rattle.protocol.specs.Setup.{setup, setup_of}
use Rattle.protocol.specs.Answer.{step}
use Rattle.protocol.specs.Run.{events_of, run, answers_after}
use Rattle.protocol.specs.Refusals.{started, stepped, ran}
use Rattle.laws.specs.Numbers.{started-same, stepped-same, ran-same}
use Rattle.protocol.specs.declared.Answered.{Answered}
use Rattle.protocol.specs.declared.Entry.{Entry}
use Rattle.protocol.specs.declared.Event.{Event}
use Rattle.protocol.specs.declared.State.{State}

-- both are what the definition says
pub decided : {A : Type 0} {x y d : A} → x ≡ d → y ≡ d → x ≡ y
decided p q = p ∙ sym q

pub setup_decided : (sites : ℕ) (table : List Entry) (x y : Answered (Unit {0}))
    → started x ≡ setup sites table → started y ≡ setup sites table → x ≡ y
setup_decided sites table x y p q = started-same x y (decided p q)

pub setup_of_decided : (sites n : ℕ) (entries : List Entry) (x y : Answered (Unit {0}))
    → started x ≡ setup_of sites n entries → started y ≡ setup_of sites n entries → x ≡ y
setup_of_decided sites n entries x y p q = started-same x y (decided p q)

pub step_decided : (s : State) (e : Event) (x y : Answered ℕ) → stepped x ≡ step s e → stepped y ≡ step s e → x ≡ y
step_decided s e x y p q = stepped-same x y (decided p q)

-- a run's result, and what its places for answers hold
pub run_decided : (s : State) (events answers : List ℕ) (x y : Answered ℕ)
    → ran x ≡ run s (events_of events) (length answers) → ran y ≡ run s (events_of events) (length answers) → x ≡ y
run_decided s events answers x y p q = ran-same x y (decided p q)

pub answers_decided : (s : State) (events answers x y : List ℕ)
    → x ≡ answers_after s (events_of events) answers → y ≡ answers_after s (events_of events) answers → x ≡ y
answers_decided s events answers x y = decided
