-- What a run returned is what the definitions answer.
use Rattle.std.proofs.Common.{ℕ, ◌/◌, ◌≡◌, ◌==◌, cond, List, length, Result, Ok, Err, refl, ap, ◌∙◌, ne_eqb}
use Rattle.std.specs.Result.{result_unwrap_or}
use Rattle.protocol.specs.Setup.{Started, setup_of}
use Rattle.protocol.specs.Run.{Ran, run}
use Rattle.protocol.specs.Refusals.{number_of, answer_of, sent_of, started, ran}
use Rattle.laws.specs.Numbers.{number_of-some}
use Rattle.protocol.specs.declared.Answered.{Answered}
use Rattle.protocol.specs.declared.Entry.{Entry}
use Rattle.protocol.specs.declared.Event.{Event}
use Rattle.protocol.specs.declared.Refusal.{Refusal}
use Rattle.protocol.specs.declared.State.{State}
use Rattle.scenario.specs.Format.{entries_of}
use Rattle.exports.specs.Exported.{begun_with, sent_in}

-- the state of a setup of the numbers
pub begun : (sites : ℕ) (table : List ℕ) (entries : List Entry) (b : Answered (Unit {0})) → entries ≡ entries_of table
    → started b ≡ setup_of sites (length table / 2) entries → b.state ≡ begun_with sites table
unfolding begun_with
begun sites table entries b e f =
    ap (λ (x : Started). x.state) (f ∙ ap (setup_of sites (length table / 2)) e)

-- how many messages were sent, or what stands for a refusal
sent_or : (o : Result ℕ Refusal) → result_unwrap_or o 4294967295 ≡ cond (answer_of o == 0) (sent_of o) 4294967295
sent_or (Ok n) = refl
sent_or (Err k) = rw (ne_eqb (number_of k) 0 (number_of-some k)) refl

pub sent : (s : State) (es : List Event) (room : ℕ) (r : Answered ℕ) → ran r ≡ run s es room
    → result_unwrap_or r.outcome 4294967295 ≡ sent_in s es room
unfolding sent_in
sent s es room r e = sent_or r.outcome ∙ ap (λ (x : Ran). cond (x.answer == 0) x.sent 4294967295) e
