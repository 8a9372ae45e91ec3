-- Each turn of the loop takes the event of the next seven numbers.
use Rattle.std.proofs.Common.{◌≡◌, ◌+◌, ap, ◌∙◌, add-zero, arith}
use Rattle.laws.specs.Runs.{events-length}
use Rattle.protocol.specs.Answer.{step}
use Rattle.protocol.specs.Refusals.{answer_of, sent_of}
use Rattle.rules.proofs.EventList.{events_from}
use Rattle.rules.proofs.Running.{going_begun, going_turned, finished}
use Rattle.rules.proofs.Shape.{shaped}
use Rattle.rules.proofs.Steps.{few_step}
use Rattle.rules.proofs.course.performed.Goals.{in-Ok, in-Err}
use Rattle.rules.proofs.course.performed.Goals as goal

pub loop-k-init : goal.loop-k-init
loop-k-init c = record {
  few = omega arith;
  going = going_begun _ _ _ (shaped _ _ c.well_formed.0) c.requires.0;
}

pub take-requires : goal.take-requires
take-requires c = c.loop-k.invariant.going.ranged

pub overflow_add-sent : goal.overflow_add-sent
overflow_add-sent c =
    omega (arith, c.requires.1, c.as_chunks.ensures.front_len, (few_step _ _ _ c.in-Ok.ensures).2)

pub loop-k-preserved : goal.loop-k-preserved
loop-k-preserved c =
    let l = c.loop-k in
    let r = c.take.result in
    let new = c.match-take in
    let sent : new.sent ≡ l.sent + sent_of r =
    elim new.branch [
      | in-Ok w ↦ rw w.in-Ok.is w.sent-is
      | in-Err w ↦ rw (w.in-Err.is, add-zero) w.sent-is
    ] in
    let answer : new.answers ≡ answer_of r =
    elim new.branch [
      | in-Ok w ↦ rw w.in-Ok.is w.answers-is
      | in-Err w ↦ rw w.in-Err.is (w.answers-is ∙ w.from-in-Err.ensures)
    ] in
    record {
      few = omega (arith, l.invariant.few, (few_step _ _ _ c.take.ensures).2);
      going =
          rw (sent, answer)
          (going_turned _ _ _ l.k l.state l.sent l.answers _ _ l.invariant.going
          (events_from c.args.events.now l.k (omega (arith, c.as_chunks.ensures.front_len)))
          (omega (arith, c.requires.2, c.as_chunks.ensures.front_len))
          (c.take.ensures ∙ ap (step l.state) (rw c.as_chunks.ensures.front at c.from.ensures)));
    }

pub returns : goal.returns
returns c =
    finished _ _ _ _ _ _ _ c.loop-k.invariant.going
    (omega (arith, events-length c.args.events.now, c.as_chunks.ensures.front_len))
