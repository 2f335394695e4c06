use Rattle.std.proofs.Common.{◌∙◌, ◌≤◌, ◌+◌, subst, ◌||◌, is_some, sym, ap, ap₂, arith}
use Rattle.durable.specs.Slots.{slot_at, value_at}
use Rattle.acceptor.specs.declared.slot.Slot.{Slot}
use Rattle.server_inspect.proofs.Counted.{count_none, last_none, count_next, last_next, count_few, copied_some}
use Rattle.server_inspect.proofs.counting.count.Goals as goal

pub loop-past-init : goal.loop-past-init
loop-past-init g c = record { votes = count_none _; learned = count_none _; last = last_none _; few = omega arith; few_learned = omega arith }

pub loop-past-preserved : goal.loop-past-preserved
loop-past-preserved g c =
    let slots = c.args.opened.now.recorded.slots in
    let at = sym c.in-Some.ensures.0 in
    let votes = ap (λ i. is_some (slot_at slots i).vote) at ∙ ap (λ (s : Slot). is_some s.vote) (sym c.slot.ensures) ∙ sym c.is_some-voted.ensures in
    let learned = ap (λ i. is_some (value_at slots i)) at ∙ ap is_some (sym c.learned.ensures) ∙ copied_some c.learned.result ∙ sym c.is_some-knows.ensures in
    record {
      votes = c.counted-votes.ensures ∙ count_next _ c.loop-past.past c.loop-past.votes _ c.loop-past.invariant.votes votes;
      learned = c.counted-learned.ensures ∙ count_next _ c.loop-past.past c.loop-past.learned _ c.loop-past.invariant.learned learned;
      last = c.last_of-last.ensures ∙ last_next _ c.loop-past.past c.loop-past.last _ c.loop-past.invariant.last (ap₂ (λ a b. a || b) votes learned ∙ sym c.either.ensures);
      few = subst (λ n. n ≤ c.loop-past.past + 1) (sym c.counted-votes.ensures) (count_few c.loop-past.votes c.loop-past.past c.is_some-voted.result c.loop-past.invariant.few);
      few_learned = subst (λ n. n ≤ c.loop-past.past + 1) (sym c.counted-learned.ensures) (count_few c.loop-past.learned c.loop-past.past c.is_some-knows.result c.loop-past.invariant.few_learned);
    }
