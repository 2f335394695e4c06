use Rattle.std.proofs.Common.{◌≡◌, true, false, refl, sym, ap, subst, ◌∙◌}
use Rattle.std.specs.Bool.{OnFalse}
use Rattle.std.specs.BTreeMap.{is_at}
use Rattle.std.specs.List.{list_any}
use Rattle.std.specs.Set.{remove_key}
use Rattle.durable.proofs.Results.{on_err}
use Rattle.content.proofs.Tickets.{ticket_cmp, same_itself}
use Rattle.node.proofs.TicketSets.{in_and_out, answered_by}
use Rattle.node.proofs.KnownValues.{known_more, known_still, one_taken, learned_there, not_learned}
use Rattle.node.proofs.known.Known.learn_command.Goals as goal

pub returns-in_err-is_new-clause-err : goal.returns-in_err-is_new-clause-err
returns-in_err-is_new-clause-err c = on_err c.from_residual.result (λ published known are. known_still c.args.self.now _ published known are (λ j. refl) c.in_err-is_new.ensures.err)

pub returns-then-is_new-clause-err : goal.returns-then-is_new-clause-err
returns-then-is_new-clause-err c published known are =
    let old = c.args.self.now in
    let k = c.args.ticket in
    let none : list_any (is_at (ticket_cmp k)) old.tickets.keys ≡ false = answered_by c.in_ok-is_new.is_new _ true c.in_ok-is_new.ensures.added c.if-is_new.true in
    known_still old _ published known are (not_learned old.log c.learn.new.self c.args.instance c.args.value c.learn.result c.learn.ensures (sym c.is_err.ensures.value ∙ c.if-is_err.true))
    (c.remove.ensures.keys ∙ ap (remove_key (is_at (ticket_cmp k))) c.in_ok-is_new.ensures.keys ∙ in_and_out ticket_cmp k old.tickets.keys (same_itself k) none)

pub returns-else-is_new-clause-err : goal.returns-else-is_new-clause-err
returns-else-is_new-clause-err c published known are =
    let old = c.args.self.now in
    known_still old _ published known are (not_learned old.log c.learn.new.self c.args.instance c.args.value c.learn.result c.learn.ensures (sym c.is_err.ensures.value ∙ c.if-is_err.true))
    (subst (λ b. OnFalse b (c.insert.new.self.keys ≡ old.tickets.keys)) c.if-is_new.false c.in_ok-is_new.ensures.unchanged)

pub returns-clause-ok : goal.returns-clause-ok
returns-clause-ok c published known are =
    let old = c.args.self.now in
    known_more old _ published known c.args.instance c.args.value are c.requires.unknown
    (learned_there old.log c.learn.new.self c.args.instance c.args.value c.learn.result c.learn.ensures (sym c.is_err.ensures.value ∙ c.if-is_err.false) c.requires.unknown) (one_taken old.tickets c.insert.new.self c.args.value c.args.ticket c.requires.named c.in_ok-is_new.ensures.updates)
