use Rattle.std.proofs.Common.{List, refl, sym, subst, ◌∙◌}
use Rattle.durable.proofs.Results.{on_err}
use Rattle.node.specs.Nodes.{Value}
use Rattle.node.specs.Waiting.{AreWaiting}
use Rattle.node.proofs.KnownValues.{is_none}
use Rattle.node.proofs.LearnedParts.{learned_parts}
use Rattle.node.proofs.Queueing.{drops_none, drops_one}
use Rattle.node.proofs.node.Node.learn.Goals as goal

pub returns-in-Some-clause-learned : goal.returns-in-Some-clause-learned
returns-in-Some-clause-learned g c s parts =
    let v : Value = c.args.value.now in
    let ok = rw c.in_ok-value.ensures at c.in_ok-ticket.ensures.ok in
    learned_parts c.args.self.now _ s c.args.instance v (record { me = refl; cluster = refl; releases = refl })
    (record {
      store = refl;
      reached = refl;
      known = ok.1;
      votes = c.forget.ensures.dropped;
      proposer = c.abandon.ensures.closed;
      pending = λ values are. subst (λ (vs : List Value). AreWaiting c.drop_ticket.new.self.items.items vs) (sym (drops_one v c.in-Some.ticket values (sym c.in-Some.is ∙ ok.0))) (c.drop_ticket.ensures values (c.take_read-read.ensures values are));
    }) parts

pub returns-in_default-clause-learned : goal.returns-in_default-clause-learned
returns-in_default-clause-learned g c s parts =
    let v : Value = c.args.value.now in
    let ok = rw c.in_ok-value.ensures at c.in_ok-ticket.ensures.ok in
    learned_parts c.args.self.now _ s c.args.instance v (record { me = refl; cluster = refl; releases = refl })
    (record {
      store = refl;
      reached = refl;
      known = ok.1;
      votes = c.forget.ensures.dropped;
      proposer = c.abandon.ensures.closed;
      pending = λ values are. subst (λ (vs : List Value). AreWaiting c.take_read-read.new.self.items.items vs) (sym (drops_none v values (sym (is_none c.in_ok-ticket.ticket c.in_default.not-Some) ∙ ok.0))) (c.take_read-read.ensures values are);
    }) parts

pub returns-in_err-ticket-clause-refused : goal.returns-in_err-ticket-clause-refused
returns-in_err-ticket-clause-refused g c = on_err c.from_residual-in_err-ticket.result (λ s parts. record {
  on_record = parts.on_record;
  votes = parts.votes;
  known = c.in_err-ticket.ensures.err c.args.self.now.releases s.known parts.known;
  attempts = parts.attempts;
  pending = c.take_read-read.ensures s.pending parts.pending;
  heard = parts.heard;
  reached = parts.reached;
})
