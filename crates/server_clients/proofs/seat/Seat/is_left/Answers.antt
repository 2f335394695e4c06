use Rattle.std.proofs.Common.{◌≡◌, ◌≤◌, ◌-◌, ◌∙◌, arith, subst, sym}
use Rattle.std.specs.Prelude.{None}
use Rattle.std.proofs.lemmas.Bool.{false≢true}
use Rattle.http_serve.proofs.Fronts.{one_asked}
use Rattle.release.specs.Receipts.{receipt_of}
use Rattle.server_clients.proofs.Answering.{found_none, none_found}
use Rattle.server_clients.proofs.seat.Seat.is_left.Goals as goal

pub returns-then-not-has_passed : goal.returns-then-not-has_passed
returns-then-not-has_passed g c =
    let soon : ¬ (c.args.times.receipts ≤ c.args.now - c.args.self.now.came) = λ h. false≢true (c.if-not-has_passed.ensures.rule.1 h) in (
      λ none. record {
        ticket = c.in-Some.ticket;
        asks = c.in-Some.ensures;
        unknown = sym c.receipt.ensures ∙ none_found c.receipt.result c.is_none.result c.is_none.ensures none;
        soon = omega (arith, soon);
      },
      λ left.
          let one = one_asked c.args.self.now.connection c.in-Some.ticket left.ticket c.in-Some.ensures left.asks in
          found_none c.receipt.result c.is_none.result c.is_none.ensures
          (c.receipt.ensures ∙ subst (λ t. receipt_of t c.args.served.now.node.releases ≡ None) (sym one) left.unknown),
    )

pub returns-in-None : goal.returns-in-None
returns-in-None g c = (λ h. absurd (false≢true h), λ left. absurd (c.in-None.ensures left.ticket left.asks))
