use Rattle.std.proofs.Common.{true, sym, ◌∙◌}
use Rattle.std.proofs.lemmas.Bool.{false≢true}
use Rattle.server_clients.specs.Answering.{IsLeft}
use Rattle.server_clients.specs.Served.{offered}
use Rattle.server_clients.proofs.Answering.{next_of}
use Rattle.server_clients.proofs.seat.Seat.answer_next.Goals as goal

pub returns-clause-next : goal.returns-clause-next
returns-clause-next g c =
    let stays : ¬ (IsLeft offered c.args.times c.args.now c.args.served.now c.args.self.now) =
    λ left. false≢true (sym c.if-is_left.false ∙ c.is_left.ensures.1 left) in
    next_of offered c.args.times c.args.now c.advance.result c.args.served.now c.advance.new.service c.args.self.now c.advance.new.self
    stays c.advance.ensures.answered c.advance.ensures.idle
