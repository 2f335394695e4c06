use Rattle.std.proofs.Common.{not, rules}
use Rattle.std.proofs.lemmas.Fn.{filter_same}
use Rattle.server_clients.specs.Lingering.{leaves}
use Rattle.server_clients.proofs.partings.Partings.close.Goals as goal

pub returns-clause-stay : goal.returns-clause-stay
returns-clause-stay g c =
    filter_same _ (λ p. not (leaves c.args.self.now.times c.args.now p)) _ (λ x b f says. search rules) _ _
    c.retain.ensures.filtered
