use Rattle.std.proofs.Common.{◌≡◌, true, sym, ◌∙◌, arith, rules}
use Rattle.std.specs.Prelude.{is_some}
use Rattle.node.proofs.Choosing.{attempt_there, full_takes_none}
use Rattle.node.proofs.Queueing.{true_is}
use Rattle.node.proofs.node.Node.is_full.Goals as goal

pub returns-in-Some : goal.returns-in-Some
returns-in-Some g c s stands first told =
    let there : is_some c.own_value.result ≡ true = sym c.is_some.ensures ∙ true_is c.is_some.result told in
    let a = attempt_there _ c.own_value.result (s.attempts c.in-Some.last) (c.own_value.ensures s.attempts stands.parts.attempts) there in
    full_takes_none s c.args.first c.in-Some.last a.0 stands.tidy first c.in-Some.ensures.0 a.1

pub returns-in-None : goal.returns-in-None
returns-in-None g c s stands first told = absurd (search (rules, told))
