use Rattle.std.proofs.Common.{◌≡◌, ◌≢◌, refl, subst, arith, rules}
use Rattle.http_serve.specs.declared.outcomes.ReadOutcome.TheVariants.{Came}
use Rattle.server_clients.specs.Lingering.{AreDropped}
use Rattle.server_clients.proofs.Dropping.{none_came, one_came}
use Rattle.server_clients.proofs.parting.Parting.read_on.Goals as goal

pub loop-left-preserved : goal.loop-left-preserved
loop-left-preserved g c = record {
  leads = λ new rest.
      c.loop-left.invariant.leads new
      (one_came g.S.Read.remaining c.loop-left.left c.loop-left.self c.read_once.new.self new
      (omega (arith, c.loop-left-test.true)) c.in-Came.ensures rest);
}

pub returns-in-Nothing : goal.returns-in-Nothing
returns-in-Nothing g c =
    let other : c.read_once.result ≢ Came = search (rules, c.in-Nothing.is) in
    c.loop-left.invariant.leads c.read_once.new.self
    (none_came g.S.Read.remaining c.loop-left.left c.read_once.result c.loop-left.self c.read_once.new.self
    (omega (arith, c.loop-left-test.true)) other c.read_once.ensures)

pub returns : goal.returns
returns g c =
    let none : 0 ≡ c.loop-left.left = omega (arith, c.loop-left-test.false) in
    c.loop-left.invariant.leads c.loop-left.self
    (subst (λ n. AreDropped g.S.Read.remaining n c.loop-left.self c.loop-left.self) none refl)
