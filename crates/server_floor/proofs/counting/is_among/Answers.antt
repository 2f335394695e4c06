use Rattle.std.proofs.Common.{refl, subst, sym, ◌∙◌}
use Rattle.std.proofs.lemmas.Bool.{eqb-true}
use Rattle.site_ids.specs.Lists.{In}
use Rattle.server_floor.specs.Told.{nodes_of}
use Rattle.server_floor.proofs.Telling.{stands, node_stands}
use Rattle.server_floor.proofs.counting.is_among.Goals as goal

pub returns-then-eq : goal.returns-then-eq
returns-then-eq c = (
  λ _. subst (In (nodes_of c.args.told.now)) (eqb-true _ _ (sym c.eq.ensures ∙ c.if-eq.true)) (node_stands c.args.told.now c.one-item.result (stands c.args.told.now c.loop-one.one-index c.one-item.result c.loop-one-test.true c.one-item.is)),
  λ _. refl,
)
