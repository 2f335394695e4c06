use Rattle.std.proofs.Common.{◌≡◌, ◌+◌, ◌≤◌, subst, sym, arith}
use Rattle.durable.specs.Entries.{reach_of}
use Rattle.proposer.specs.declared.TheConstants.{MAX_ATTEMPTS}
use Rattle.server_floor.specs.Told.{nodes_of}
use Rattle.server_floor.proofs.Telling.{told_of, within_furthest}
use Rattle.node.specs.Nodes.{Down}
use Rattle.sitectl.proofs.floors.floors_are_allowed.Goals as goal

pub returns : goal.returns
returns c = λ n p floor told w is are. record {
  instance = is.instance;
  asked = nodes_of told;
  majority = is.majority;
  answers = λ q asked. let t = told_of told q asked in λ down. (are t.0 t.1).0 (subst (λ r. (w.node r).mode ≡ Down) (sym t.2) down);
  above = λ q asked.
      let t = told_of told q asked in
      let far = within_furthest told t.0 t.1 in
      let reach = (are t.0 t.1).1 in
      let above = is.above in
      let below : reach_of (w.node t.0.node).entries + MAX_ATTEMPTS ≤ floor = omega (arith, far, reach, above) in
      subst (λ r. reach_of (w.node r).entries + MAX_ATTEMPTS ≤ floor) t.2 below;
}
