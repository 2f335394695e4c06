use Rattle.std.proofs.Common.{◌≡◌, ◌<◌, ◌∙◌, get_or, length, refl, sym, arith}
use Rattle.std.proofs.lemmas.List.{get_or_default}
use Rattle.server_clients.specs.Lingering.{IsDropped}
use Rattle.server_clients.specs.declared.parting.Parting.{Parting}
use Rattle.server_clients.proofs.Moving.{none_done, one_done}
use Rattle.server_clients.proofs.partings.Partings.drop_each.Goals as goal

pub loop-i-init : goal.loop-i-init
loop-i-init g c = record {
  within = omega arith;
  done = none_done (IsDropped g.S.Read.remaining) c.args.self.now.partings.items;
  same = refl;
}

pub loop-i-preserved : goal.loop-i-preserved
loop-i-preserved g c =
    let old = c.args.self.now.partings.items in
    let now = c.loop-i.self.partings.items in
    let x = c.index_mut-from.result.now in
    let below : c.loop-i.i < length now = omega (arith, c.loop-i-test.true, c.len.ensures) in
    let at : (d : Parting _) → get_or old c.loop-i.i d ≡ x =
    λ d. sym (c.loop-i.invariant.done.others c.loop-i.i (omega arith) d)
    ∙ get_or_default now c.loop-i.i d x below ∙ sym c.index_mut-from.ensures.value in
    record {
      within = omega (arith, below);
      done = one_done (IsDropped g.S.Read.remaining) c.loop-i.i c.loop-i.came c.read-came.result old now x
          c.read-came.new.self below at c.loop-i.invariant.done c.read-came.ensures;
      same = c.loop-i.invariant.same;
    }
