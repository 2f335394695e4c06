use Rattle.std.proofs.Common.{[], ◌∷◌, arith}
use Rattle.std.proofs.lemmas.Grind.{common_steps}
use Rattle.std.proofs.lemmas.List.{map-append, length-append, length-map}
use Rattle.editor_ledger.proofs.Listing.{numbered_push}
use Rattle.editor_ledger.proofs.sent.numbered.Goals as goal

pub loop-text-preserved : goal.loop-text-preserved
loop-text-preserved c = record {
  counted = omega (arith, c.loop-text.invariant.counted, length-append c.loop-text.yielded (c.in-Some.text ∷ []));
  given = grind (arith, common_steps, map-append, length-map, numbered_push, c.loop-text.invariant.given, c.loop-text.invariant.counted, c.in_ok-push.ensures.items);
}
