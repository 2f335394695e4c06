use Rattle.std.proofs.Common.{arith, refl}
use Rattle.server_floor.proofs.Telling.{majority_of}
use Rattle.server_floor.proofs.floor.floor_above.Goals as goal

pub returns-then-far-gt-LAST : goal.returns-then-far-gt-LAST
returns-then-far-gt-LAST c = (
  (c.if-not-are_others.ensures.0 refl),
  majority_of c.args.cluster c.args.me c.args.told.now (c.if-not-are_others.ensures.0 refl) (c.if-not-are_distinct.ensures.0 refl) (omega (arith, c.quorum.ensures, c.if-told-from.false)),
  omega (arith, c.if-far-gt-LAST.true, c.furthest-far.ensures),
)

pub returns-in-Some : goal.returns-in-Some
returns-in-Some c = record {
  others = (c.if-not-are_others.ensures.0 refl);
  majority = majority_of c.args.cluster c.args.me c.args.told.now (c.if-not-are_others.ensures.0 refl) (c.if-not-are_distinct.ensures.0 refl) (omega (arith, c.quorum.ensures, c.if-told-from.false));
  above = omega (arith, c.if-far-gt-LAST.false, c.furthest-far.ensures, c.in-Some.ensures.0);
  instance = (omega (arith, c.in-Some.ensures.0), omega (arith, c.if-far-gt-LAST.false, c.in-Some.ensures.0));
}
