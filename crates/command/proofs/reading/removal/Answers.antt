use Rattle.std.proofs.Common.{◌≡◌, Bool, true, false, Result, Ok, Err, cond, refl}
use Rattle.command.specs.Action.{remove}
use Rattle.command.specs.Reading.{is_removable, wrong_remove}
use Rattle.command.specs.View.{kind_view}
use Rattle.command.specs.declared.fault.CommandFault.{CommandFault}
use Rattle.command.proofs.ReadingLemmas.{remove_reads}
use Rattle.command.proofs.reading.removal.Goals as goal

is_one : (b : Bool) (fault : CommandFault) (done : Unit {0}) → Ok done ≡ cond {A = Result (Unit {0}) CommandFault} b (Ok tt) (Err fault) → b ≡ true
is_one true fault done e = refl
is_one false fault done e = cc

pub returns-in_ok-from_str-in-Ok-clause-ok : goal.returns-in_ok-from_str-in-Ok-clause-ok
returns-in_ok-from_str-in-Ok-clause-ok c =
    let kind = kind_view c.args.kind in
    let good = is_one (is_removable kind c.args.of.now) (wrong_remove kind) c.in-Ok.field-0 c.in-Ok.ensures in (
      remove kind c.args.of.now,
      remove_reads kind c.args.of.now good,
      (refl, c.in_ok-from_str-in-Ok.ensures.ok),
    )
