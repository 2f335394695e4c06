use Rattle.std.proofs.Common.{◌≡◌, true, arith}
use Rattle.command.specs.Action.{put_redirect}
use Rattle.command.specs.Reading.{is_path, is_target}
use Rattle.command.proofs.ReadingLemmas.{redirect_reads}
use Rattle.command.proofs.reading.redirect_put.Goals as goal
use Rattle.command.proofs.reading.redirect_put.Goals.{then-is_path, else-is_path}

good_paths : (c : goal.In_ok-from_str-2) → (is_path c.args.at.now ≡ true) × (is_target c.args.target.now ≡ true)
good_paths c = elim c.if-is_path.branch [ then-is_path w ↦ (grind arith, grind arith) | else-is_path w ↦ (grind arith, grind arith) ]

pub returns-clause-ok : goal.returns-clause-ok
returns-clause-ok c =
    let paths = good_paths c in (
      put_redirect c.args.at.now c.args.target.now,
      redirect_reads c.args.at.now c.args.target.now paths.0 paths.1,
      (c.in_ok-from_str.ensures.ok, c.in_ok-from_str-2.ensures.ok),
    )
