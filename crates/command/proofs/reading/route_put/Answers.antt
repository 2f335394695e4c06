use Rattle.std.proofs.Common.{◌≡◌, true, arith}
use Rattle.command.specs.Action.{put_route}
use Rattle.command.specs.Reading.{is_name, is_path}
use Rattle.command.proofs.ReadingLemmas.{route_reads}
use Rattle.command.proofs.reading.route_put.Goals as goal
use Rattle.command.proofs.reading.route_put.Goals.{then-is_name, else-is_name}

good_names : (c : goal.In_ok-from_str-3) → (is_name c.args.template.now ≡ true) × (is_name c.args.page_data.now ≡ true)
good_names c = elim c.if-is_name.branch [ then-is_name w ↦ (grind arith, grind arith) | else-is_name w ↦ (grind arith, grind arith) ]

pub returns-clause-ok : goal.returns-clause-ok
returns-clause-ok c =
    let good : is_path c.args.at.now ≡ true = grind arith in
    let names = good_names c in (
      put_route c.args.at.now c.args.template.now c.args.page_data.now,
      route_reads c.args.at.now c.args.template.now c.args.page_data.now good names.0 names.1,
      (c.in_ok-from_str.ensures.ok, c.in_ok-from_str-2.ensures.ok, c.in_ok-from_str-3.ensures.ok),
    )
