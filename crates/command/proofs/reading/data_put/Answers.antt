use Rattle.std.proofs.Common.{◌≡◌, true, Ok, refl, ap, sym, ◌∙◌, arith}
use Rattle.context.specs.View.{data_view}
use Rattle.context.specs.Whole.{data_reading}
use Rattle.command.specs.Action.{put_data}
use Rattle.command.specs.Reading.{is_name}
use Rattle.command.proofs.ReadingLemmas.{data_reads}
use Rattle.command.proofs.reading.data_put.Goals as goal

pub returns-in_ok-from_str-in-Ok-clause-ok : goal.returns-in_ok-from_str-in-Ok-clause-ok
returns-in_ok-from_str-in-Ok-clause-ok c =
    let named : is_name c.args.of.now ≡ true = grind arith in
    let read : data_reading c.args.body.now ≡ Ok (data_view c.in-Ok.page_data) = ap data_reading (sym c.as_bytes.ensures.value) ∙ c.in-Ok.ensures.ok in (
      put_data c.args.of.now (data_view c.in-Ok.page_data),
      data_reads c.args.of.now c.args.body.now (data_view c.in-Ok.page_data) named read,
      (c.in_ok-from_str-in-Ok.ensures.ok, refl),
    )
