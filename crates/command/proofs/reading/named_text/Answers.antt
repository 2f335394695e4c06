use Rattle.std.proofs.Common.{◌≡◌, [], true, arith}
use Rattle.command.specs.Action.{put_template, put_partial}
use Rattle.command.specs.Reading.{is_name}
use Rattle.mustache_parse.specs.Template.{template_tree}
use Rattle.command.proofs.ReadingLemmas.{template_reads, partial_reads}
use Rattle.command.proofs.reading.named_text.Goals as goal

pub returns-in_ok-from_str-in-Ok-clause-template_put : goal.returns-in_ok-from_str-in-Ok-clause-template_put
returns-in_ok-from_str-in-Ok-clause-template_put c =
    let named : is_name c.args.of.now ≡ true = grind arith in
    let parsed = c.in-Ok.ensures.ok in (
      put_template c.args.of.now c.args.body.now,
      template_reads c.args.of.now c.args.body.now (template_tree [] c.in-Ok.template) named parsed.holds,
      (c.in_ok-from_str-in-Ok.ensures.ok, parsed),
    )

pub returns-in_ok-from_str-in-Ok-clause-partial_put : goal.returns-in_ok-from_str-in-Ok-clause-partial_put
returns-in_ok-from_str-in-Ok-clause-partial_put c =
    let named : is_name c.args.of.now ≡ true = grind arith in
    let parsed = c.in-Ok.ensures.ok in (
      put_partial c.args.of.now c.args.body.now,
      partial_reads c.args.of.now c.args.body.now (template_tree [] c.in-Ok.template) named parsed.holds,
      (c.in_ok-from_str-in-Ok.ensures.ok, parsed),
    )
