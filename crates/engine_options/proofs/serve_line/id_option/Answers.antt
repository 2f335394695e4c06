use Rattle.std.proofs.Common.{ap, sym, subst, ◌≡◌, ◌∙◌, Some}
use Rattle.std.specs.Prelude.{pos}
use Rattle.clap.specs.Built.{TakesValue}
use Rattle.clap.specs.declared.builder.value_parser.ValueParser.{ValueParser}
use Rattle.clap.specs.declared.builder.value_parser.ValueParser.TheVariants.{Signed}
use Rattle.engine_options.proofs.Parsing.{parsed}
use Rattle.engine_options.proofs.serve_line.id_option.Goals as goal

pub returns : goal.returns
returns c =
    let option = c.required_option.ensures in
    let given = c.value_parser-2.ensures.given in
    let others = c.value_parser-2.ensures.others in
    let parser_is : c.value_parser-2.result.value_parser ≡ Some (Signed (pos 0) (pos 255)) =
    given.1 ∙ ap (λ (q : ValueParser). Some q) (given.2 ∙ c.value_parser.ensures) in
    record { is = parsed _ _ _ _ _ option.is others parser_is; takes = subst TakesValue (sym others) option.takes; parser = parser_is }
