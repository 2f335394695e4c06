use Rattle.std.proofs.Common.{ap, ◌≡◌, ◌∙◌, Some}
use Rattle.clap.specs.declared.builder.value_parser.ValueParser.{ValueParser}
use Rattle.clap.specs.declared.builder.value_parser.ValueParser.TheVariants.{Unsigned}
use Rattle.engine_options.proofs.Parsing.{parsed}
use Rattle.engine_options.proofs.arguments.number_option.Goals as goal

pub returns : goal.returns
returns c =
    let given = c.value_parser-2.ensures.given in
    let parser_is : c.value_parser-2.result.value_parser ≡ Some (Unsigned 0 18446744073709551615) =
    given.1 ∙ ap (λ (q : ValueParser). Some q) (given.2 ∙ c.value_parser.ensures) in
    record { is = parsed _ _ _ _ _ c.value_option.ensures c.value_parser-2.ensures.others parser_is; parser = parser_is }
