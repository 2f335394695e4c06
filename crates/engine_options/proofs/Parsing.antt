-- An argument whose value is parsed.
use Rattle.std.proofs.Common.{ap, ap₂, sym, subst, ◌≡◌, ◌∙◌, Option}
use Rattle.clap.specs.Words.{Rule, Text, IsPlainArg, rule_of}
use Rattle.clap.specs.declared.builder.arg.Arg.{Arg}
use Rattle.clap.specs.declared.builder.value_parser.ValueParser.{ValueParser}
use Rattle.engine_options.specs.Arguments.{IsArgument}

pub parsed : (r : Rule) (name : Text) (a b : Arg) (p : Option ValueParser) → IsArgument r name a → b ≡ record a { value_parser = b.value_parser } → b.value_parser ≡ p → IsArgument (record r { parser = p }) name b
parsed r name a b p is others parser_is = record {
  rule = ap rule_of others ∙ ap₂ (λ (r : Rule) (p : Option ValueParser). record r { parser = p }) is.rule parser_is;
  id = ap (λ (a : Arg). a.id.now) others ∙ is.id;
  plain = subst IsPlainArg (sym others) is.plain;
  local = ap (λ (a : Arg). a.global) others ∙ is.local;
}
