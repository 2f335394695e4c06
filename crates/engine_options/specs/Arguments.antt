-- What one argument of a command line is, by clap's definition of its rules.
use Rattle.std.specs.Prelude.{◌≡◌, true, false, Some}
use Rattle.clap.specs.Words.{Rule, Text, new_rule, rule_of, IsPlainArg}
use Rattle.clap.specs.declared.builder.arg.Arg.{Arg}
use Rattle.clap.specs.declared.builder.value_parser.ValueParser.TheVariants.{Unsigned}
use Rattle.clap.specs.declared.builder.action.ArgAction.TheVariants.{Set}

-- `--NAME VALUE`, which has to be there
abbrev pub required_rule : Text → Rule
required_rule name =
    record (new_rule name) { long = Some name; value_names = 1; required = true; action = Some Set }

-- `--NAME VALUE`, which may be there
abbrev pub option_rule : Text → Rule
option_rule name = record (new_rule name) { long = Some name; value_names = 1; action = Some Set }

-- `--NAME N`, which may be there, N a number below 2^64
abbrev pub number_rule : Text → Rule
number_rule name =
    record (new_rule name) {
      long = Some name;
      value_names = 1;
      parser = Some
          (Unsigned 0 18446744073709551615);
      action = Some Set;
    }

-- a word by itself, which has to be there
abbrev pub word_rule : Text → Rule
word_rule name = record (new_rule name) { value_names = 1; required = true; action = Some Set }

-- an argument with this rule and this name, only of its own command
pub record IsArgument (rule_is : Rule) (name : Text) (arg : Arg) : Type 0 where
  pub rule : rule_of arg ≡ rule_is
  pub id : arg.id.now ≡ name
  pub plain : IsPlainArg arg
  pub local : arg.global ≡ false
