-- The command line of `sited`, by clap's definition of a simple command.
use Rattle.std.specs.Prelude.{◌≡◌, ◌<◌, ℕ, Bool, pos, false, List, [], map, Option, Some, None, codes}
use Rattle.std.specs.Prelude.{unwrap_or}
use Rattle.std.specs.Str.{bytes_eq}
use Rattle.std.specs.Str.Parse.{IsNumeral, digits_value, without_leading_plus}
use Rattle.clap.specs.Words.{App, Rule, Row, Text, new_app, new_rule, with_rule, first_of, one_of, all_of}
use Rattle.clap.specs.declared.builder.value_parser.ValueParser.TheVariants.{Signed}
use Rattle.clap.specs.declared.builder.action.ArgAction.TheVariants.{SetTrue, Append}
use Rattle.engine_options.specs.Arguments.{number_rule, required_rule}
use Rattle.engine_options.specs.Options.{IsNumberOf}
use Rattle.server_faults.specs.declared.serve_options.ServeOptions.{ServeOptions}

-- `--id P`, P a number below 2^8
abbrev pub id_rule : Rule
id_rule = record (required_rule (codes "id")) { parser = Some (Signed (pos 0) (pos 255)) }

-- `--rounds R`, R a number below 2^32
abbrev pub rounds_rule : Rule
rounds_rule = record (required_rule (codes "rounds")) { parser = Some (Signed (pos 0) (pos 4294967295)) }

-- `--format`, which may be there
abbrev pub format_rule : Rule
format_rule = record (new_rule (codes "format")) { long = Some (codes "format"); action = Some SetTrue }

-- `--above P:REACH`, any number of them
abbrev pub above_rule : Rule
above_rule =
    record (new_rule (codes "above")) { long = Some (codes "above"); value_names = 1; action = Some Append }

-- `--verbose`, which may be there
abbrev pub verbose_rule : Rule
verbose_rule = record (new_rule (codes "verbose")) { long = Some (codes "verbose"); action = Some SetTrue }

-- `ADDRESS...`, any number of them
abbrev pub address_rule : Rule
address_rule = record (new_rule (codes "address")) { value_names = 1; action = Some Append }

-- `sited --id P --record FILE --http ADDRESS --rounds R [--format] [--above P:REACH]... [--patience-ms N]
-- [--serve-ms N] [--verbose] [ADDRESS]...`
abbrev pub serve_app : App
serve_app =
    with_rule (with_rule
    (with_rule (with_rule
    (with_rule (with_rule (with_rule (with_rule (with_rule (with_rule (new_app (codes "sited"))
    id_rule) (required_rule (codes "record")))
    (required_rule (codes "http"))) rounds_rule) format_rule) above_rule)
    (number_rule (codes "patience-ms"))) (number_rule (codes "serve-ms"))) verbose_rule) address_rule

-- a flag is set if its text is `true`
abbrev pub is_set : Option Text → Bool
is_set (Some t) = bytes_eq t (codes "true")
is_set None = false

-- a number below a bound is spelled
abbrev pub SpellsBelow : ℕ → Option Text → Type 0
SpellsBelow bound (Some t) =
    IsNumeral 10 (without_leading_plus t) × (digits_value 10 (without_leading_plus t) < bound)
SpellsBelow bound None = ⊥

-- the options are those that the matched rows hold
pub record GivesServe (rows : List Row) (o : ServeOptions) : Type 0 where
  pub id : IsNumberOf (one_of (codes "id") rows) (Some o.id)
  pub file : first_of (codes "record") rows ≡ Some o.record.now
  pub http : first_of (codes "http") rows ≡ Some o.http.now
  pub rounds : IsNumberOf (one_of (codes "rounds") rows) (Some o.rounds)
  pub format : o.format ≡ is_set (one_of (codes "format") rows)
  pub above : map (λ s. s.now) o.above.items ≡ unwrap_or (all_of (codes "above") rows) []
  pub patience : IsNumberOf (one_of (codes "patience-ms") rows) o.patience
  pub serve_ms : IsNumberOf (one_of (codes "serve-ms") rows) o.serve_ms
  pub verbose : o.verbose ≡ is_set (one_of (codes "verbose") rows)
  pub peers : map (λ s. s.now) o.peers.items ≡ unwrap_or (all_of (codes "address") rows) []
