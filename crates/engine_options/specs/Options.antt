-- The command line of `siterender`, by clap's definition of a simple command.
use Rattle.std.specs.Prelude.{◌≡◌, ℕ, List, map, Option, Some, None, codes, String, string_bytes}
use Rattle.std.specs.declared.alloc.Global.{Global}
use Rattle.std.specs.Str.Parse.{IsNumeral, digits_value, without_leading_plus}
use Rattle.clap.specs.Words.{App, Row, new_app, with_rule, first_of, one_of}
use Rattle.engine_options.specs.Arguments.{number_rule, word_rule}
use Rattle.engine_options.specs.declared.render_line.RenderOptions.{RenderOptions}

-- `siterender [--release N] PATH`
abbrev pub render_app : App
render_app =
    with_rule (with_rule (new_app (codes "siterender")) (number_rule (codes "release")))
    (word_rule (codes "path"))

abbrev pub words_of : List (String Global) → List (List ℕ)
words_of words = map string_bytes words

-- no text gives no number, and a text the number that it spells
abbrev pub IsNumberOf : Option (List ℕ) → Option ℕ → Type 0
IsNumberOf None n = n ≡ None
IsNumberOf (Some t) n =
    IsNumeral 10 (without_leading_plus t) × (n ≡ Some (digits_value 10 (without_leading_plus t)))

-- the options are those that the matched rows hold
pub record Gives (rows : List Row) (o : RenderOptions) : Type 0 where
  pub path : first_of (codes "path") rows ≡ Some o.path.now
  pub release : IsNumberOf (one_of (codes "release") rows) o.release
