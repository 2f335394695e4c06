-- What the words of a command line mean, by what `clap` found of them.
use Rattle.std.specs.Prelude.{◌≡◌, ℕ, List, [], map, option_map, unwrap_or, Bool, true, false, Option, Some}
use Rattle.std.specs.Prelude.{None, IfSome, codes}
use Rattle.std.specs.Str.Parse.{digits_value, without_leading_plus}
use Rattle.clap.specs.Words.{first_value, matched_of, one_text, raw_values}
use Rattle.clap.specs.declared.parser.matches.Found.{Found}
use Rattle.editor_options.specs.declared.line.TheConstants.{PATIENCE}
use Rattle.editor_options.specs.declared.manner.Manner.{Manner}
use Rattle.editor_options.specs.declared.word.PublishWord.{PublishWord}
use Rattle.editor_options.specs.declared.word.Word.{Word}
use Rattle.editor_options.specs.declared.word.Word.TheVariants.{Told}

-- a flag is up if it was given
pub record IsFlag (found : Found) (name : List ℕ) (flag : Bool) : Type 0 where
  pub absent : one_text found name ≡ None → flag ≡ false
  pub up : one_text found name ≡ Some (codes "true") → flag ≡ true
  pub down : one_text found name ≡ Some (codes "false") → flag ≡ false

-- all values that were given under a name, as they are
abbrev pub values_given : Found → List ℕ → List (List ℕ)
values_given found name = unwrap_or (option_map raw_values (matched_of found name)) []

-- a number is the one that its digits spell; without a text there is none
pub record IsNumber (found : Found) (name : List ℕ) (number : Option ℕ) : Type 0 where
  pub absent : one_text found name ≡ None → number ≡ None
  pub spelled : (t : List ℕ) → one_text found name ≡ Some t
      → IfSome number (λ n. n ≡ digits_value 10 (without_leading_plus t))

-- the same, with a number in place of none
abbrev pub IsNumberOr : Found → List ℕ → ℕ → ℕ → Type 0
IsNumberOr found name other number =
    (given : Option ℕ) × IsNumber found name given × (number ≡ unwrap_or given other)

-- what a publication was told to do
pub record IsPublication (found : Found) (word : PublishWord) : Type 0 where
  pub folder : word.folder.now ≡ unwrap_or (first_value found (codes "folder")) []
  pub logins : option_map (λ s. s.now) word.logins ≡ first_value found (codes "logins")
  pub urls : map (λ u. u.now) word.urls.items ≡ values_given found (codes "url")
  pub editor : IsNumber found (codes "editor") word.editor
  pub patience : IsNumberOr found (codes "patience") PATIENCE word.patience
  pub release : IsNumber found (codes "release") word.release
  pub message : option_map (λ s. s.now) word.message ≡ first_value found (codes "message")
  pub dry_run : IsFlag found (codes "dry-run") word.dry_run
  pub exit_code : IsFlag found (codes "exit-code") word.exit_code
  pub take_over : IsFlag found (codes "take-over") word.take_over
  pub ignore : IsFlag found (codes "ignore") word.ignore

-- how a word was told to report
pub record IsManner (found : Found) (manner : Manner) : Type 0 where
  pub quiet : IsFlag found (codes "quiet") manner.quiet
  pub json : IsFlag found (codes "json") manner.json

-- a word that is not told how to report writes all, and no JSON
abbrev pub manner_of : Word → Manner
manner_of (Told word manner) = manner
manner_of word = record { quiet = false; json = false }
