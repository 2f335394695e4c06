-- The command line of `sitesim`, by clap's definition of a simple command.
use Rattle.std.specs.Prelude.{◌≡◌, List, Some, codes}
use Rattle.clap.specs.Words.{App, Row, new_app, with_rule, first_of}
use Rattle.engine_options.specs.Arguments.{word_rule}
use Rattle.engine_options.specs.declared.sim_line.SimOptions.{SimOptions}

-- `sitesim FILE`
abbrev pub sim_app : App
sim_app = with_rule (new_app (codes "sitesim")) (word_rule (codes "file"))

-- the file is the word that the matched rows hold
pub record NamesFile (rows : List Row) (o : SimOptions) : Type 0 where
  pub file : first_of (codes "file") rows ≡ Some o.file.now
