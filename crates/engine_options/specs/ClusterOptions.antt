-- The command line of `sitecluster`, by clap's definition of a simple command.
use Rattle.std.specs.Prelude.{codes}
use Rattle.clap.specs.Words.{App, new_app}

-- `sitecluster`, which has no options
abbrev pub cluster_app : App
cluster_app = new_app (codes "sitecluster")
