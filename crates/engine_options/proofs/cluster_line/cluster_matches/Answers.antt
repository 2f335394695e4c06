use Rattle.std.proofs.Common.{refl, true, ◌≡◌}
use Rattle.clap.specs.Words.{app_of, is_simple_and_free}
use Rattle.clap.proofs.OnLiterals.{clap_on_literals}
use Rattle.engine_options.specs.ClusterOptions.{cluster_app}
use Rattle.engine_options.proofs.SimpleCommands.{taken_by, refused_by}
use Rattle.engine_options.proofs.cluster_line.cluster_matches.Goals as goal

free : is_simple_and_free cluster_app ≡ true
unfolding clap_on_literals
free = refl

pub returns : goal.returns
returns c =
    let parse = c.try_get_matches_from in
    let app_is : app_of c.described-command.result ≡ cluster_app = c.described-command.ensures.app in
    record {
      taken = taken_by _ cluster_app _ parse.result app_is parse.ensures.passes;
      refused = refused_by _ cluster_app _ parse.result app_is free parse.ensures.kinds;
    }
