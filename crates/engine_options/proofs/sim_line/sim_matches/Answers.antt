use Rattle.std.proofs.Common.{refl, subst, true, ℕ, List, [], ◌∷◌, codes, is_some, ◌≡◌, arith}
use Rattle.std.proofs.lemmas.Result.{IfOk-weaker}
use Rattle.clap.specs.Words.{app_of, is_simple_and_free, found_of, first_value}
use Rattle.clap.proofs.OnLiterals.{clap_on_literals}
use Rattle.engine_options.specs.SimOptions.{sim_app}
use Rattle.engine_options.proofs.Chains.{IsChain, adds, chain_given}
use Rattle.engine_options.proofs.SimpleCommands.{simple_by, rows_by, taken_by, refused_by}
use Rattle.engine_options.proofs.sim_line.sim_matches.Goals as goal

free : is_simple_and_free sim_app ≡ true
unfolding clap_on_literals
free = refl

abbrev ids : List (List ℕ)
ids = codes "file" ∷ []

made : (c : goal.After-try_get_matches_from) → IsChain c.described.result c.in_ok-command.command (c.word_argument.result ∷ []) ids
made c =
    let file = c.word_argument.ensures.is in
    record {
      bare = record { args = c.described.ensures.empty.0; groups = c.described.ensures.empty.1; globals = c.described.ensures.local; negates = c.described.ensures.negates };
      added = (c.in_ok-command.command, c.in_ok-command.ensures, refl);
      named = (record { is = file.id; plain = file.plain; local = file.local }, tt);
      different = refl;
      own = refl;
    }

app_is : (c : goal.After-try_get_matches_from) → app_of c.in_ok-command.command ≡ sim_app
app_is c = adds _ _ _ _ _ c.in_ok-command.ensures c.word_argument.ensures.is.local c.described.ensures.app c.word_argument.ensures.is.rule

pub returns : goal.returns
returns c =
    let parse = c.try_get_matches_from in
    record {
      rows = rows_by _ sim_app _ parse.result (app_is c) (simple_by sim_app free) parse.ensures.matches;
      taken = taken_by _ sim_app _ parse.result (app_is c) parse.ensures.passes;
      refused = refused_by _ sim_app _ parse.result (app_is c) free parse.ensures.kinds;
      file = IfOk-weaker parse.result _ _ (λ m h. subst (λ (w : List ℕ). is_some (first_value (found_of m) w) ≡ true) c.word_argument.ensures.is.id
          (chain_given _ _ (c.word_argument.result ∷ []) ids 0 c.word_argument.result m (made c) (omega arith) c.word_argument.ensures.takes h)) parse.ensures.parsed;
    }
