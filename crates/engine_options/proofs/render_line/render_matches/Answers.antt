use Rattle.std.proofs.Common.{refl, sym, subst, Some, true, ℕ, List, [], ◌∷◌, codes, is_some, ◌≡◌, arith}
use Rattle.std.proofs.lemmas.Result.{IfOk-weaker}
use Rattle.clap.specs.Words.{app_of, is_simple_and_free, found_of, one_text, first_value}
use Rattle.clap.specs.declared.builder.arg.Arg.{Arg}
use Rattle.clap.proofs.OnLiterals.{clap_on_literals}
use Rattle.engine_options.specs.Options.{render_app}
use Rattle.engine_options.proofs.Chains.{IsChain, adds, chain_given, chain_accepted}
use Rattle.engine_options.proofs.SimpleCommands.{simple_by, rows_by, taken_by, refused_by}
use Rattle.engine_options.proofs.render_line.render_matches.Goals as goal

free : is_simple_and_free render_app ≡ true
unfolding clap_on_literals
free = refl

abbrev ids : List (List ℕ)
ids = codes "release" ∷ codes "path" ∷ []

abbrev args : (c : goal.After-try_get_matches_from) → List Arg
args c = c.number_option.result ∷ c.word_argument.result ∷ []

made : (c : goal.After-try_get_matches_from) → IsChain c.described.result c.in_ok-command.command (args c) ids
made c =
    let release = c.number_option.ensures.is in
    let path = c.word_argument.ensures.is in
    record {
      bare = record { args = c.described.ensures.empty.0; groups = c.described.ensures.empty.1; globals = c.described.ensures.local; negates = c.described.ensures.negates };
      added = (c.in_ok-arg.field-0, c.in_ok-arg.ensures, (c.in_ok-command.command, c.in_ok-command.ensures, refl));
      named = (record { is = release.id; plain = release.plain; local = release.local }, (record { is = path.id; plain = path.plain; local = path.local }, tt));
      different = refl;
      own = refl;
    }

app_is : (c : goal.After-try_get_matches_from) → app_of c.in_ok-command.command ≡ render_app
app_is c =
    adds _ _ _ _ _ c.in_ok-command.ensures c.word_argument.ensures.is.local
    (adds _ _ _ _ _ c.in_ok-arg.ensures c.number_option.ensures.is.local c.described.ensures.app c.number_option.ensures.is.rule)
    c.word_argument.ensures.is.rule

pub returns : goal.returns
returns c =
    let parse = c.try_get_matches_from in
    record {
      rows = rows_by _ render_app _ parse.result (app_is c) (simple_by render_app free) parse.ensures.matches;
      taken = taken_by _ render_app _ parse.result (app_is c) parse.ensures.passes;
      refused = refused_by _ render_app _ parse.result (app_is c) free parse.ensures.kinds;
      path = IfOk-weaker parse.result _ _ (λ m h. subst (λ (w : List ℕ). is_some (first_value (found_of m) w) ≡ true) c.word_argument.ensures.is.id
          (chain_given _ _ (args c) ids 1 c.number_option.result m (made c) (omega arith) c.word_argument.ensures.takes h)) parse.ensures.parsed;
      release = IfOk-weaker parse.result _ _ (λ m h t found. chain_accepted _ _ (args c) ids 0 c.number_option.result _ m t (made c) (omega arith) c.number_option.ensures.parser refl h
          (subst (λ (w : List ℕ). one_text (found_of m) w ≡ Some t) (sym c.number_option.ensures.is.id) found)) parse.ensures.parsed;
    }
