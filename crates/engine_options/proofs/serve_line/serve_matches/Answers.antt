use Rattle.std.proofs.Common.{ap, refl, sym, subst, Some, true, ℕ, List, [], ◌∷◌, codes, is_some, ◌≡◌, ◌∙◌, ◌^◌, arith}
use Rattle.std.proofs.lemmas.Result.{IfOk-weaker}
use Rattle.clap.specs.Words.{AddsArg, app_of, is_simple_and_free, found_of, one_text, first_value}
use Rattle.clap.specs.Built.{AddsInTurn}
use Rattle.clap.specs.declared.builder.arg.Arg.{Arg}
use Rattle.clap.proofs.OnLiterals.{clap_on_literals}
use Rattle.engine_options.specs.ServeOptions.{serve_app, SpellsBelow}
use Rattle.engine_options.proofs.Chains.{IsChain, adds, chain_given, chain_accepted}
use Rattle.engine_options.proofs.SimpleCommands.{simple_by, rows_by, taken_by, refused_by}
use Rattle.engine_options.proofs.ServeLemmas.{chain_number}
use Rattle.engine_options.proofs.serve_line.serve_matches.Goals as goal

free : is_simple_and_free serve_app ≡ true
unfolding clap_on_literals
free = refl

abbrev ids : List (List ℕ)
ids = codes "id" ∷ codes "record" ∷ codes "http" ∷ codes "rounds" ∷ codes "format" ∷ codes "above" ∷ codes "patience-ms" ∷ codes "serve-ms" ∷ codes "verbose" ∷ codes "address" ∷ []

abbrev args : (c : goal.After-try_get_matches_from) → List Arg
args c =
    c.id_option.result ∷ c.required_option.result ∷ c.required_option-2.result ∷ c.rounds_option.result ∷ c.format_flag.result ∷ c.above_option.result ∷ c.number_option.result ∷ c.number_option-2.result ∷
    c.verbose_flag.result ∷ c.address_arguments.result ∷ []

added : (c : goal.After-try_get_matches_from) → AddsInTurn AddsArg c.described.result (args c) c.in_ok-command.command
added c = subst (λ (xs : List Arg). AddsInTurn AddsArg c.described.result xs c.in_ok-command.command) c.in_ok-args.ensures.items c.in_ok-command.ensures

made : (c : goal.After-try_get_matches_from) → IsChain c.described.result c.in_ok-command.command (args c) ids
made c =
    let id = c.id_option.ensures.is in
    let file = c.required_option.ensures.is in
    let http = c.required_option-2.ensures.is in
    let rounds = c.rounds_option.ensures.is in
    let format = c.format_flag.ensures in
    let above = c.above_option.ensures in
    let patience = c.number_option.ensures.is in
    let serving = c.number_option-2.ensures.is in
    let verbose = c.verbose_flag.ensures in
    let address = c.address_arguments.ensures in
    record {
      bare = record { args = c.described.ensures.empty.0; groups = c.described.ensures.empty.1; globals = c.described.ensures.local; negates = c.described.ensures.negates };
      added = added c;
      named = (
        record { is = id.id; plain = id.plain; local = id.local },
        (
          record { is = file.id; plain = file.plain; local = file.local },
          (
            record { is = http.id; plain = http.plain; local = http.local },
            (
              record { is = rounds.id; plain = rounds.plain; local = rounds.local },
              (
                record { is = format.id; plain = format.plain; local = format.local },
                (
                  record { is = above.id; plain = above.plain; local = above.local },
                  (
                    record { is = patience.id; plain = patience.plain; local = patience.local },
                    (
                      record { is = serving.id; plain = serving.plain; local = serving.local },
                      (
                        record { is = verbose.id; plain = verbose.plain; local = verbose.local },
                        (record { is = address.id; plain = address.plain; local = address.local }, tt),
                      ),
                    ),
                  ),
                ),
              ),
            ),
          ),
        ),
      );
      different = refl;
      own = refl;
    }

app_is : (c : goal.After-try_get_matches_from) → app_of c.in_ok-command.command ≡ serve_app
app_is c =
    let id = added c in
    let file = id.2 in
    let http = file.2 in
    let rounds = http.2 in
    let format = rounds.2 in
    let above = format.2 in
    let patience = above.2 in
    let serving = patience.2 in
    let verbose = serving.2 in
    let address = verbose.2 in
    ap app_of (sym address.2) ∙ adds _ _ _ _ _ address.1 c.address_arguments.ensures.local
    (adds _ _ _ _ _ verbose.1 c.verbose_flag.ensures.local
    (adds _ _ _ _ _ serving.1 c.number_option-2.ensures.is.local
    (adds _ _ _ _ _ patience.1 c.number_option.ensures.is.local
    (adds _ _ _ _ _ above.1 c.above_option.ensures.local
    (adds _ _ _ _ _ format.1 c.format_flag.ensures.local
    (adds _ _ _ _ _ rounds.1 c.rounds_option.ensures.is.local
    (adds _ _ _ _ _ http.1 c.required_option-2.ensures.is.local
    (adds _ _ _ _ _ file.1 c.required_option.ensures.is.local
    (adds _ _ _ _ _ id.1 c.id_option.ensures.is.local c.described.ensures.app c.id_option.ensures.is.rule)
    c.required_option.ensures.is.rule)
    c.required_option-2.ensures.is.rule)
    c.rounds_option.ensures.is.rule)
    c.format_flag.ensures.rule)
    c.above_option.ensures.rule)
    c.number_option.ensures.is.rule)
    c.number_option-2.ensures.is.rule)
    c.verbose_flag.ensures.rule)
    c.address_arguments.ensures.rule

pub returns : goal.returns
returns c =
    let parse = c.try_get_matches_from in
    record {
      rows = rows_by _ serve_app _ parse.result (app_is c) (simple_by serve_app free) parse.ensures.matches;
      taken = taken_by _ serve_app _ parse.result (app_is c) parse.ensures.passes;
      refused = refused_by _ serve_app _ parse.result (app_is c) free parse.ensures.kinds;
      id = IfOk-weaker parse.result _ _ (λ m h. subst (λ (w : List ℕ). SpellsBelow (2 ^ 8) (one_text (found_of m) w)) c.id_option.ensures.is.id
          (chain_number _ _ (args c) ids 0 c.id_option.result 255 (2 ^ 8) m (made c) (omega arith) c.id_option.ensures.takes c.id_option.ensures.parser (omega arith) h)) parse.ensures.parsed;
      file = IfOk-weaker parse.result _ _ (λ m h. subst (λ (w : List ℕ). is_some (first_value (found_of m) w) ≡ true) c.required_option.ensures.is.id
          (chain_given _ _ (args c) ids 1 c.id_option.result m (made c) (omega arith) c.required_option.ensures.takes h)) parse.ensures.parsed;
      http = IfOk-weaker parse.result _ _ (λ m h. subst (λ (w : List ℕ). is_some (first_value (found_of m) w) ≡ true) c.required_option-2.ensures.is.id
          (chain_given _ _ (args c) ids 2 c.id_option.result m (made c) (omega arith) c.required_option-2.ensures.takes h)) parse.ensures.parsed;
      rounds = IfOk-weaker parse.result _ _ (λ m h. subst (λ (w : List ℕ). SpellsBelow (2 ^ 32) (one_text (found_of m) w)) c.rounds_option.ensures.is.id
          (chain_number _ _ (args c) ids 3 c.id_option.result 4294967295 (2 ^ 32) m (made c) (omega arith) c.rounds_option.ensures.takes c.rounds_option.ensures.parser (omega arith) h)) parse.ensures.parsed;
      patience = IfOk-weaker parse.result _ _ (λ m h t found. chain_accepted _ _ (args c) ids 6 c.id_option.result _ m t (made c) (omega arith) c.number_option.ensures.parser refl h
          (subst (λ (w : List ℕ). one_text (found_of m) w ≡ Some t) (sym c.number_option.ensures.is.id) found)) parse.ensures.parsed;
      serving = IfOk-weaker parse.result _ _ (λ m h t found. chain_accepted _ _ (args c) ids 7 c.id_option.result _ m t (made c) (omega arith) c.number_option-2.ensures.parser refl h
          (subst (λ (w : List ℕ). one_text (found_of m) w ≡ Some t) (sym c.number_option-2.ensures.is.id) found)) parse.ensures.parsed;
    }
