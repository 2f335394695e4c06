use Rattle.std.proofs.Common.{◌≡◌, ◌∙◌, ap, sym, subst, List, [], ℕ, Option, Some, map, codes}
use Rattle.std.specs.Prelude.{unwrap_or}
use Rattle.clap.specs.Words.{Row, found_of, rows_of, first_value, first_of, one_text, one_of, all_of}
use Rattle.clap.specs.declared.parser.matches.Found.{Found}
use Rattle.clap.proofs.WalkLemmas.{first_value-rows, one_text-rows}
use Rattle.engine_options.specs.Options.{IsNumberOf}
use Rattle.engine_options.specs.ServeOptions.{is_set, GivesServe}
use Rattle.server_faults.specs.declared.serve_options.ServeOptions.{ServeOptions}
use Rattle.engine_options.proofs.serve_line.sited_options.Goals as goal

named : (f : Found) (rows : List Row) (o : ServeOptions) → rows_of f ≡ rows → IsNumberOf (one_text f (codes "id")) (Some o.id)
    → first_value f (codes "record") ≡ Some o.record.now → first_value f (codes "http") ≡ Some o.http.now
    → IsNumberOf (one_text f (codes "rounds")) (Some o.rounds) → o.format ≡ is_set (one_text f (codes "format"))
    → map (λ s. s.now) o.above.items ≡ unwrap_or (all_of (codes "above") (rows_of f)) []
    → IsNumberOf (one_text f (codes "patience-ms")) o.patience → IsNumberOf (one_text f (codes "serve-ms")) o.serve_ms
    → o.verbose ≡ is_set (one_text f (codes "verbose"))
    → map (λ s. s.now) o.peers.items ≡ unwrap_or (all_of (codes "address") (rows_of f)) [] → GivesServe rows o
named f rows o are id file http rounds format above patience serving verbose peers = record {
  id = subst (λ (t : Option (List ℕ)). IsNumberOf t (Some o.id)) (read (codes "id")) id;
  file = text (codes "record") ∙ file;
  http = text (codes "http") ∙ http;
  rounds = subst (λ (t : Option (List ℕ)). IsNumberOf t (Some o.rounds)) (read (codes "rounds")) rounds;
  format = format ∙ ap is_set (read (codes "format"));
  above = above ∙ ap (λ (rs : List Row). unwrap_or (all_of (codes "above") rs) []) are;
  patience = subst (λ (t : Option (List ℕ)). IsNumberOf t o.patience) (read (codes "patience-ms")) patience;
  serve_ms = subst (λ (t : Option (List ℕ)). IsNumberOf t o.serve_ms) (read (codes "serve-ms")) serving;
  verbose = verbose ∙ ap is_set (read (codes "verbose"));
  peers = peers ∙ ap (λ (rs : List Row). unwrap_or (all_of (codes "address") rs) []) are;
}
  where
    read : (id : List ℕ) → one_text f id ≡ one_of id rows
    read id = one_text-rows f id ∙ ap (one_of id) are

    text : (id : List ℕ) → first_of id rows ≡ first_value f id
    text id = ap (first_of id) (sym are) ∙ sym (first_value-rows f id)

pub returns-clause-given : goal.returns-clause-given
returns-clause-given c =
    named (found_of c.in_ok-matches.matches) _ _ c.in_ok-matches.ensures.rows c.byte_in.ensures c.text_in.ensures c.text_in-2.ensures c.number_in.ensures
    c.flag_in.ensures c.in_ok-above.ensures c.some_number_in.ensures c.some_number_in-2.ensures c.flag_in-2.ensures c.in_ok-peers.ensures
