use Rattle.std.proofs.Common.{◌≡◌, ◌∙◌, ap, sym, List, ℕ, Some, codes}
use Rattle.std.specs.Prelude.{option_map}
use Rattle.std.specs.Borrow.{Bor}
use Rattle.clap.specs.Words.{Row, found_of, rows_of, first_value, first_of}
use Rattle.clap.specs.declared.parser.matches.Found.{Found}
use Rattle.clap.proofs.WalkLemmas.{first_value-rows}
use Rattle.engine_options.specs.SimOptions.{NamesFile}
use Rattle.engine_options.specs.declared.sim_line.SimOptions.{SimOptions}
use Rattle.engine_options.proofs.sim_line.sim_options.Goals as goal

named : (f : Found) (rows : List Row) (o : SimOptions) → rows_of f ≡ rows → Some o.file.now ≡ first_value f (codes "file") → NamesFile rows o
named f rows o are file = record { file = ap (first_of (codes "file")) (sym are) ∙ (sym (first_value-rows f (codes "file")) ∙ sym file) }

pub returns-clause-given : goal.returns-clause-given
returns-clause-given c = named (found_of c.in_ok-matches.matches) _ _ c.in_ok-matches.ensures.rows (sym (ap (option_map (λ (s : Bor (List ℕ)). s.now)) c.in-Some.is) ∙ c.get_str.ensures)
