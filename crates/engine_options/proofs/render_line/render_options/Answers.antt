use Rattle.std.proofs.Common.{◌∙◌, ap, sym, List, ℕ}
use Rattle.std.specs.Prelude.{option_map}
use Rattle.std.specs.Borrow.{Bor}
use Rattle.std.specs.Str.Parse.{ParsesUnsigned, ExplainsUnsignedError, HasUnsignedDigitsIfOk}
use Rattle.clap.specs.Words.{found_of}
use Rattle.engine_options.proofs.OptionLemmas.{given}
use Rattle.engine_options.proofs.render_line.render_options.Goals as goal

pub returns-clause-given : goal.returns-clause-given
returns-clause-given c =
    given _ (λ bs r. ParsesUnsigned 64 10 bs r × ExplainsUnsignedError 10 bs r × HasUnsignedDigitsIfOk bs r) (λ u x g. g.0)
    (found_of c.in_ok-matches.matches) _ _ c.in_ok-matches.ensures.rows
    (sym (ap (option_map (λ (s : Bor (List ℕ)). s.now)) c.in-Some.is) ∙ c.get_str.ensures)
    c.in_ok-matches.ensures.release c.get_one-release.ensures.none c.get_one-release.ensures.value
