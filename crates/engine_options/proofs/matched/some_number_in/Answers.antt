use Rattle.std.specs.Str.Parse.{ParsesUnsigned, ExplainsUnsignedError, HasUnsignedDigitsIfOk}
use Rattle.clap.specs.Words.{found_of, one_text}
use Rattle.engine_options.proofs.OptionLemmas.{optional_number}
use Rattle.engine_options.proofs.matched.some_number_in.Goals as goal

pub returns : goal.returns
returns c =
    optional_number _ (λ bs r. ParsesUnsigned 64 10 bs r × ExplainsUnsignedError 10 bs r × HasUnsignedDigitsIfOk bs r) (λ u x g. g.0)
    (one_text (found_of c.args.matches.now) c.args.id.now) _ c.requires.passed c.get_one.ensures.none c.get_one.ensures.value
